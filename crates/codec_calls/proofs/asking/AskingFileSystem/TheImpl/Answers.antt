use Rattle.std.proofs.lemmas.Iterator.Adapters.{option_map_id}
use Rattle.std.proofs.lemmas.List.{map-id}
use Rattle.codec_calls.proofs.asking.AskingFileSystem.TheImpl.Goals as goal

pub getattr-tells : goal.getattr-tells
getattr-tells g x x' x'' c = rw (option_map_id c.args.handle) (search)

pub setattr-tells : goal.setattr-tells
setattr-tells g x x' x'' c = rw (option_map_id c.args.handle) (search)

pub batch_forget-tells : goal.batch_forget-tells
batch_forget-tells g x x' x'' c = rw (map-id c.args.requests.items) (search)
