use Rattle.vfs_files.specs.Answers.{entry_answer}
use Rattle.codec_encode.proofs.call.entry_here.Goals as goal

pub returns : goal.returns
returns c = λ limits text. record {
  answer = entry_answer c.entry.result;
  said = c.entry.ensures text c.args.w.now.left;
  comes = c.put_entry.ensures limits;
  kept = tt;
}
