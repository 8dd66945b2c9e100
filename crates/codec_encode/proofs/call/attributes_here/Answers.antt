use Rattle.vfs_files.specs.Answers.{attr_answer}
use Rattle.codec_encode.proofs.call.attributes_here.Goals as goal

pub returns : goal.returns
returns c = λ limits text. record {
  answer = attr_answer c.attributes.result;
  said = c.attributes.ensures text c.args.w.now.left;
  comes = c.put_attributes.ensures limits;
  kept = tt;
}
