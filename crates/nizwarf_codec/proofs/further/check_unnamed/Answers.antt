use Rattle.std.proofs.Common.{◌≡◌, ◌++◌, [], append-nil, rules}
use Rattle.codec_calls.specs.declared.call.number.TheConstants.{CREATE}
use Rattle.codec_decode.specs.WithOpcode.{unread_with_opcode}
use Rattle.nizwarf_codec.specs.Checking.{IsWhole}
use Rattle.nizwarf_codec.proofs.OfferedAsks.{whole_as}
use Rattle.nizwarf_codec.proofs.further.check_unnamed.Goals as goal

pub returns : goal.returns
returns c =
    let q = c.args.request.now in
    let reader = c.reader_of-reader.result in
    let all : q ++ [] ≡ q = append-nil q in
    let whole : IsWhole q reader = rw all at c.reader_of-reader.ensures in (
      c.check_as.new.call,
      record {
        reader = unread_with_opcode CREATE reader;
        whole = whole_as q reader c.requires.whole whole;
        result = c.check_as.result;
        checked = c.check_as.ensures;
        says_code = search rules;
        says_number = search rules;
      },
      search rules,
    )
