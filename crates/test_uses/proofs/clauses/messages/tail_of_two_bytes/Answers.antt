use Rattle.std.proofs.Common.{◌≡◌, ℕ, List, Result, Ok, Err, length, refl, inl, inr}
use Rattle.vfs_wire.specs.declared.headers.InHeader.{InHeader}
use Rattle.vfs_grammar.specs.Forms.{tail_of}
use Rattle.vfs_grammar.specs.declared.error.Error.{Error}
use Rattle.vfs_grammar.specs.declared.error.Error.TheVariants.{DecodeMessage}
use Rattle.vfs_messages.specs.Parts.{GivesTail}
use Rattle.test_uses.proofs.clauses.messages.tail_of_two_bytes.Goals as goal

is_refused : (wanted : Type 0) (error : Error) (result tail : Result (List ℕ) Error) → tail ≡ Err error
    → GivesTail wanted result tail → result ≡ Err error
is_refused wanted error (Ok x) tail is given = absurd (cc (is, given))
is_refused wanted error (Err e) tail is (inl refused) = cc (is, refused)
is_refused wanted error (Err e) tail is (inr (whole, all, want, memory)) = absurd (cc (is, all))

cut_tail : (h : InHeader) (left : List ℕ) → h.len ≡ 43 → length left ≡ 2 → tail_of h 0 left ≡ Err DecodeMessage
cut_tail h left len two = rw (len, two) refl

pub returns : goal.returns
returns c =
    is_refused _ DecodeMessage c.read_tail.result _
    (cut_tail c.args.header.now c.args.r.now.left c.requires.len c.requires.two) c.read_tail.ensures
