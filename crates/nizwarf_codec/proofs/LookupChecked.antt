-- A LOOKUP of a name in one piece is whole, and takes no memory.
use Rattle.std.proofs.Common.{◌≡◌, ◌∙◌, ℕ, ℤ, List, [], ◌∷◌, length, ap, subst, inl, inr}
use Rattle.vfs_flags.specs.Numbers.{opcode_of}
use Rattle.vfs_wire.specs.Fields.{little, number}
use Rattle.vfs_segments.specs.Lengths.{lengths_from}
use Rattle.vfs_segments.specs.Unread.{Unread}
use Rattle.vfs_grammar.specs.Ask.{ask}
use Rattle.vfs_grammar.specs.Forms.{Ask, Asks, WithMemory}
use Rattle.vfs_grammar.specs.Samples.{lookup_of_a}
use Rattle.codec_calls.specs.declared.call.CallData.{CallData}
use Rattle.codec_decode.specs.Asked.{interrupted_by}
use Rattle.codec_decode.specs.Checked.{Judges}
use Rattle.codec_decode.specs.Memory.{MayWant}
use Rattle.codec_decode.specs.declared.checked.Checked.{Checked}
use Rattle.codec_decode.specs.declared.checked.Checked.TheVariants as checked
use Rattle.c_rooms.specs.Codes.{is_asked}
use Rattle.nizwarf_codec.specs.Checking.{Checks, checked_code}
use Rattle.nizwarf_codec.specs.Uses.{IsLookupOfA}
use Rattle.nizwarf_codec.proofs.Lookup.{limits, echo, lookup, asks, told_lookup}

none_wanted : (r : Unread) → r.left ≡ lookup_of_a → r.pieces ≡ 42 ∷ [] → MayWant limits 0 4096 r → ⊥
unfolding number little opcode_of
none_wanted r left pieces wanted = let cut = rw (left, pieces) at wanted in let a = cut in cc

by_checked : (wanted : Type 0) (interrupts : ℕ) (result : Checked) (call : CallData) → (wanted → ⊥)
    → Judges wanted lookup_of_a 0 interrupts 4096 (WithMemory (Asks echo lookup)) result call
    → (result ≡ checked.Call) × IsLookupOfA call
by_checked wanted interrupts result call none (inl j) = (j.0, told_lookup call j.1)
by_checked wanted interrupts result call none (inr j) = absurd (none j.0)

pub looked_at : (request : List ℕ) (code : ℤ) (call : CallData) (interrupts : ℕ) → request ≡ lookup_of_a
    → Checks limits 0 request 4096 code call interrupts → (code ≡ is_asked) × IsLookupOfA call
looked_at request code call interrupts is k =
    let left : k.reader.left ≡ lookup_of_a = k.whole.left ∙ is in
    let pieces : k.reader.pieces ≡ 42 ∷ [] = k.whole.one_piece ∙ ap (λ (q : List ℕ). lengths_from 0 (length q ∷ [])) is in
    let wanted = MayWant limits 0 4096 k.reader in
    let of_a : Judges wanted lookup_of_a 0 (interrupted_by limits lookup_of_a) 4096 (ask limits 0 4096 lookup_of_a) k.result call =
    subst (λ (q : List ℕ). Judges wanted q 0 (interrupted_by limits q) 4096 (ask limits 0 4096 q) k.result call) left k.checked in
    let judges = subst (λ (a : Ask). Judges wanted lookup_of_a 0 (interrupted_by limits lookup_of_a) 4096 a k.result call) (asks 4096) of_a in
    let came = by_checked wanted (interrupted_by limits lookup_of_a) k.result call (none_wanted k.reader left pieces) judges in
    (k.says_code ∙ ap checked_code came.0, came.1)
