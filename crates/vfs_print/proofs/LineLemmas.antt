-- Lines that a message without a whole header has.
use Rattle.std.proofs.Common.{◌≡◌, ◌<◌, ◌≤◌, ◌+◌, ◌-◌, ◌++◌, ◌∙◌, ℕ, Bool, true, false, List, [], ◌∷◌, length, take, drop, nat_lt, if◌then◌else◌, Option, Some, None, refl, ap, sym, subst, arith, length-append}
use Rattle.std.proofs.Math.ListN.{set}
use Rattle.std.proofs.Math.Seq.{take-append_seam, drop-append_seam}
use Rattle.std.proofs.lemmas.List.{drop-drop, drop-set, length-take-le, take-set}
use Rattle.std.proofs.lemmas.List.Elements.{All-nil, All-cons, All-append, All-same, All-take}
use Rattle.std.specs.Prelude.{All, IfSome, codes, ◌&&◌}
use Rattle.vfs_print.specs.Text.{IsPrintable}
use Rattle.vfs_print.specs.Lines.{IsBegun, IsLine, PutsText, short_line, shown}
use Rattle.vfs_print.specs.declared.message.Message.{Message}
use Rattle.vfs_print.specs.declared.message.Message.TheVariants.{Request, Reply}
use Rattle.vfs_print.specs.declared.part.Part.{Part}

-- a test whether all characters are printable
abbrev pub are_printable : (line : List ℕ) → Bool
are_printable [] = true
are_printable (c ∷ line) = nat_lt 31 c && nat_lt c 127 && are_printable line

first_printable : (c : ℕ) (rest : Bool) → (nat_lt 31 c && nat_lt c 127 && rest) ≡ true → IsPrintable c
first_printable c rest test = grind arith

rest_printable : (c : ℕ) (rest : Bool) → (nat_lt 31 c && nat_lt c 127 && rest) ≡ true → rest ≡ true
rest_printable c rest test = grind arith

pub printable_by_test : (line : List ℕ) → are_printable line ≡ true → All IsPrintable line
printable_by_test [] test = All-nil IsPrintable
printable_by_test (c ∷ line) test =
    All-cons IsPrintable c line (first_printable c (are_printable line) test)
    (printable_by_test line (rest_printable c (are_printable line) test))

-- such a line fits a part, and is printable
abbrev IsShort : (line : List ℕ) → Type 0
IsShort line = (length line ≤ 4096) × All IsPrintable line

if_some : (test : Bool) (line : List ℕ) (other : Option (List ℕ)) → IsShort line → IfSome other IsShort
    → IfSome (if test then Some line else other) IsShort
if_some true line other first second = first
if_some false line other first second = second

pub short_lines : (m : Message) → IfSome (short_line m) IsShort
short_lines (Request bytes options) =
    if_some (nat_lt (length bytes.now) 40) (codes "refused=DecodeMessage") None
    (omega arith, printable_by_test (codes "refused=DecodeMessage") refl) tt
short_lines (Reply request bytes) =
    if_some (nat_lt (length bytes.now) 1) (codes "-> no reply") _
    (omega arith, printable_by_test (codes "-> no reply") refl)
    (if_some (nat_lt (length bytes.now) 16) (codes "-> refused=DecodeMessage") None
    (omega arith, printable_by_test (codes "-> refused=DecodeMessage") refl) tt)

-- where it is put into a part, the part has all of it
pub short_put : (m : Message) (line : List ℕ) (old new : Part) (from : ℕ) → short_line m ≡ Some line
    → old.from ≡ from → old.len ≡ 0 → PutsText old line new
    → IfSome (short_line m) (λ line. IsBegun line from new)
short_put m line old new from is place empty put =
    let short : IsShort line = rw is at (short_lines m) in
    rw is (λ first.
    let all = put (rw place first) (omega (arith, empty, short.0)) short.1 in
    (grind (arith, all.1, empty), rw empty at all.2))

-- ---- memory over which a part was copied, from one place to the next

module _ (old bytes new : List ℕ) (at next : ℕ) (order : at ≤ next) (within : next ≤ length old)
    (enough : next - at ≤ length bytes)
    (copied : new ≡ take at old ++ take (next - at) bytes ++ drop next old) where
  front : List ℕ
  front = take at old ++ take (next - at) bytes

  front_is : front ≡ take at old ++ take (next - at) bytes
  unfolding front
  front_is = refl

  front_long : length front ≡ next
  unfolding front
  front_long =
      let first : length (take at old) ≡ at = length-take-le at old (omega (arith, order, within)) in
      let second : length (take (next - at) bytes) ≡ next - at = length-take-le (next - at) bytes enough in
      omega (arith, length-append (take at old) (take (next - at) bytes), first, second, order)

  in_two : new ≡ front ++ drop next old
  unfolding front
  in_two = copied

  pub copied_after : drop next new ≡ drop next old
  copied_after =
      ap (drop next) in_two
      ∙ subst (λ (n : ℕ). drop n (front ++ drop next old) ≡ drop next old) front_long (drop-append_seam front (drop next old))

  copied_front : take next new ≡ front
  copied_front =
      ap (take next) in_two
      ∙ subst (λ (n : ℕ). take n (front ++ drop next old) ≡ front) front_long (take-append_seam front (drop next old))

  pub copied_printable : All IsPrintable (take at old) → All IsPrintable bytes → All IsPrintable (take next new)
  copied_printable first second =
      All-same IsPrintable (take next new) (take at old ++ take (next - at) bytes) (copied_front ∙ front_is)
      (All-append IsPrintable (take at old) (take (next - at) bytes) first (All-take IsPrintable (next - at) bytes second))

-- what is the same after a place is the same after a later one
pub same_further : (a b : List ℕ) (m n : ℕ) → m ≤ n → drop m a ≡ drop m b → drop n a ≡ drop n b
same_further a b m n order same =
    let sum : m + (n - m) ≡ n = omega (arith, order) in
    let all : drop (m + (n - m)) a ≡ drop (m + (n - m)) b =
    sym (drop-drop (n - m) m a) ∙ ap (drop (n - m)) same ∙ drop-drop (n - m) m b in
    subst (λ (k : ℕ). drop k a ≡ drop k b) sum all

-- a short line is whole after its first part
pub no_more : (line : Option (List ℕ)) (X Y : List ℕ → Type 0) (at end : ℕ) → at < end
    → IfSome line (λ l. (at ≡ end) × X l) → IfSome line Y
no_more None X Y at end order all = tt
no_more (Some l) X Y at end order all = absurd (omega (arith, order, all.0))

-- a line that is in memory up to a 0
pub ended : (len : ℕ) (old text : List ℕ) → shown len old < length text
    → All IsPrintable (take (shown len old) text) → drop (shown len old) text ≡ drop (shown len old) old
    → IsLine len old (set text (shown len old) 0)
ended len old text within printable following =
    let end = shown len old in
    let tail : drop (end + 1) text ≡ drop (end + 1) old =
    same_further text old end (end + 1) (omega arith) following in
    record {
      printable = All-same IsPrintable (take end (set text end 0)) (take end text) (take-set text end 0) printable;
      ends = drop-set text end 0 within ∙ ap (λ (l : List ℕ). 0 ∷ l) tail;
    }
