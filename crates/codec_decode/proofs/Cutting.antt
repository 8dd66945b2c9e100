-- Names and values are in the tail that they are read from.
use Rattle.std.proofs.Common.{◌≡◌, ◌∙◌, ◌+◌, ◌-◌, ◌==◌, ◌<◌, ℕ, zero, suc, Bool, true, false, if◌then◌else◌, nat_lt, List, [], ◌∷◌, length, take, drop, position, Option, None, Some, Result, Ok, Err, refl, ap, sym, arith, length-take, length-drop}
use Rattle.std.proofs.lemmas.Grind.{common_steps}
use Rattle.std.proofs.lemmas.List.{get_or-take, take_all}
use Rattle.std.proofs.lemmas.List.Quantifiers.{position-Some}
use Rattle.std.proofs.lemmas.List.Sums.{position_or_len_is}
use Rattle.std.specs.List.{position_or_len}
use Rattle.vfs_wire.specs.Records.{in_header}
use Rattle.vfs_wire.specs.declared.headers.InHeader.{InHeader}
use Rattle.vfs_files.specs.Values.{name_of, first_name, ExtensionValues}
use Rattle.vfs_files.specs.Places.{name_to, cut_at}
use Rattle.vfs_grammar.specs.Extensions.{error_or, extensions_in}
use Rattle.vfs_grammar.specs.Forms.{tail_of, two_names_in, value_in, extended_in, link_in_tail}
use Rattle.vfs_grammar.specs.Words.{name_in}
use Rattle.vfs_grammar.specs.FormParts.{name_or_refusal, both_or_refusal, second_or_refusal, sized_or_refusal, extended_or_refusal, after_name, link_or_refusal}
use Rattle.vfs_grammar.specs.Records.{size_of}
use Rattle.vfs_grammar.specs.declared.error.Error.{Error}

abbrev pub is_nul : ℕ → Bool
is_nul = λ b. b == 0

prefix : (a n : ℕ) (ys : List ℕ) → take a (take n ys) ≡ take (length (take a (take n ys))) ys
prefix zero n ys = refl
prefix (suc a) zero ys = refl
prefix (suc a) (suc n) [] = refl
prefix (suc a) (suc n) (y ∷ ys) = ap (λ (zs : List ℕ). y ∷ zs) (prefix a n ys)

-- a beginning of a beginning is there
pub stands_in : (a n : ℕ) (x ys : List ℕ) → x ≡ take a (take n ys) → x ≡ take (length x) ys
stands_in a n x ys e = e ∙ prefix a n ys ∙ ap (λ (zs : List ℕ). take (length zs) ys) (sym e)

-- what is after a place in a beginning is a beginning of what is after that place
pub dropped : (d n : ℕ) (ys : List ℕ) → (k : ℕ) × (drop d (take n ys) ≡ take k (drop d ys))
dropped zero n ys = (n, refl)
dropped (suc d) zero ys = (0, refl)
dropped (suc d) (suc n) [] = (0, refl)
dropped (suc d) (suc n) (y ∷ ys) = dropped d n ys

-- the first 0 of a beginning is the first one of all
pub first_nul_in : (n : ℕ) (ys : List ℕ) (i : ℕ) → position is_nul (take n ys) ≡ Some i → position is_nul ys ≡ Some i
first_nul_in n ys i e =
    let p = position-Some is_nul (take n ys) i 0 e in
    let low : i < n = omega (arith, p.0, length-take n ys) in
    let within : i < length ys = omega (arith, p.0, length-take n ys) in
    let at : position_or_len is_nul ys ≡ i =
    position_or_len_is is_nul ys i 0 (omega (arith, within))
    (λ k h. ap is_nul (sym (get_or-take n ys k 0 (omega (arith, h, low)))) ∙ p.2 k h)
    (λ h. ap is_nul (sym (get_or-take n ys i 0 low)) ∙ p.1) in
    grind (arith, common_steps)

-- ---- results

pub else_ok : {A : Type 0} (b : Bool) (e : Error) (next : Result A Error) (x : A) → (if b then Err e else next) ≡ Ok x → next ≡ Ok x
else_ok true e next x h = absurd (let a = h in cc)
else_ok false e next x h = h

pub then_ok : {A : Type 0} (b : Bool) (y : A) (e : Error) (x : A) → (if b then Ok y else Err e) ≡ Ok x → y ≡ x
then_ok true y e x h = let a = h in cc
then_ok false y e x h = absurd (let a = h in cc)

abbrev Same : {A : Type 0} → Result A Error → Result A Error → Type 0
Same r s = r ≡ s

pub same_ok : {A : Type 0} (y x : A) → Same (Ok y) (Ok x) → y ≡ x
same_ok y x h = let a = h in cc

pub or_ok : {A B : Type 0} (r : Result A Error) (next : A → Result B Error) (x : B) → error_or r next ≡ Ok x → (part : A) × (r ≡ Ok part) × (next part ≡ Ok x)
or_ok (Err e) next x h = absurd (let a = h in cc)
or_ok (Ok part) next x h = (part, refl, h)

-- ---- parts

pub tail_stands : (h : InHeader) (size : ℕ) (following tail : List ℕ) → tail_of h size following ≡ Ok tail → (n : ℕ) × (tail ≡ take n following)
tail_stands h size following tail e =
    let a = else_ok (nat_lt h.len (size_of in_header + size)) _ _ tail e in
    let b = else_ok (nat_lt (length following) (h.len - (size_of in_header + size))) _ _ tail a in
    (h.len - (size_of in_header + size), sym (same_ok _ tail b))

-- a name of bytes, whose first 0 is at this place
name_at : (bytes : List ℕ) (p : Option ℕ) (name : List ℕ) → name_to bytes p ≡ Some name → (j : ℕ) × (name ≡ take j bytes) × (p ≡ Some j)
name_at bytes None name e = absurd (let a = e in cc)
name_at bytes (Some i) name e = pick (i + 1 == length bytes) e
  where
    pick : (b : Bool) → (if b then Some (take i bytes) else None) ≡ Some name → (j : ℕ) × (name ≡ take j bytes) × (Some i ≡ Some j)
    pick true h = (i, let a = h in cc, refl)
    pick false h = absurd (let a = h in cc)

refused_name : (o : Option (List ℕ)) (name : List ℕ) → name_or_refusal o ≡ Ok name → o ≡ Some name
refused_name None name e = absurd (let a = e in cc)
refused_name (Some x) name e = let a = e in cc

long : (tail : List ℕ) (i : ℕ) → position is_nul tail ≡ Some i → length (take i tail) ≡ i
long tail i e = let p = (position-Some is_nul tail i 0 e).0 in length-take i tail ∙ omega (arith, p)

-- what is before the first 0 is as long as that is far
ends_at : (bytes name : List ℕ) (i : ℕ) → position is_nul bytes ≡ Some i → name ≡ take i bytes → position is_nul bytes ≡ Some (length name)
ends_at bytes name i at is = at ∙ ap Some (sym (ap length is ∙ long bytes i at))

-- a name, which ends at the first 0
pub record Named (bytes name : List ℕ) : Type 0 where
  pub i : ℕ
  pub name_is : name ≡ take i bytes
  pub ended : position is_nul bytes ≡ Some (length name)

named : (bytes name : List ℕ) → name_of bytes ≡ Some name → Named bytes name
named bytes name e =
    let n = name_at bytes (position is_nul bytes) name e in
    record { i = n.0; name_is = n.1; ended = ends_at bytes name n.0 n.2 n.1 }

pub name_stands : (tail name : List ℕ) → name_in tail ≡ Ok name → Named tail name
name_stands tail name e = named tail name (refused_name _ name e)

-- two parts of a tail: the first ends at its first 0, and the second is after it
pub record Both (tail first second : List ℕ) : Type 0 where
  pub n : ℕ
  pub within : length first < length tail
  pub first_is : first ≡ take (length first) tail
  pub ended : position is_nul tail ≡ Some (length first)
  pub second_is : second ≡ take n (drop (length first + 1) tail)

-- two names, of which the second ends at the first 0 after the first
pub record BothNames (tail first second : List ℕ) : Type 0 where
  pub parts : Both tail first second
  pub ended : position is_nul (drop (length first + 1) tail) ≡ Some (length second)

pub both : (tail first second : List ℕ) (i n : ℕ) → position is_nul tail ≡ Some i → first ≡ take i tail → second ≡ take n (drop (i + 1) tail) → Both tail first second
both tail first second i n e f s =
    let l : length first ≡ i = ap length f ∙ long tail i e in
    record {
      n = n;
      within = omega (arith, l, (position-Some is_nul tail i 0 e).0);
      first_is = f ∙ ap (λ k. take k tail) (sym l);
      ended = ends_at tail first i e f;
      second_is = s ∙ ap (λ k. take n (drop (k + 1) tail)) (sym l);
    }

second_stands : (first d : List ℕ) (o : Option (List ℕ)) (x : List ℕ × List ℕ) → second_or_refusal first o ≡ Ok x → (x.0 ≡ first) × (o ≡ Some x.1)
second_stands first d None x e = absurd (let a = e in cc)
second_stands first d (Some y) x e = let same : (first, y) ≡ x = same_ok _ x e in (sym (ap (λ (p : List ℕ × List ℕ). p.0) same), ap (λ (p : List ℕ × List ℕ). Some p.1) same)

names_at : (tail : List ℕ) (p : Option ℕ) → position is_nul tail ≡ p → (x : List ℕ × List ℕ) → both_or_refusal (cut_at tail p) ≡ Ok x → BothNames tail x.0 x.1
names_at tail None at x e = absurd (let a = e in cc)
names_at tail (Some i) at x e =
    let s = second_stands (take i tail) (drop (i + 1) tail) (name_of (drop (i + 1) tail)) x e in
    let n = named (drop (i + 1) tail) x.1 s.1 in
    let l : length x.0 ≡ i = ap length s.0 ∙ long tail i at in
    record {
      parts = both tail x.0 x.1 i n.i at s.0 n.name_is;
      ended = ap (λ k. position is_nul (drop (k + 1) tail)) l ∙ n.ended;
    }

pub names_stand : (tail : List ℕ) (x : List ℕ × List ℕ) → two_names_in tail ≡ Ok x → BothNames tail x.0 x.1
names_stand tail x e = names_at tail (position is_nul tail) refl x e

value_at : (size : ℕ) (tail : List ℕ) (p : Option ℕ) → position is_nul tail ≡ p → (x : List ℕ × List ℕ) → sized_or_refusal size (cut_at tail p) ≡ Ok x → Both tail x.0 x.1
value_at size tail None at x e = absurd (let a = e in cc)
value_at size tail (Some i) at x e =
    let same : (take i tail, drop (i + 1) tail) ≡ x = then_ok (length (drop (i + 1) tail) == size) _ _ x e in
    let s : x.1 ≡ drop (i + 1) tail = sym (ap (λ (p : List ℕ × List ℕ). p.1) same) in
    both tail x.0 x.1 i (length (drop (i + 1) tail)) at (sym (ap (λ (p : List ℕ × List ℕ). p.0) same)) (s ∙ sym (take_all (length (drop (i + 1) tail)) (drop (i + 1) tail) (omega arith)))

pub value_stands : (size : ℕ) (tail : List ℕ) (x : List ℕ × List ℕ) → value_in size tail ≡ Ok x → Both tail x.0 x.1
value_stands size tail x e = value_at size tail (position is_nul tail) refl x e

-- a name at the front of bytes, and the extensions after it
pub record Extended (options : ℕ) (bytes name : List ℕ) (ext : ExtensionValues) : Type 0 where
  pub i : ℕ
  pub within : length name < length bytes
  pub name_is : name ≡ take i bytes
  pub ended : position is_nul bytes ≡ Some (length name)
  pub says : extensions_in options (drop (length name + 1) bytes) ≡ Ok ext

extended_at : (options : ℕ) (bytes : List ℕ) (p : Option ℕ) → position is_nul bytes ≡ p → (ext : ExtensionValues) (x : List ℕ × ExtensionValues)
    → extensions_in options (after_name (cut_at bytes p)) ≡ Ok ext → extended_or_refusal (cut_at bytes p) ext ≡ Ok x → Extended options bytes x.0 x.1
extended_at options bytes None at ext x says e = absurd (let a = e in cc)
extended_at options bytes (Some i) at ext x says e =
    let same : (take i bytes, ext) ≡ x = same_ok _ x e in
    let name : x.0 ≡ take i bytes = sym (ap (λ (p : List ℕ × ExtensionValues). p.0) same) in
    let l : length x.0 ≡ i = ap length name ∙ long bytes i at in
    record {
      i = i;
      within = omega (arith, l, (position-Some is_nul bytes i 0 at).0);
      name_is = name;
      ended = ends_at bytes x.0 i at name;
      says = ap (λ k. extensions_in options (drop (k + 1) bytes)) l ∙ says ∙ ap (λ (p : List ℕ × ExtensionValues). Ok p.1) same;
    }

pub extended_stands : (options : ℕ) (bytes : List ℕ) (x : List ℕ × ExtensionValues) → extended_in options bytes ≡ Ok x → Extended options bytes x.0 x.1
extended_stands options [] x e = absurd (let a = e in cc)
extended_stands options (b ∷ bytes) x e =
    let o = or_ok (extensions_in options (after_name (first_name (b ∷ bytes)))) _ x e in
    extended_at options (b ∷ bytes) (position is_nul (b ∷ bytes)) refl o.0 x o.1 o.2

-- a link's name and its text, and the extensions after them
pub record Linked (options : ℕ) (tail name text : List ℕ) (ext : ExtensionValues) : Type 0 where
  pub parts : BothNames tail name text
  pub within : length text < length (drop (length name + 1) tail)
  pub says : extensions_in options (drop (length text + 1) (drop (length name + 1) tail)) ≡ Ok ext

link_at : (options : ℕ) (tail : List ℕ) (p : Option ℕ) → position is_nul tail ≡ p → (x : List ℕ × List ℕ × ExtensionValues) → link_or_refusal options (cut_at tail p) ≡ Ok x → Linked options tail x.0 x.1 x.2
link_at options tail None at x e = absurd (let a = e in cc)
link_at options tail (Some i) at x e =
    let o = or_ok (extended_in options (drop (i + 1) tail)) _ x e in
    let same : (take i tail, o.0.0, o.0.1) ≡ x = same_ok _ x o.2 in
    let t = extended_stands options (drop (i + 1) tail) o.0 o.1 in
    let name : x.0 ≡ take i tail = sym (ap (λ (p : List ℕ × List ℕ × ExtensionValues). p.0) same) in
    let text : x.1 ≡ o.0.0 = sym (ap (λ (p : List ℕ × List ℕ × ExtensionValues). p.1) same) in
    let l : length x.0 ≡ i = ap length name ∙ long tail i at in
    record {
      parts = record {
        parts = both tail x.0 x.1 i t.i at name (text ∙ t.name_is);
        ended = ap (λ k. position is_nul (drop (k + 1) tail)) l ∙ t.ended ∙ ap (λ (xs : List ℕ). Some (length xs)) (sym text);
      };
      within = omega (arith, t.within, ap length text, l, length-drop (i + 1) tail, length-drop (length x.0 + 1) tail);
      says = ap (λ k. extensions_in options (drop (length x.1 + 1) (drop (k + 1) tail))) l
          ∙ ap (λ (xs : List ℕ). extensions_in options (drop (length xs + 1) (drop (i + 1) tail))) text
          ∙ t.says ∙ ap (λ (p : List ℕ × List ℕ × ExtensionValues). Ok p.2) same;
    }

pub link_stands : (options : ℕ) (tail : List ℕ) (x : List ℕ × List ℕ × ExtensionValues) → link_in_tail options tail ≡ Ok x → Linked options tail x.0 x.1 x.2
link_stands options tail x e = link_at options tail (position is_nul tail) refl x e
