use Rattle.std.proofs.Common.{◌≡◌, ℕ, List, [], ◌∷◌, Result, Ok, Err, IfOk, IfErr, IsOk, true, refl, subst, inl, inr}
use Rattle.vfs_wire.specs.declared.headers.InHeader.{InHeader}
use Rattle.vfs_segments.specs.Lengths.{lie_together}
use Rattle.vfs_grammar.specs.Forms.{tail_of}
use Rattle.vfs_grammar.specs.Words.{name_in}
use Rattle.vfs_grammar.specs.declared.error.Error.{Error}
use Rattle.vfs_grammar.specs.declared.error.Error.TheVariants.{OutOfMemory}
use Rattle.vfs_messages.specs.Parts.{GivesPart, TailIsCut}
use Rattle.test_uses.proofs.clauses.messages.name_of_two_bytes.Goals as goal

-- of a tail that is whole and is this name
module _ (wanted : Type 0) (bytes name : List ℕ) (named : name_in bytes ≡ Ok name) where
  is_name : (result tail : Result (List ℕ) Error) → tail ≡ Ok bytes → GivesPart wanted name_in result tail
      → IfOk result (λ x. x ≡ name)
  is_name (Ok x) tail is (whole, all, part) =
      let same : whole ≡ bytes = cc (is, all) in
      let got : name_in bytes ≡ Ok x = subst (λ (b : List ℕ). name_in b ≡ Ok x) same part in
      cc (named, got)
  is_name (Err e) tail is given = tt

  is_memory : (result tail : Result (List ℕ) Error) → tail ≡ Ok bytes → GivesPart wanted name_in result tail
      → IfErr result (λ e. e ≡ OutOfMemory)
  is_memory (Ok x) tail is given = tt
  is_memory (Err e) tail is (inl refused) = absurd (cc (is, refused))
  is_memory (Err e) tail is (inr (whole, all, inl refused)) =
      let same : whole ≡ bytes = cc (is, all) in
      let got : name_in bytes ≡ Err e = subst (λ (b : List ℕ). name_in b ≡ Err e) same refused in
      absurd (cc (named, got))
  is_memory (Err e) tail is (inr (whole, all, inr (want, memory))) = memory

  is_there : (wanted → ⊥) → (result tail : Result (List ℕ) Error) → tail ≡ Ok bytes
      → GivesPart wanted name_in result tail → IsOk result
  is_there never (Ok x) tail is given = refl
  is_there never (Err e) tail is (inl refused) = absurd (cc (is, refused))
  is_there never (Err e) tail is (inr (whole, all, inl refused)) =
      let same : whole ≡ bytes = cc (is, all) in
      let got : name_in bytes ≡ Err e = subst (λ (b : List ℕ). name_in b ≡ Err e) same refused in
      absurd (cc (named, got))
  is_there never (Err e) tail is (inr (whole, all, inr (want, memory))) = absurd (never want)

whole_tail : (h : InHeader) (left : List ℕ) → h.len ≡ 42 → left ≡ 0x61 ∷ 0 ∷ [] → tail_of h 0 left ≡ Ok (0x61 ∷ 0 ∷ [])
whole_tail h left len a = rw (len, a) refl

never_cut : (h : InHeader) (pieces : List ℕ) → h.len ≡ 42 → lie_together 0 2 pieces ≡ true → TailIsCut h 0 pieces → ⊥
never_cut h pieces len one cut = let n = rw len at cut in cc (one, n)

pub returns-clause-name : goal.returns-clause-name
returns-clause-name c =
    is_name _ (0x61 ∷ 0 ∷ []) (0x61 ∷ []) refl c.name.result _
    (whole_tail c.args.request.now.header.now c.args.request.now.r.now.left c.requires.len c.requires.a) c.name.ensures.name

pub returns-clause-memory : goal.returns-clause-memory
returns-clause-memory c =
    is_memory _ (0x61 ∷ 0 ∷ []) (0x61 ∷ []) refl c.name.result _
    (whole_tail c.args.request.now.header.now c.args.request.now.r.now.left c.requires.len c.requires.a) c.name.ensures.name

pub returns-clause-one : goal.returns-clause-one
returns-clause-one c = λ one.
    is_there _ (0x61 ∷ 0 ∷ []) (0x61 ∷ []) refl
    (never_cut c.args.request.now.header.now c.args.request.now.r.now.pieces c.requires.len one) c.name.result _
    (whole_tail c.args.request.now.header.now c.args.request.now.r.now.left c.requires.len c.requires.a) c.name.ensures.name
