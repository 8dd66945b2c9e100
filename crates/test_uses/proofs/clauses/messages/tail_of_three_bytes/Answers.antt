use Rattle.std.proofs.Common.{◌≡◌, ℕ, List, Result, Ok, Err, IfOk, IfErr, IsOk, length, take, true, refl, inl, inr}
use Rattle.vfs_wire.specs.declared.headers.InHeader.{InHeader}
use Rattle.vfs_segments.specs.Lengths.{lie_together}
use Rattle.vfs_grammar.specs.Forms.{tail_of}
use Rattle.vfs_grammar.specs.declared.error.Error.{Error}
use Rattle.vfs_grammar.specs.declared.error.Error.TheVariants.{OutOfMemory}
use Rattle.vfs_messages.specs.Parts.{GivesTail, TailIsCut}
use Rattle.test_uses.proofs.clauses.messages.tail_of_three_bytes.Goals as goal

module _ (wanted : Type 0) (bytes : List ℕ) where
  is_tail : (result tail : Result (List ℕ) Error) → tail ≡ Ok bytes → GivesTail wanted result tail
      → IfOk result (λ x. x ≡ bytes)
  is_tail (Ok x) tail is given = cc (is, given)
  is_tail (Err e) tail is given = tt

  is_memory : (result tail : Result (List ℕ) Error) → tail ≡ Ok bytes → GivesTail wanted result tail
      → IfErr result (λ e. e ≡ OutOfMemory)
  is_memory (Ok x) tail is given = tt
  is_memory (Err e) tail is (inl refused) = absurd (cc (is, refused))
  is_memory (Err e) tail is (inr (whole, all, want, memory)) = memory

  is_there : (wanted → ⊥) → (result tail : Result (List ℕ) Error) → tail ≡ Ok bytes
      → GivesTail wanted result tail → IsOk result
  is_there never (Ok x) tail is given = refl
  is_there never (Err e) tail is (inl refused) = absurd (cc (is, refused))
  is_there never (Err e) tail is (inr (whole, all, want, memory)) = absurd (never want)

whole_tail : (h : InHeader) (left : List ℕ) → h.len ≡ 43 → length left ≡ 3 → tail_of h 0 left ≡ Ok (take 3 left)
whole_tail h left len three = rw (len, three) refl

never_cut : (h : InHeader) (pieces : List ℕ) → h.len ≡ 43 → lie_together 0 3 pieces ≡ true → TailIsCut h 0 pieces → ⊥
never_cut h pieces len one cut = let n = rw len at cut in cc (one, n)

pub returns-clause-tail : goal.returns-clause-tail
returns-clause-tail c =
    is_tail _ _ c.read_tail.result _ (whole_tail c.args.header.now c.args.r.now.left c.requires.len c.requires.three)
    c.read_tail.ensures

pub returns-clause-memory : goal.returns-clause-memory
returns-clause-memory c =
    is_memory _ _ c.read_tail.result _ (whole_tail c.args.header.now c.args.r.now.left c.requires.len c.requires.three)
    c.read_tail.ensures

pub returns-clause-one : goal.returns-clause-one
returns-clause-one c = λ one.
    is_there _ _ (never_cut c.args.header.now c.args.r.now.pieces c.requires.len one) c.read_tail.result _
    (whole_tail c.args.header.now c.args.r.now.left c.requires.len c.requires.three) c.read_tail.ensures
