-- A TMPFILE that was answered was a turn of the CREATE of the same bytes.
use Rattle.std.proofs.Common.{◌≡◌, ◌≤◌, ◌+◌, ◌∙◌, ℕ, ℤ, Bool, false, List, Option, Some, None, IfSome, MatchOption, nat_lt, if◌then◌else◌, ap, subst, arith}
use Rattle.std.proofs.lemmas.Bool.{le-ltb}
use Rattle.std.specs.Prelude.{max, min}
use Rattle.vfs_flags.specs.declared.constants.TheConstants.{GREATEST_MAX_BUFFER, LEAST_MAX_BUFFER}
use Rattle.vfs_grammar.specs.declared.limits.Limits.{Limits}
use Rattle.vfs_wire.specs.Fields.{little, number}
use Rattle.codec_decode.specs.Further.{What, Ordinary, Unnamed}
use Rattle.laws_flight.specs.OfferedTurns.{as_create}
use Rattle.codec_decode.specs.RowUses.{tmpfile}
use Rattle.c_rooms.specs.Codes.{ok}
use Rattle.vfs_server.specs.Step.{ServerState}
use Rattle.nizwarf_tree.specs.Files.{State}
use Rattle.nizwarf_tree.specs.History.{Answered, AnsweredAs, Turned}
use Rattle.nizwarf_tree.specs.Offered.{what_asked}
use Rattle.nizwarf_tree.proofs.Calling.{answered_as}

-- a `len` of 58 is none too large, by whatever limits
not_above : (largest : ℕ) → nat_lt (max (min largest GREATEST_MAX_BUFFER) LEAST_MAX_BUFFER + 4096) 58 ≡ false
not_above largest =
    let least : 58 ≤ max (min largest GREATEST_MAX_BUFFER) LEAST_MAX_BUFFER + 4096 = omega arith in
    le-ltb _ _ least

unnamed : (limits : Limits) → what_asked limits tmpfile ≡ Unnamed
unfolding number little
unnamed limits = ap (λ (above : Bool). if above then Ordinary else Unnamed) (not_above limits.max_buffer)

of_create : (old new : ServerState State) (q : List ℕ) (total : ℕ) (code : ℤ) (len : ℕ) (room : List ℕ) (shown : ℕ)
    → q ≡ tmpfile → Answered old q total code len room shown new → code ≡ ok
    → Turned old (as_create tmpfile) total code len room shown new
of_create old new q total code len room shown is x fine =
    let asks : what_asked old.limits q ≡ Unnamed = ap (what_asked old.limits) is ∙ unnamed old.limits in
    let turn : Turned old (as_create q) total code len room shown new =
    subst (λ (w : What). AnsweredAs w old q total code len room shown new) asks
    (answered_as old q total code len room shown new x fine) in
    subst (λ (r : List ℕ). Turned old (as_create r) total code len room shown new) is turn

module _ {A : Type 0} (server : A → ServerState State) (left : A → List ℕ) (shown : A → ℕ) where
  pub created : (q : List ℕ) (total len : ℕ) (code : ℤ) (a b : Option A) → q ≡ tmpfile
      → IfSome a (λ s. MatchOption b ⊥ (λ t.
      Answered (server s) q total code len (left t) (shown t) (server t)))
      → code ≡ ok
      → IfSome a (λ s. MatchOption b ⊥ (λ t.
      Turned (server s) (as_create tmpfile) total ok len (left t) (shown t) (server t)))
  created q total len code None b is x fine = tt
  created q total len code (Some s) None is x fine = absurd x
  created q total len code (Some s) (Some t) is x fine =
      subst (λ (z : ℤ). Turned (server s) (as_create tmpfile) total z len (left t) (shown t) (server t)) fine
      (of_create (server s) (server t) q total code len (left t) (shown t) is x fine)
