-- Rows that a tree answered.
use Rattle.std.proofs.Common.{◌≡◌, ◌≤◌, ◌+◌, ◌∙◌, ℕ, ℤ, Bool, false, List, Option, Some, None, IfSome, MatchOption, nat_lt, if◌then◌else◌, ap, sym, subst, arith}
use Rattle.std.proofs.lemmas.Bool.{le-ltb}
use Rattle.std.specs.Prelude.{max, min}
use Rattle.vfs_flags.specs.declared.constants.TheConstants.{GREATEST_MAX_BUFFER, LEAST_MAX_BUFFER}
use Rattle.vfs_wire.specs.Fields.{little, number}
use Rattle.vfs_files.specs.Calls.{Answer}
use Rattle.vfs_grammar.specs.declared.limits.Limits.{Limits}
use Rattle.codec_calls.specs.declared.call.CallData.{CallData}
use Rattle.codec_decode.specs.Further.{What, Ordinary, Row, told_under, what_of}
use Rattle.laws_flight.specs.OfferedTurns.{FollowsOffered}
use Rattle.codec_decode.specs.RowUses.{statx, statx_asked}
use Rattle.c_rooms.specs.Codes.{ok}
use Rattle.vfs_server.specs.Step.{ServerState}
use Rattle.fs_tree.specs.Rows.{ioctl_answer, statx_answer}
use Rattle.nizwarf_tree.specs.Files.{State, row_answer}
use Rattle.nizwarf_tree.specs.History.{Answered, AnsweredAs}
use Rattle.nizwarf_tree.specs.Offered.{row_limits, what_asked}
use Rattle.nizwarf_tree.specs.Served.{RowInC}
use Rattle.nizwarf_tree.specs.TreeUses.{IsRow, getflags, getflags_asked}
use Rattle.nizwarf_tree.proofs.Calling.{answered_as}

-- a `len` of 100 is none too large, by whatever limits, nor one that is less
not_above : (largest len : ℕ) → len ≤ 100
    → nat_lt (max (min largest GREATEST_MAX_BUFFER) LEAST_MAX_BUFFER + 4096) len ≡ false
not_above largest len small =
    let least : len ≤ max (min largest GREATEST_MAX_BUFFER) LEAST_MAX_BUFFER + 4096 = omega (arith, small) in
    le-ltb _ _ least

asks_statx : (limits : Limits) → what_asked limits statx ≡ Row (statx_asked 0 0)
unfolding number little
asks_statx limits =
    ap (λ (above : Bool). if above then Ordinary else Row (statx_asked 0 0))
    (not_above limits.max_buffer 64 (omega arith))

asks_flags : (limits : Limits) → what_asked limits getflags ≡ Row (getflags_asked 0 0)
unfolding number little
asks_flags limits =
    ap (λ (above : Bool). if above then Ordinary else Row (getflags_asked 0 0))
    (not_above limits.max_buffer 72 (omega arith))

-- a row that was answered, by what its request asks
module _ (old new : ServerState State) (q asked : List ℕ) (total len : ℕ) (code : ℤ) (room : List ℕ) (shown : ℕ)
    (told : CallData) (is : q ≡ asked) (asks : what_asked old.limits asked ≡ Row told) (fine : code ≡ ok)
    (x : Answered old q total code len room shown new) where
  of_row : RowInC old q total code len room shown new
  of_row =
      subst (λ (w : What). AnsweredAs w old q total code len room shown new) (ap (what_asked old.limits) is ∙ asks)
      (answered_as old q total code len room shown new x fine)

  pub row_is : IsRow old (told_under old.options total told) (row_answer old.fs (told_under old.options total told))
      total len room new
  row_is =
      let r = of_row in
      let request : what_of r.t.offers (row_limits old.limits) r.t.turn.request ≡ Row told =
      ap (λ (n : ℕ). what_of n (row_limits old.limits) r.t.turn.request) r.offered
      ∙ ap (what_asked old.limits) (r.asked ∙ is) ∙ asks in
      let follows : FollowsOffered r.t (row_limits old.limits) old.options (Row told) old.options =
      subst (λ (w : What). FollowsOffered r.t (row_limits old.limits) old.options w old.options) request r.turn in
      let call : CallData = told_under old.options total told in
      let row : r.t.row ≡ Some (call, follows.0) =
      follows.1 ∙ ap (λ (n : ℕ). Some (told_under old.options n told, follows.0)) r.space in
      let answer : follows.0 ≡ row_answer old.fs call =
      subst (λ (o : Option (CallData × Answer)). IfSome o (λ y. y.1 ≡ row_answer old.fs y.0)) row r.answered in
      record {
        t = r.t;
        turn = r.turn;
        row = row ∙ ap (λ (a : Answer). Some (call, a)) answer;
        space = r.space;
        fine = sym r.numbered ∙ fine;
        counted = r.counted;
        left = r.left;
        same = r.same;
      }

module _ {A : Type 0} (server : A → ServerState State) (left : A → List ℕ) (shown : A → ℕ) where
  pub statx_told : (q : List ℕ) (total len : ℕ) (code : ℤ) (a b : Option A) → q ≡ statx
      → IfSome a (λ s. MatchOption b ⊥ (λ t.
      Answered (server s) q total code len (left t) (shown t) (server t)))
      → code ≡ ok
      → IfSome a (λ s. MatchOption b ⊥ (λ t.
      IsRow (server s) (statx_asked (server s).options total) (statx_answer (server s).fs 1) total len (left t)
      (server t)))
  statx_told q total len code None b is x fine = tt
  statx_told q total len code (Some s) None is x fine = absurd x
  statx_told q total len code (Some s) (Some t) is x fine =
      row_is (server s) (server t) q statx total len code (left t) (shown t) (statx_asked 0 0) is
      (asks_statx (server s).limits) fine x

  pub flags_told : (q : List ℕ) (total len : ℕ) (code : ℤ) (a b : Option A) → q ≡ getflags
      → IfSome a (λ s. MatchOption b ⊥ (λ t.
      Answered (server s) q total code len (left t) (shown t) (server t)))
      → code ≡ ok
      → IfSome a (λ s. MatchOption b ⊥ (λ t.
      IsRow (server s) (getflags_asked (server s).options total) (ioctl_answer (server s).fs 1 0x80086601 4) total len
      (left t) (server t)))
  flags_told q total len code None b is x fine = tt
  flags_told q total len code (Some s) None is x fine = absurd x
  flags_told q total len code (Some s) (Some t) is x fine =
      row_is (server s) (server t) q getflags total len code (left t) (shown t) (getflags_asked 0 0) is
      (asks_flags (server s).limits) fine x
