-- A message that was handed to the server was served.
use Rattle.std.proofs.Common.{◌≡◌, ◌≤◌, ◌^◌, ◌⊎◌, ℕ, ℤ, List, ◌++◌, ◌+◌, ◌-◌, length, drop, Result, inl, inr, sym, ap, ◌∙◌, subst, arith, length-append}
use Rattle.std.proofs.lemmas.List.{drop_at}
use Rattle.vfs_segments.specs.Written.{Written, whole}
use Rattle.vfs_grammar.specs.declared.error.Error.{Error}
use Rattle.vfs_server.specs.Step.{ServerState, IsStep, ReadsDirectories}
use Rattle.c_rooms.specs.Codes.{no_memory, too_long, outcome_code, length_of, shown_of}
use Rattle.nizwarf_tree.specs.Files.{State, Allows, Gives}
use Rattle.codec_calls.specs.declared.call.CallData.{CallData}
use Rattle.codec_decode.specs.Further.{What, Ordinary, Short, Row, Unnamed}
use Rattle.laws_flight.specs.OfferedTurns.{as_create}
use Rattle.nizwarf_tree.specs.Offered.{what_asked}
use Rattle.nizwarf_tree.specs.Served.{Refused, RowInC, ServedAs, ServedInC, SteppedInC}
use Rattle.nizwarf_tree.proofs.Offering.{created_len}

-- the last bytes of all are those after the bytes that were passed before
pub room_is : (passed room_after all room : List ℕ) (total : ℕ)
    → all ≡ passed ++ room_after → length room_after ≡ total → room ≡ drop (length all - total) all
    → room ≡ room_after
room_is passed room_after all room total kept long is =
    let n : length all ≡ length passed + length room_after = ap length kept ∙ length-append passed room_after in
    let at : length passed ≡ length all - total = omega (arith, n, long) in
    let following : drop (length all - total) (passed ++ room_after) ≡ room_after = drop_at passed room_after (length all - total) at in
    is ∙ ap (λ (bs : List ℕ). drop (length all - total) bs) kept ∙ following

room_following : (passed room_after all room : List ℕ) (total : ℕ)
    → all ≡ passed ++ room_after → length room_after ≡ total → room ≡ drop (length all - total) all
    → all ≡ passed ++ room
room_following passed room_after all room total kept long is =
    kept ∙ ap (λ (bs : List ℕ). passed ++ bs) (sym (room_is passed room_after all room total kept long is))

-- a step, of which these are the number, the length, and the end of the bytes that came back
pub stepped : (old middle answered new : ServerState State) (request : List ℕ) (total : ℕ)
    (number : ℤ) (len : ℕ) (bytes room : List ℕ) (shown : ℕ) (before after : Written)
    (outcome : Result ℕ Error)
    → middle ≡ old → new ≡ answered
    → IsStep Allows Gives middle request before outcome after answered
    → ReadsDirectories Allows Gives middle request before outcome after answered
    → length before.left ≡ total → bytes ≡ whole after
    → room ≡ drop (length bytes - total) bytes
    → number ≡ outcome_code outcome → len ≡ length_of outcome → shown ≡ shown_of outcome total
    → SteppedInC old request total number len room shown new ⊎ Refused old request number len shown new
stepped old middle answered new request total number len bytes room shown before after outcome same kept step dirs space is end numbered counted copied =
    inl (record {
      before = before;
      space = space;
      outcome = outcome;
      after = after;
      step = subst (λ (s : ServerState State). IsStep Allows Gives s request before outcome after new) same
          (subst (λ (s : ServerState State). IsStep Allows Gives middle request before outcome after s) (sym kept) step);
      directories = subst (λ (s : ServerState State). ReadsDirectories Allows Gives s request before outcome after new) same
          (subst (λ (s : ServerState State). ReadsDirectories Allows Gives middle request before outcome after s) (sym kept) dirs);
      numbered = numbered;
      counted = counted;
      left = room_following before.passed step.room_after (whole after) room total step.leaves.kept (step.leaves.same_length ∙ space)
          (end ∙ ap (λ (bs : List ℕ). drop (length bs - total) bs) is);
      copied = copied;
    })

-- ---- by what a request asks by the rows

module _ (old : ServerState State) (q : List ℕ) (total : ℕ) (number : ℤ) (len : ℕ) (room : List ℕ) (shown : ℕ)
    (new : ServerState State) where
  -- the bytes of a TMPFILE, as those of the CREATE
  not_handed : (list : List ℕ) → list ≡ as_create q → Refused old list number len shown new
      → Refused old q number len shown new
  not_handed list is r = record {
    why = why r.why;
    no_reply = r.no_reply;
    nothing = r.nothing;
    same = r.same;
  }
    where
      why : (number ≡ no_memory) ⊎ ((number ≡ too_long) × (2 ^ 64 ≤ length list))
          → (number ≡ no_memory) ⊎ ((number ≡ too_long) × (2 ^ 64 ≤ length q))
      why (inl lacks) = inl lacks
      why (inr long) =
          let most : 2 ^ 64 ≤ length (as_create q) = subst (λ (l : List ℕ). 2 ^ 64 ≤ length l) is long.1 in
          inr (long.0, created_len q (2 ^ 64) (omega arith) most)

  pub of_tmpfile : (list : List ℕ) → list ≡ as_create q
      → SteppedInC old list total number len room shown new ⊎ Refused old list number len shown new
      → SteppedInC old (as_create q) total number len room shown new ⊎ Refused old q number len shown new
  of_tmpfile list is (inl s) =
      inl (subst (λ (l : List ℕ). SteppedInC old l total number len room shown new) is s)
  of_tmpfile list is (inr r) = inr (not_handed list is r)

  -- it was served as what it asks
  served : (w : What) → what_asked old.limits q ≡ w
      → ServedAs w old q total number len room shown new ⊎ Refused old q number len shown new
      → ServedInC old q total number len room shown new
  served w asks (inl s) =
      inl (subst (λ (v : What). ServedAs v old q total number len room shown new) (sym asks) s)
  served w asks (inr r) = inr r

  pub as_ordinary : what_asked old.limits q ≡ Ordinary
      → SteppedInC old q total number len room shown new ⊎ Refused old q number len shown new
      → ServedInC old q total number len room shown new
  as_ordinary asks s = served Ordinary asks s

  pub as_tmpfile : what_asked old.limits q ≡ Unnamed
      → SteppedInC old (as_create q) total number len room shown new ⊎ Refused old q number len shown new
      → ServedInC old q total number len room shown new
  as_tmpfile asks s = served Unnamed asks s

  pub as_short : what_asked old.limits q ≡ Short
      → RowInC old q total number len room shown new ⊎ Refused old q number len shown new
      → ServedInC old q total number len room shown new
  as_short asks s = served Short asks s

  pub as_row : (told : CallData) → what_asked old.limits q ≡ Row told
      → RowInC old q total number len room shown new ⊎ Refused old q number len shown new
      → ServedInC old q total number len room shown new
  as_row told asks s = served (Row told) asks s
