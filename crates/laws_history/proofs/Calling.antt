-- Steps in order, as histories.
use Rattle.std.proofs.Common.{◌≡◌, ℕ, List, [], ◌∷◌, ◌++◌, map, Option, Result, Ok, Err, IfErr, refl, ap, sym, subst, ◌∙◌}
use Rattle.std.proofs.lemmas.List.{map-append}
use Rattle.std.specs.declared.alloc.Global.{Global}
use Rattle.std.specs.declared.vec.Vec.{Vec}
use Rattle.vfs_segments.specs.Unread.{Unread}
use Rattle.vfs_segments.specs.Written.{Written}
use Rattle.vfs_files.specs.Values.{Item}
use Rattle.vfs_files.specs.Calls.{Call, Destroy, Done, Handed, Plain}
use Rattle.vfs_grammar.specs.Books.{KeepsBooks}
use Rattle.vfs_grammar.specs.Samples.{lookup_of_a}
use Rattle.vfs_grammar.specs.Turn.{Turn}
use Rattle.vfs_grammar.specs.declared.error.Error.{Error}
use Rattle.vfs_grammar.proofs.Keeping.{never_below_over}
use Rattle.vfs_server.specs.Served.{Served}
use Rattle.vfs_server.specs.Step.{ServerState, IsStep}
use Rattle.vfs_server.specs.declared.transport.error.ServeError.{ServeError}
use Rattle.vfs_server.specs.declared.transport.error.ServeError.TheVariants.{OutOfMemory, Segments, Server, FileSystem}
use Rattle.laws_history.specs.Calls.{AreServed, ServedNone, IsSeen, KeepsHistory, HandlesEach, GivesBack, forget_of_5}
use Rattle.laws_history.specs.History.{Moment, Handled, Changed, turn_of, turn_of_end, IsHistory, GoesOnHandled, GoesOnChanged, GoesOnEnded, HasOneRun, HistoriesKeepBooks}
use Rattle.laws_history.specs.Serving.{GoesOnServed}
use Rattle.laws_history.proofs.Going.{turns_of_handled}
use Rattle.laws_history.proofs.GivingBack.{gives_back, accepted-replied, is_some, delivered-lookup, accepted-forget}

module _ {S I : Type 0} (allows : S → Call → Handed I → S → Type 0)
    (gives : I → Option Item → I → Type 0) where
  -- the turn of a step is seen by its transport
  pub seen : (old : ServerState S) (request : List ℕ) (writer : Written) (outcome : Result ℕ Error)
      (after : Written) (new : ServerState S)
      → (step : IsStep allows gives old request writer outcome after new)
      → IsSeen request writer outcome after (turn_of allows gives old request writer outcome after new step)
  seen old request writer outcome after new step =
      record { asked = refl; room = refl; came = refl; leaves = step.leaves }

  -- the beginning of a history: one step
  pub first_step : GoesOnHandled allows gives → (s0 s1 : ServerState S) (q : List ℕ) (w : Written)
      (o : Result ℕ Error) (n : Written) → (x : IsStep allows gives s0 q w o n s1)
      → IsHistory allows gives s0 (Handled (turn_of allows gives s0 q w o n s1 x) ∷ []) s1
  first_step goes s0 s1 q w o n x = goes s0 s0 s1 [] q w o n refl x

  pub kept : HistoriesKeepBooks allows gives → (old : ServerState S) (ms : List (Moment S))
      (new : ServerState S) → IsHistory allows gives old ms new → KeepsHistory allows gives old ms new
  kept keep old ms new h = record { history = h; books = keep old new ms h }

  pub three : GoesOnHandled allows gives → HistoriesKeepBooks allows gives → (s0 s1 s2 s3 : ServerState S)
      (q1 q2 q3 : List ℕ) (w1 w2 w3 : Written) (o1 o2 o3 : Result ℕ Error) (n1 n2 n3 : Written)
      → IsStep allows gives s0 q1 w1 o1 n1 s1 → IsStep allows gives s1 q2 w2 o2 n2 s2
      → IsStep allows gives s2 q3 w3 o3 n3 s3
      → (a b c : Turn) × IsSeen q1 w1 o1 n1 a × IsSeen q2 w2 o2 n2 b × IsSeen q3 w3 o3 n3 c
      × KeepsHistory allows gives s0 (Handled a ∷ Handled b ∷ Handled c ∷ []) s3
  three goes keep s0 s1 s2 s3 q1 q2 q3 w1 w2 w3 o1 o2 o3 n1 n2 n3 x y z =
      let a : Turn = turn_of allows gives s0 q1 w1 o1 n1 s1 x in
      let b : Turn = turn_of allows gives s1 q2 w2 o2 n2 s2 y in
      let c : Turn = turn_of allows gives s2 q3 w3 o3 n3 s3 z in
      let one = first_step goes s0 s1 q1 w1 o1 n1 x in
      let two : IsHistory allows gives s0 (Handled a ∷ Handled b ∷ []) s2 =
      goes s0 s1 s2 (Handled a ∷ []) q2 w2 o2 n2 one y in
      let all : IsHistory allows gives s0 (Handled a ∷ Handled b ∷ Handled c ∷ []) s3 =
      goes s0 s2 s3 (Handled a ∷ Handled b ∷ []) q3 w3 o3 n3 two z in (
        a,
        b,
        c,
        seen s0 q1 w1 o1 n1 s1 x,
        seen s1 q2 w2 o2 n2 s2 y,
        seen s2 q3 w3 o3 n3 s3 z,
        kept keep s0 (Handled a ∷ Handled b ∷ Handled c ∷ []) s3 all,
      )

  -- a step, another file system, and a step
  pub exchanged : GoesOnHandled allows gives → GoesOnChanged allows gives → HistoriesKeepBooks allows gives
      → (s0 s1 s2 s3 : ServerState S) (fs : S) (q1 q2 : List ℕ) (w1 w2 : Written)
      (o1 o2 : Result ℕ Error) (n1 n2 : Written)
      → IsStep allows gives s0 q1 w1 o1 n1 s1 → s2 ≡ record s1 { fs = fs }
      → IsStep allows gives s2 q2 w2 o2 n2 s3
      → (a b : Turn) × (middle : S) × IsSeen q1 w1 o1 n1 a × IsSeen q2 w2 o2 n2 b
      × KeepsHistory allows gives s0 (Handled a ∷ Changed middle fs ∷ Handled b ∷ []) s3
  exchanged goes changes keep s0 s1 s2 s3 fs q1 q2 w1 w2 o1 o2 n1 n2 x is y =
      let s : ServerState S = record s1 { fs = fs } in
      let y' : IsStep allows gives s q2 w2 o2 n2 s3 =
      subst (λ (s : ServerState S). IsStep allows gives s q2 w2 o2 n2 s3) is y in
      let a : Turn = turn_of allows gives s0 q1 w1 o1 n1 s1 x in
      let b : Turn = turn_of allows gives s q2 w2 o2 n2 s3 y' in
      let one = first_step goes s0 s1 q1 w1 o1 n1 x in
      let two : IsHistory allows gives s0 (Handled a ∷ Changed s1.fs fs ∷ []) s =
      changes s0 s1 s (Handled a ∷ []) one refl refl in
      let all : IsHistory allows gives s0 (Handled a ∷ Changed s1.fs fs ∷ Handled b ∷ []) s3 =
      goes s0 s s3 (Handled a ∷ Changed s1.fs fs ∷ []) q2 w2 o2 n2 two y' in (
        a,
        b,
        s1.fs,
        seen s0 q1 w1 o1 n1 s1 x,
        seen s q2 w2 o2 n2 s3 y',
        kept keep s0 (Handled a ∷ Changed s1.fs fs ∷ Handled b ∷ []) s3 all,
      )

  -- a step, state that is taken over, and a step
  pub taken_over : GoesOnHandled allows gives → GoesOnChanged allows gives → HistoriesKeepBooks allows gives
      → (s0 s1 s2 s3 : ServerState S) (q1 q2 : List ℕ) (w1 w2 : Written) (o1 o2 : Result ℕ Error)
      (n1 n2 : Written)
      → IsStep allows gives s0 q1 w1 o1 n1 s1 → s2.options ≡ s1.options → s2.limits ≡ s1.limits
      → IsStep allows gives s2 q2 w2 o2 n2 s3
      → (a b : Turn) × (before after : S) × IsSeen q1 w1 o1 n1 a × IsSeen q2 w2 o2 n2 b
      × KeepsHistory allows gives s0 (Handled a ∷ Changed before after ∷ Handled b ∷ []) s3
  taken_over goes changes keep s0 s1 s2 s3 q1 q2 w1 w2 o1 o2 n1 n2 x options limits y =
      let a : Turn = turn_of allows gives s0 q1 w1 o1 n1 s1 x in
      let b : Turn = turn_of allows gives s2 q2 w2 o2 n2 s3 y in
      let one = first_step goes s0 s1 q1 w1 o1 n1 x in
      let two : IsHistory allows gives s0 (Handled a ∷ Changed s1.fs s2.fs ∷ []) s2 =
      changes s0 s1 s2 (Handled a ∷ []) one options limits in
      let all : IsHistory allows gives s0 (Handled a ∷ Changed s1.fs s2.fs ∷ Handled b ∷ []) s3 =
      goes s0 s2 s3 (Handled a ∷ Changed s1.fs s2.fs ∷ []) q2 w2 o2 n2 two y in (
        a,
        b,
        s1.fs,
        s2.fs,
        seen s0 q1 w1 o1 n1 s1 x,
        seen s2 q2 w2 o2 n2 s3 y,
        kept keep s0 (Handled a ∷ Changed s1.fs s2.fs ∷ Handled b ∷ []) s3 all,
      )

  -- two requests that were served, with replies
  pub served_twice : GoesOnServed allows gives → HistoriesKeepBooks allows gives
      → (s0 s1 s2 : ServerState S) (q1 q2 : List ℕ) (size : ℕ) (r1 r2 : Vec ℕ Global)
      → Served allows gives s0 q1 size (Ok r1) s1 → Served allows gives s1 q2 size (Ok r2) s2
      → AreServed allows gives s0 q1 q2 size r1.items r2.items s2
  served_twice goes keep s0 s1 s2 q1 q2 size r1 r2 x y =
      let a = goes s0 s0 s1 [] q1 size (Ok r1) refl x in
      let b = goes s0 s1 s2 (Handled a.t ∷ []) q2 size (Ok r2) a.history y in
      record {
        a = a.t;
        b = b.t;
        asked_first = a.served.asked;
        asked_then = b.served.asked;
        rooms = (a.served.room, b.served.room);
        replied_first = (a.len, a.served.came, a.bytes);
        replied_then = (b.len, b.served.came, b.bytes);
        history = kept keep s0 (Handled a.t ∷ Handled b.t ∷ []) s2 b.history;
      }

  -- a request that was served without a reply
  served_none : GoesOnServed allows gives → HistoriesKeepBooks allows gives
      → (s0 s1 : ServerState S) (q : List ℕ) (size : ℕ) (error : ServeError)
      → Served allows gives s0 q size (Err error) s1 → ServedNone allows gives s0 q error s1
  served_none goes keep s0 s1 q size OutOfMemory x =
      kept keep s0 [] s1 (goes s0 s0 s1 [] q size (Err OutOfMemory) refl x)
  served_none goes keep s0 s1 q size (Segments error) x =
      kept keep s0 [] s1 (goes s0 s0 s1 [] q size (Err (Segments error)) refl x)
  served_none goes keep s0 s1 q size (Server error) x =
      let a = goes s0 s0 s1 [] q size (Err (Server error)) refl x in
      (a.t, a.served.asked, a.served.came, kept keep s0 (Handled a.t ∷ []) s1 a.history)
  served_none goes keep s0 s1 q size (FileSystem fault) x =
      goes s0 s0 s1 [] q size (Err (FileSystem fault)) refl x

  -- a request that was served, with or without one
  pub served_one : GoesOnServed allows gives → HistoriesKeepBooks allows gives
      → (s0 s1 : ServerState S) (q : List ℕ) (size : ℕ) (result : Result (Vec ℕ Global) ServeError)
      → Served allows gives s0 q size result s1
      → IfErr result (λ error. ServedNone allows gives s0 q error s1)
  served_one goes keep s0 s1 q size (Ok reply) x = tt
  served_one goes keep s0 s1 q size (Err error) x = served_none goes keep s0 s1 q size error x

  -- a step, and an end
  pub then_ended : GoesOnHandled allows gives → GoesOnEnded allows gives → HistoriesKeepBooks allows gives
      → (s0 s1 s2 : ServerState S) (q : List ℕ) (w : Written) (o : Result ℕ Error) (n : Written)
      → IsStep allows gives s0 q w o n s1
      → allows s1.fs Destroy (Plain Done) s2.fs → s2.options ≡ 0 → s2.limits ≡ s1.limits
      → (t : Turn) × IsSeen q w o n t
      × KeepsHistory allows gives s0 (Handled t ∷ Handled turn_of_end ∷ []) s2
  then_ended goes ends keep s0 s1 s2 q w o n x called none same =
      let t : Turn = turn_of allows gives s0 q w o n s1 x in
      let all : IsHistory allows gives s0 (Handled t ∷ Handled turn_of_end ∷ []) s2 =
      ends s0 s1 s2 (Handled t ∷ []) (first_step goes s0 s1 q w o n x) called none same in
      (t, seen s0 q w o n s1 x, kept keep s0 (Handled t ∷ Handled turn_of_end ∷ []) s2 all)

  pub two : GoesOnHandled allows gives → HistoriesKeepBooks allows gives → HasOneRun allows gives
      → (s0 s1 s2 : ServerState S) (q1 q2 : List ℕ) (w1 w2 : Written) (o1 o2 : Result ℕ Error)
      (n1 n2 : Written)
      → IsStep allows gives s0 q1 w1 o1 n1 s1 → IsStep allows gives s1 q2 w2 o2 n2 s2
      → q1 ≡ lookup_of_a → q2 ≡ forget_of_5
      → (a b : Turn) × IsSeen lookup_of_a w1 o1 n1 a × IsSeen forget_of_5 w2 o2 n2 b
      × GivesBack allows gives s0 a b s2
  two goes keep runs s0 s1 s2 q1 q2 w1 w2 o1 o2 n1 n2 x y e f =
      let a : Turn = turn_of allows gives s0 q1 w1 o1 n1 s1 x in
      let b : Turn = turn_of allows gives s1 q2 w2 o2 n2 s2 y in
      let one = first_step goes s0 s1 q1 w1 o1 n1 x in
      let all : IsHistory allows gives s0 (Handled a ∷ Handled b ∷ []) s2 =
      goes s0 s1 s2 (Handled a ∷ []) q2 w2 o2 n2 one y in (
        a,
        b,
        record { asked = e; room = refl; came = refl; leaves = x.leaves },
        record { asked = f; room = refl; came = refl; leaves = y.leaves },
        record {
          run = runs s0 s2 (Handled a ∷ Handled b ∷ []) all tt;
          never_below = λ following whole reply done.
              never_below_over (a ∷ b ∷ []) (keep s0 s2 (Handled a ∷ Handled b ∷ []) all) 5 (is_some 5 4 refl)
              (gives_back 5 a b (delivered-lookup a following e whole reply)
              (accepted-replied 5 a whole) (accepted-forget b f done));
        },
      )

  -- ---- however many

  pub handles_none : HistoriesKeepBooks allows gives → (old : ServerState S)
      → HandlesEach allows gives old [] old
  handles_none keep old =
      record { turns = []; asked = refl; history = refl; books = keep old old [] refl }

  pub handles_more : GoesOnHandled allows gives → HistoriesKeepBooks allows gives
      → (old mid new : ServerState S) (readers : List Unread) (reader : Unread) (w : Written)
      (o : Result ℕ Error) (n : Written)
      → HandlesEach allows gives old (map (λ (r : Unread). r.left) readers) mid
      → IsStep allows gives mid reader.left w o n new
      → HandlesEach allows gives old (map (λ (r : Unread). r.left) (readers ++ reader ∷ [])) new
  handles_more goes keep old mid new readers reader w o n each step =
      let t : Turn = turn_of allows gives mid reader.left w o n new step in
      let more : IsHistory allows gives old (map Handled (each.turns ++ t ∷ [])) new =
      subst (λ (ms : List (Moment S)). IsHistory allows gives old ms new)
      (sym (map-append Handled each.turns (t ∷ [])))
      (goes old mid new (map Handled each.turns) reader.left w o n each.history step) in
      record {
        turns = each.turns ++ t ∷ [];
        asked =
            map-append (λ (t : Turn). t.request) each.turns (t ∷ [])
            ∙ (ap (λ (qs : List (List ℕ)). qs ++ reader.left ∷ []) each.asked
            ∙ sym (map-append (λ (r : Unread). r.left) readers (reader ∷ [])));
        history = more;
        books =
            subst KeepsBooks (turns_of_handled S (each.turns ++ t ∷ []))
            (keep old new (map Handled (each.turns ++ t ∷ [])) more);
      }
