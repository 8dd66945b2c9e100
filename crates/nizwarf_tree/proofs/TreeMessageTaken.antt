-- A message between two takings: the first has memory, and the second takes the reply.
use denote.RawPtr.{Ptr}
use Rattle.std.proofs.Common.{◌≡◌, ◌∙◌, ◌⊎◌, ℕ, ◌-◌, ℤ, List, length, drop, min, Option, Some, None, IfSome, MatchOption, Result, Ok, Err, refl, ap, sym, subst}
use Rattle.vfs_server.specs.Step.{ServerState}
use Rattle.vfs_grammar.specs.declared.error.Error.{Error}
use Rattle.vfs_grammar.specs.declared.error.Error.TheVariants.{DecodeMessage, EncodeMessage, FlushMessage, MissingParameter, InvalidCString, InvalidCString2, InvalidHeaderLength, InvalidXattrSize, MissingExtension, OutOfMemory}
use Rattle.c_rooms.specs.Codes.{ok, no_memory, no_server, outcome_code, length_of, shown_of}
use Rattle.nizwarf_tree.specs.Files.{State}
use Rattle.codec_decode.specs.Further.{What, Ordinary, Short, Row, Unnamed}
use Rattle.nizwarf_tree.specs.History.{Answered, AnsweredAs}
use Rattle.nizwarf_tree.specs.Offered.{what_asked}
use Rattle.nizwarf_tree.specs.TreeUses.{IsTaken}
use Rattle.nizwarf_tree.specs.declared.memory.Place.{Place}
use Rattle.nizwarf_tree.proofs.Calling.{answered_as}

-- of an answered request the whole reply is there
all_shown : (o : Result ℕ Error) (total : ℕ) → outcome_code o ≡ ok → shown_of o total ≡ length_of o
all_shown (Ok len) total is = refl
all_shown (Err DecodeMessage) total is = absurd (cc is)
all_shown (Err EncodeMessage) total is = absurd (cc is)
all_shown (Err FlushMessage) total is = absurd (cc is)
all_shown (Err MissingParameter) total is = absurd (cc is)
all_shown (Err InvalidCString) total is = absurd (cc is)
all_shown (Err InvalidCString2) total is = absurd (cc is)
all_shown (Err InvalidHeaderLength) total is = absurd (cc is)
all_shown (Err (InvalidXattrSize sizes)) total is = absurd (cc is)
all_shown (Err MissingExtension) total is = absurd (cc is)
all_shown (Err OutOfMemory) total is = absurd (cc is)

shown_whole : (old : ServerState State) (request : List ℕ) (total : ℕ) (code : ℤ) (len : ℕ) (room : List ℕ)
    (shown : ℕ) (new : ServerState State) (w : What)
    → AnsweredAs w old request total code len room shown new → code ≡ ok → shown ≡ len
shown_whole old request total code len room shown new Ordinary x is =
    x.copied ∙ all_shown x.t.outcome total (sym x.numbered ∙ is) ∙ sym x.counted
shown_whole old request total code len room shown new Unnamed x is =
    x.copied ∙ all_shown x.t.outcome total (sym x.numbered ∙ is) ∙ sym x.counted
shown_whole old request total code len room shown new Short x is =
    x.copied ∙ all_shown x.t.turn.outcome total (sym x.numbered ∙ is) ∙ sym x.counted
shown_whole old request total code len room shown new (Row told) x is =
    x.copied ∙ all_shown x.t.turn.outcome total (sym x.numbered ∙ is) ∙ sym x.counted

module _ {A B V : Type 0} (server : A → ServerState State) (room : A → V) (start shown : A → ℕ)
    (kept : B → V) (bytes : V → List ℕ) (at : V → Ptr) (request : List ℕ) (total len : ℕ) (place : Place)
  where
    -- where what a server left lies in its memory
    abbrev pub placed : A → Place
    placed s = record {
      at = at (room s);
      start = start s;
      len = min (shown s) (length (bytes (room s)) - start s);
    }

    is_taken : (s t u v : A) (m : B) (code : ℤ) → server t ≡ server s
        → Answered (server t) request total code len (drop (start u) (bytes (room u))) (shown u) (server u)
        → code ≡ ok → kept m ≡ room u → place ≡ placed u → server v ≡ server u
        → IsTaken (server s) request total len (bytes (kept m)) (at (kept m)) place (server v)
    is_taken s t u v m code first x is taken at_place last =
        let left : List ℕ = drop (start u) (bytes (room u)) in
        let w = what_asked (server t).limits request in
        let found : AnsweredAs w (server t) request total code len left (shown u) (server u) =
        answered_as (server t) request total code len left (shown u) (server u) x is in
        let whole : shown u ≡ len =
        shown_whole (server t) request total code len left (shown u) (server u) w found is in
        let answered : AnsweredAs w (server t) request total ok len left len (server u) =
        subst (λ (n : ℕ). AnsweredAs w (server t) request total ok len left n (server u)) whole
        (subst (λ (z : ℤ). AnsweredAs w (server t) request total z len left (shown u) (server u)) is found) in
        rw (taken, at_place, last, sym first) (record {
          answered = answered;
          pointed = refl;
          counted = ap (λ (n : ℕ). min n (length (bytes (room u)) - start u)) whole;
        })

    pub message_taken : (a b c e : Option A) (d f : Option B) (code then : ℤ)
        → IfSome a (λ s. MatchOption b ⊥ (λ t. (server t ≡ server s) × (shown t ≡ 0)))
        → IfSome a (λ s. MatchOption d ⊥ (λ m. kept m ≡ room s))
        → IfSome b (λ s. MatchOption c ⊥ (λ t.
        Answered (server s) request total code len (drop (start t) (bytes (room t))) (shown t) (server t)))
        → code ≡ ok
        → MatchOption c (then ≡ no_server) (λ _.
        MatchOption d ((then ≡ ok) ⊎ (then ≡ no_memory)) (λ _. then ≡ ok))
        → (then ≡ ok → IfSome c (λ s. MatchOption f ⊥ (λ m. kept m ≡ room s)))
        → (then ≡ ok → IfSome c (λ s. place ≡ placed s))
        → (then ≡ ok → IfSome c (λ s. MatchOption e ⊥ (λ t. (server t ≡ server s) × (shown t ≡ 0))))
        → IfSome a (λ s. MatchOption e ⊥ (λ t. MatchOption f ⊥ (λ m.
        IsTaken (server s) request total len (bytes (kept m)) (at (kept m)) place (server t))))
    message_taken None b c e d f code then first memory x is fine taken at_place last = tt
    message_taken (Some s) None c e d f code then first memory x is fine taken at_place last = absurd first
    message_taken (Some s) (Some t) None e d f code then first memory x is fine taken at_place last = absurd x
    message_taken (Some s) (Some t) (Some u) e None f code then first memory x is fine taken at_place last =
        absurd memory
    message_taken (Some s) (Some t) (Some u) None (Some k) f code then first memory x is fine taken at_place last =
        absurd (last fine)
    message_taken (Some s) (Some t) (Some u) (Some v) (Some k) None code then first memory x is fine taken at_place last =
        absurd (taken fine)
    message_taken (Some s) (Some t) (Some u) (Some v) (Some k) (Some m) code then first memory x is fine taken at_place last =
        is_taken s t u v m code first.0 x is (taken fine) (at_place fine) (last fine).0
