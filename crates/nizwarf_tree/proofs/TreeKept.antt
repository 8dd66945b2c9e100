-- A directory that is read of a tree.
use Rattle.std.proofs.Common.{◌≡◌, ◌≢◌, ◌⊎◌, ◌^◌, ◌≤◌, ◌∙◌, ℕ, ℤ, List, length, Option, Some, None, IfSome, MatchOption, ap, subst, inl, inr}
use Rattle.vfs_grammar.specs.Ask.{ask}
use Rattle.vfs_grammar.specs.Forms.{Lists}
use Rattle.codec_decode.specs.Further.{What}
use Rattle.c_rooms.specs.Codes.{no_memory, too_long}
use Rattle.vfs_server.specs.Step.{ServerState}
use Rattle.nizwarf_tree.specs.Files.{State}
use Rattle.nizwarf_tree.specs.Served.{ServedAs, ServedInC, SteppedInC}
use Rattle.nizwarf_tree.specs.TreeUses.{TakesFewItems}

pub few : (old : ServerState State) (request : List ℕ) (total : ℕ) (code : ℤ) (len : ℕ) (room : List ℕ) (shown : ℕ)
    (new : ServerState State) → ServedInC old request total code len room shown new
    → TakesFewItems old request total code new
few old request total code len room shown new (inl s) = λ echo l ordinary asks some short.
    let stepped : SteppedInC old request total code len room shown new =
    subst (λ (w : What). ServedAs w old request total code len room shown new) ordinary s in
    let asked : ask old.limits old.options (length stepped.before.left) request ≡ Lists echo l =
    ap (λ (n : ℕ). ask old.limits old.options n request) stepped.space ∙ asks in
    let read = stepped.directories echo l asked in
    (read.events, read.is_run, read.few)
few old request total code len room shown new (inr r) = λ echo l ordinary asks some short.
    absurd (neither some short r.why)
  where
    neither : code ≢ no_memory → code ≢ too_long
        → (code ≡ no_memory) ⊎ ((code ≡ too_long) × (2 ^ 64 ≤ length request)) → ⊥
    neither some short (inl none) = some none
    neither some short (inr long) = short long.0

module _ {A : Type 0} (server : A → ServerState State) (left : A → List ℕ) (shown : A → ℕ) where
  pub few_of : (request : List ℕ) (total : ℕ) (code : ℤ) (len : ℕ) (before after : Option A)
      → IfSome before (λ s. MatchOption after ⊥ (λ t.
      ServedInC (server s) request total code len (left t) (shown t) (server t)))
      → IfSome before (λ s. MatchOption after ⊥ (λ t. TakesFewItems (server s) request total code (server t)))
  few_of request total code len None after h = h
  few_of request total code len (Some s) None h = h
  few_of request total code len (Some s) (Some t) h =
      few (server s) request total code len (left t) (shown t) (server t) h
