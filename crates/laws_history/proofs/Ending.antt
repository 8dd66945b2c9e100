-- A server that is ended without a request: a turn of a DESTROY.
use Rattle.std.proofs.Common.{◌≡◌, ℕ, Bool, false, nat_lt, Option, refl, ap, sym, subst, arith}
use Rattle.std.proofs.lemmas.Bool.Decides.{nat_tests}
use Rattle.vfs_flags.specs.Numbers.{opcode_of}
use Rattle.vfs_wire.specs.Fields.{number, value_of}
use Rattle.vfs_wire.specs.Records.{in_header}
use Rattle.vfs_files.specs.Values.{Item}
use Rattle.vfs_files.specs.Calls.{Call, Destroy, Done, Handed, Plain}
use Rattle.vfs_grammar.specs.Ask.{ask}
use Rattle.vfs_grammar.specs.Forms.{Ask, Asks, within}
use Rattle.vfs_grammar.specs.Limits.{max_len}
use Rattle.vfs_grammar.specs.Reply.{echo_of}
use Rattle.vfs_grammar.specs.Turn.{Follows, IsTurn}
use Rattle.vfs_grammar.specs.declared.limits.Limits.{Limits}
use Rattle.vfs_server.specs.Step.{ServerState}
use Rattle.laws_history.specs.History.{IsHandled, destroy_request, turn_of_end}

-- a `len` of 40 is within every limit
len_40_is_within : (limits : Limits) → nat_lt (max_len limits) 40 ≡ false
len_40_is_within limits = grind (arith, nat_tests)

ask-destroy : (limits : Limits) (options : ℕ)
    → ask limits options 0 destroy_request ≡ Asks (echo_of (value_of in_header destroy_request)) Destroy
unfolding number opcode_of
ask-destroy limits options =
    ap (λ (above : Bool). within above (value_of in_header destroy_request)
    (Asks (echo_of (value_of in_header destroy_request)) Destroy)) (len_40_is_within limits)

turn-end : (limits : Limits) (options after : ℕ) → after ≡ 0 → IsTurn limits options turn_of_end after
turn-end limits options after none =
    subst (λ (a : Ask). Follows turn_of_end limits options a after)
    (sym (ask-destroy limits options)) (Done, refl, tt, (refl, refl), none)

pub is_end : {S I : Type 0} (allows : S → Call → Handed I → S → Type 0)
    (gives : I → Option Item → I → Type 0) (old new : ServerState S)
    → allows old.fs Destroy (Plain Done) new.fs → new.options ≡ 0 → new.limits ≡ old.limits
    → IsHandled allows gives old turn_of_end new
is_end allows gives old new called none same = record {
  is_run = (new.fs, called, refl);
  turn = turn-end old.limits old.options new.options none;
  same_limits = same;
}
