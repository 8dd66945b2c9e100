use Rattle.std.proofs.Common.{subst}
use Rattle.vfs_flags.specs.Flags.{fs_options_bits}
use Rattle.vfs_messages.specs.Rooms.{with_after}
use Rattle.codec_decode.specs.Asked.{IsAsked}
use Rattle.codec_decode.specs.declared.asked.Asked.{Asked}
use Rattle.laws_flight.proofs.uses.ask_alone.Goals as goal

pub returns-in-Finished : goal.returns-in-Finished
returns-in-Finished c following all =
    c.a_finished_request_is_one_turn.ensures _ _ _ (with_after c.args.w.now following) (with_after c.ask.new.w following) _ _ _
    (subst (λ (r : Asked). IsAsked c.args.limits (fs_options_bits c.args.options) c.args.r.left (with_after c.args.w.now following) r
    (with_after c.ask.new.w following) c.ask.new.call) c.in-Finished.is (c.ask.ensures.asked following all))
