use Rattle.std.proofs.Common.{◌≡◌, ℕ, List, [], ◌∷◌, map}
use Rattle.std.proofs.lemmas.Result.{on_ok_weaker}
use Rattle.vfs_grammar.specs.Turn.{Turn}
use Rattle.vfs_grammar.specs.declared.limits.Limits.{Limits}
use Rattle.vfs_segments.specs.Unread.{Unread}
use Rattle.vfs_segments.specs.Written.{Written}
use Rattle.vfs_server.specs.Session.{AreServed}
use Rattle.vfs_run.proofs.session_uses.a_session_of_no_request.Goals as goal

options_stay : (limits : Limits) (options : ℕ) (readers : List Unread) (turns : List Turn)
    (writers : List Written) (after : ℕ) → map (λ r. r.left) readers ≡ []
    → AreServed limits options readers [] turns writers after → after ≡ options
options_stay limits options [] [] [] after none served = served
options_stay limits options [] [] (w ∷ ws) after none served = absurd served
options_stay limits options [] (t ∷ ts) writers after none served = absurd served
options_stay limits options (r ∷ rs) turns writers after none served = cc

pub returns : goal.returns
returns g c =
    on_ok_weaker c.answers_to.result
    (λ s. options_stay c.args.server.now.limits c.args.server.now.options s.readers
    s.session.turns s.writers c.answers_to.new.server.options s.bytes s.session.served)
    c.answers_to.ensures.session
