use Rattle.std.proofs.Common.{◌≡◌, ◌≢◌, ℕ, pos, List, Option, Result, inl, inr, subst}
use Rattle.vfs_files.specs.Runs.{Event}
use Rattle.vfs_grammar.specs.Forms.{Ask}
use Rattle.vfs_grammar.specs.Listing.{Listing}
use Rattle.vfs_grammar.specs.Words.{IsRead}
use Rattle.codec_calls.specs.declared.data.AnswerData.{AnswerData}
use Rattle.codec_calls.specs.declared.data.ItemData.{ItemData}
use Rattle.codec_encode.specs.Listing.{IsOfferedBy}
use Rattle.laws_flight.specs.OneTurn.{HappenedBetween}
use Rattle.laws_flight.proofs.crossing.an_error_lists_nothing.Goals as goal

none_taken : (a : AnswerData) (items : List ItemData) (l : Listing) (events : List Event) (records : List ℕ)
    (answer : Result ℕ (Option ℕ)) (read : IsRead l events records answer) (taken : ℕ) → a.error ≢ pos 0
    → IsOfferedBy a items l events records answer read taken → taken ≡ 0
none_taken a items l events records answer (inl unopened) taken some offered = offered.1
none_taken a items l events records answer (inr opened) taken some offered = absurd (some offered.0)

pub returns : goal.returns
returns c limits options request a text items old came new echo l lists some t =
    let h = subst (λ (q : Ask). HappenedBetween limits q a text items old.left came t.events) lists t.happened in
    none_taken a items l t.events h.records h.answer h.read came.taken some h.offered
