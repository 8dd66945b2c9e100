-- The events of turns in order, with one turn more.
use Rattle.std.proofs.Common.{◌≡◌, List, [], ◌∷◌, ◌++◌, ap, sym, ◌∙◌, append_assoc, append-nil}
use Rattle.vfs_files.specs.Runs.{Event}
use Rattle.vfs_grammar.specs.Turn.{Turn, events_in}

pub events_in-push : (ts : List Turn) (t : Turn) → events_in (ts ++ t ∷ []) ≡ events_in ts ++ t.events
events_in-push [] t = append-nil t.events
events_in-push (u ∷ ts) t =
    ap (λ (es : List Event). u.events ++ es) (events_in-push ts t) ∙ sym (append_assoc u.events (events_in ts) t.events)
