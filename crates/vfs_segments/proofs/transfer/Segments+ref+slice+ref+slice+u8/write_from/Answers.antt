use Rattle.std.proofs.Common.{ap, ◌∙◌, ◌≡◌, sym, length, take, drop, List, ℕ}
use Rattle.std.specs.List.{concat}
use Rattle.vfs_segments.specs.Views.{pieces_of, room_of}
use Rattle.vfs_segments.specs.SpanLaws.{concat-pieces_of}
use Rattle.vfs_segments.proofs.transfer.Segments+ref+slice+ref+slice+u8.write_from.Goals as goal

pub returns-clause-bound : goal.returns-clause-bound
returns-clause-bound g c =
    let found = c.span.ensures in
    let size : length (concat c.new-view.result) ≡ c.args.n =
    ap (λ (v : List (List ℕ)). length (concat v)) (c.new-view.ensures ∙ ap (pieces_of c.span.result) c.lent_list.ensures) ∙ sym found.span.total ∙ found.total in
    rw size at c.write_vectored_at.ensures.bound

pub returns-clause-gives : goal.returns-clause-gives
returns-clause-gives g c =
    let found = c.span.ensures in
    let xs = c.args.self.now in
    let is : concat c.new-view.result ≡ take c.args.n (drop c.args.at (concat xs)) =
    ap (λ (v : List (List ℕ)). concat v) (c.new-view.ensures ∙ ap (pieces_of c.span.result) c.lent_list.ensures)
    ∙ concat-pieces_of c.span.result xs found.span
    ∙ ap (λ k. take k (drop (length (room_of c.span.result xs).before) (concat xs))) found.total
    ∙ ap (λ k. take c.args.n (drop k (concat xs))) found.place in
    rw is at c.write_vectored_at.ensures.gives
