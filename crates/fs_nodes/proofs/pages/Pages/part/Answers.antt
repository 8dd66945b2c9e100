use Rattle.std.proofs.Common.{◌<◌, ◌+◌, ◌%◌, ℕ, List, get_or, length, sym, ap, ◌∙◌, arith}
use Rattle.std.proofs.lemmas.List.{length-replicate}
use Rattle.fs_nodes.specs.Pages.{Pages, byte_at}
use Rattle.fs_nodes.proofs.HeldPages.{part_read, part_zero, zeros_at}
use Rattle.fs_nodes.proofs.pages.Pages.part.Goals as goal

pub returns-in-Some-clause-bytes : goal.returns-in-Some-clause-bytes
returns-in-Some-clause-bytes c =
    λ i within.
    let s = c.self.inside.pages.entries in
    let v = c.in-Some.page.now in
    let fits : c.args.at % 4096 + i < 4096 = omega (arith, within, c.piece.ensures.within, c.min-count.ensures) in
    c.piece.ensures.bytes i within
    ∙ ap (λ (l : List ℕ). get_or l (c.args.at % 4096 + i) 0) c.deref.ensures.value
    ∙ part_read s c.args.at i v (sym c.in-Some.ensures.value) fits
    ∙ ap (λ (es : Pages). byte_at es (c.args.at + i)) c.self.view_is

pub returns-in-None-clause-bytes : goal.returns-in-None-clause-bytes
returns-in-None-clause-bytes c =
    λ i within.
    let s = c.self.inside.pages.entries in
    let fits : c.args.at % 4096 + i < 4096 =
    omega (arith, within, ap length c.zeros.ensures, length-replicate {A = ℕ} c.min-count.result 0, c.min-count.ensures) in
    zeros_at c.zeros.result.now c.min-count.result i c.zeros.ensures
    ∙ sym (part_zero s c.args.at i (sym c.in-None.ensures.value) fits)
    ∙ ap (λ (es : Pages). byte_at es (c.args.at + i)) c.self.view_is
