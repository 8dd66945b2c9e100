use Rattle.std.proofs.Common.{◌≡◌, ◌≤◌, ◌<◌, ◌+◌, ◌/◌, ℕ, List, ◌++◌, length, take, refl, sym, ap, ◌∙◌, ⊎_elim, arith, length-append}
use Rattle.std.specs.List.{concat}
use Rattle.std.specs.Map.{keys_of}
use Rattle.std.proofs.lemmas.Bool.{cases_lt}
use Rattle.std.proofs.lemmas.List.{take_all}
use Rattle.vfs_segments.specs.ViewLaws.{concat-take_more}
use Rattle.fs_nodes.specs.Pages.{byte_at, byte_over, holds}
use Rattle.fs_nodes.proofs.Fills.{over_none, over_more, front_pieces, front_size, front_part}
use Rattle.fs_nodes.proofs.transfer.put_pieces.Goals as goal

pub overflow_add-done : goal.overflow_add-done
overflow_add-done c =
    let view = c.args.view.now in
    let bound : c.pieces.i < length view = omega (arith, c.pieces-test.true, c.count-i-end.ensures.count) in
    let more = concat-take_more view c.pieces.i bound ∙ ap (λ l. concat (take c.pieces.i view) ++ l) (sym c.get-piece.ensures) in
    omega (
      arith,
      c.pieces.invariant.done,
      c.put_all-count.ensures.within,
      ap length more,
      length-append (concat (take c.pieces.i view)) c.get-piece.result.now,
      front_size view (c.pieces.i + 1),
      c.total.ensures,
      c.total.type_inv,
    )

pub returns-in_default : goal.returns-in_default
returns-in_default c =
    let view = c.args.view.now in
    let long = c.pieces.invariant.done in
    let less = front_size view c.pieces.i in
    record {
      count = c.pieces.done;
      answered = refl;
      within = omega (arith, long, less);
      some = λ held more. omega (arith, c.in_default.ensures, c.ranges.off);
      all = λ held small. omega (arith, long, less, small, c.in_default.ensures);
      keys = c.pieces.invariant.keys;
      bytes_are = λ place.
          c.pieces.invariant.bytes place
          ∙ ap (λ (l : List ℕ). byte_over c.args.off l (byte_at c.args.pages.now) place)
          (sym (front_pieces view c.pieces.i c.pieces.done long));
    }

pub pieces-preserved : goal.pieces-preserved
pieces-preserved c =
    let view = c.args.view.now in
    let i = c.pieces.i in
    let piece = c.get-piece.result.now in
    let n = c.put_all-count.result in
    let off = c.args.off in
    let before = concat (take i view) in
    let old = byte_at c.args.pages.now in
    let long = c.pieces.invariant.done in
    let bound : i < length view = omega (arith, c.pieces-test.true, c.count-i-end.ensures.count) in
    let more : concat (take (i + 1) view) ≡ before ++ piece =
    concat-take_more view i bound ∙ ap (λ l. before ++ l) (sym c.get-piece.ensures) in
    let whole : n ≡ length piece = omega (arith, c.put_all-count.ensures.within, c.if-count-piece.false) in
    let next : c.in-Some.place ≡ off + length before = omega (arith, c.in-Some.ensures.1, long) in
    record {
      done = omega (arith, long, whole, ap length more, length-append before piece);
      keys = c.put_all-count.ensures.keys ∙ c.pieces.invariant.keys;
      bytes = λ k.
          c.put_all-count.ensures.bytes k
          ∙ ap (λ (l : List ℕ). byte_over c.in-Some.place l (byte_at c.pieces.pages) k)
          (take_all n piece (omega (arith, whole)))
          ∙ over_more off c.in-Some.place before piece old (byte_at c.pieces.pages) k next
          (c.pieces.invariant.bytes k)
          ∙ ap (λ (l : List ℕ). byte_over off l old k) (sym more);
    }

pub returns-then-count-piece : goal.returns-then-count-piece
returns-then-count-piece c =
    let view = c.args.view.now in
    let i = c.pieces.i in
    let piece = c.get-piece.result.now in
    let n = c.put_all-count.result in
    let off = c.args.off in
    let before = concat (take i view) in
    let old = byte_at c.args.pages.now in
    let long = c.pieces.invariant.done in
    let bound : i < length view = omega (arith, c.pieces-test.true, c.count-i-end.ensures.count) in
    let more = concat-take_more view i bound ∙ ap (λ l. before ++ l) (sym c.get-piece.ensures) in
    let size : length before + length piece ≤ length (concat view) =
    omega (arith, ap length more, length-append before piece, front_size view (i + 1)) in
    let within = c.put_all-count.ensures.within in
    let place : c.in-Some.place ≡ off + length before = omega (arith, c.in-Some.ensures.1, long) in
    record {
      count = c.pieces.done + n;
      answered = refl;
      within = omega (arith, long, size, within);
      some = λ held more.
          ⊎_elim
          (λ (some : 0 < c.pieces.done). omega (arith, some))
          (λ (none : c.pieces.done ≤ 0).
          let here : c.in-Some.place ≡ off = omega (arith, c.in-Some.ensures.1, none) in
          omega (
            arith,
            c.put_all-count.ensures.some
                (ap (λ (ks : List ℕ). holds ks (c.in-Some.place / 4096)) c.pieces.invariant.keys
                ∙ ap (λ (k : ℕ). holds (keys_of c.args.pages.now) (k / 4096)) here ∙ held)
                (omega (arith, c.if-count-piece.true)),
          ))
          (cases_lt 0 c.pieces.done);
      all = λ held small.
          let all = c.put_all-count.ensures.all
          (λ k from to.
          ap (λ (ks : List ℕ). holds ks (k / 4096)) c.pieces.invariant.keys
          ∙ held k (omega (arith, place)) (omega (arith, place, size)))
          (omega (arith, place, size, small)) in
          absurd (omega (arith, all, c.if-count-piece.true));
      keys = c.put_all-count.ensures.keys ∙ c.pieces.invariant.keys;
      bytes_are = λ k.
          c.put_all-count.ensures.bytes k
          ∙ over_more off c.in-Some.place before (take n piece) old (byte_at c.pieces.pages) k place
          (c.pieces.invariant.bytes k)
          ∙ ap (λ (l : List ℕ). byte_over off l old k)
          (sym (front_part view i c.pieces.done n piece bound c.get-piece.ensures long within));
    }

pub returns-then-total-eq0 : goal.returns-then-total-eq0
returns-then-total-eq0 c =
    let none : length (concat c.args.view.now) ≡ 0 = omega (arith, c.total.ensures, c.if-total-eq0.true) in
    record {
      count = 0;
      answered = refl;
      within = omega arith;
      some = λ held more. absurd (omega (arith, none, more));
      all = λ held small. sym none;
      keys = refl;
      bytes_are = λ place. sym (over_none c.args.off (byte_at c.args.pages.now) place);
    }

pub returns : goal.returns
returns c =
    let view = c.args.view.now in
    let all : take c.pieces.i view ≡ view =
    take_all c.pieces.i view (omega (arith, c.pieces-test.false, c.count-i-end.ensures.count)) in
    let long : c.pieces.done ≡ length (concat view) = rw all at c.pieces.invariant.done in
    record {
      count = c.pieces.done;
      answered = refl;
      within = omega (arith, long);
      some = λ held more. omega (arith, long, more);
      all = λ held small. long;
      keys = c.pieces.invariant.keys;
      bytes_are = λ place.
          c.pieces.invariant.bytes place
          ∙ ap (λ (l : List ℕ). byte_over c.args.off l (byte_at c.args.pages.now) place)
          (ap concat all ∙ sym (take_all c.pieces.done (concat view) (omega (arith, long))));
    }
