use Rattle.std.proofs.Common.{◌≡◌, ◌-◌, ◌++◌, ◌∙◌, ℕ, List, length, take, drop, slice_index_or, [], ap, arith, sym, length-drop}
use Rattle.std.proofs.lemmas.List.{length-take, take-append-drop, take_all}
use Rattle.nizwarf_codec.proofs.Pieces.{one_following, one_piece}
use Rattle.nizwarf_codec.proofs.ask.header_and_rest.Goals as goal

pub returns-then-request-ge-SIZE : goal.returns-then-request-ge-SIZE
returns-then-request-ge-SIZE c =
    let all : List ℕ = (slice_index_or c.args.request.now 0 (record { ref_ptr = (0, 0); now = [] })).now in
    let rest : take (length all - 40) (drop 40 all) ≡ drop 40 all =
    take_all (length all - 40) (drop 40 all) (omega (arith, length-drop 40 all)) in (
      omega (arith, length-take 40 all, c.if-request-ge-SIZE.true),
      one_piece c.args.request.now _ c.if-request-eq1.true
          ∙ sym (ap (λ (x : List ℕ). take 40 all ++ x) rest ∙ take-append-drop 40 all),
      one_following c.args.request.now _ _ c.if-request-eq1.true (omega (arith, c.if-request-ge-SIZE.true))
          (ap length rest ∙ length-drop 40 all),
    )
