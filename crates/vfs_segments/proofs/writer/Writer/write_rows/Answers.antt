use Rattle.std.proofs.Common.{◌≤◌, ◌∙◌, ◌++◌, ℕ, arith, ap, append_assoc, length, length-append, length-take, replicate, take}
use Rattle.std.proofs.lemmas.List.{take-replicate}
use Rattle.vfs_segments.proofs.Beginnings.{failed, went, is_whole, not_whole, cut_off}
use Rattle.vfs_segments.specs.Written.{wrote}
use Rattle.vfs_segments.specs.WrittenLaws.{room_following, wrote_both}
use Rattle.vfs_segments.proofs.writer.Writer.write_rows.Goals as goal

pub returns-then-is_err-clause-wrote : goal.returns-then-is_err-clause-wrote
returns-then-is_err-clause-wrote c =
    let x = c.args.front.now in
    let short = failed c.write_all.result (length c.args.front.now) _ _ c.write_all.ensures.variant c.is_err.ensures.value c.if-is_err.true in
    cut_off c.args.self.now c.write_all.new.self x (c.args.bytes.now ++ replicate c.args.zeros 0) c.write_all.ensures.wrote (omega (arith, short))

pub returns-then-is_err-2-clause-cut : goal.returns-then-is_err-2-clause-cut
returns-then-is_err-2-clause-cut c = λ same.
    let x = c.args.front.now in
    let fits = went c.write_all.result (length c.args.front.now) _ _ c.write_all.ensures.variant c.is_err.ensures.value c.if-is_err.false in
    let left = room_following c.args.self.now c.write_all.new.self x c.write_all.ensures.wrote in
    let short = failed c.write_all-2.result (length c.args.bytes.now) _ _ c.write_all-2.ensures.variant c.is_err-2.ensures.value c.if-is_err-2.true in
    omega (arith, fits, left, short)

pub returns-then-is_err-2-clause-wrote : goal.returns-then-is_err-2-clause-wrote
returns-then-is_err-2-clause-wrote c =
    let x = c.args.front.now in
    let bytes = c.args.bytes.now in
    let zeros = replicate {A = ℕ} c.args.zeros 0 in
    let w = c.args.self.now in
    let fits : length x ≤ length w.left = omega (arith, went c.write_all.result (length c.args.front.now) _ _ c.write_all.ensures.variant c.is_err.ensures.value c.if-is_err.false) in
    let left = room_following w c.write_all.new.self x c.write_all.ensures.wrote in
    let short = failed c.write_all-2.result (length bytes) _ _ c.write_all-2.ensures.variant c.is_err-2.ensures.value c.if-is_err-2.true in
    let two = wrote_both w c.write_all.new.self c.write_all-2.new.self x bytes c.write_all.ensures.wrote c.write_all-2.ensures.wrote in
    cut_off w c.write_all-2.new.self (x ++ bytes) zeros two (omega (arith, fits, left, short, length-append x bytes))
    ∙ ap (λ l. wrote w (take (length w.left) l)) (append_assoc x bytes zeros)

pub returns-clause-whole : goal.returns-clause-whole
returns-clause-whole c = λ same.
    let x = c.args.front.now in
    let bytes = c.args.bytes.now in
    let w = c.args.self.now in
    let fits : length x ≤ length w.left = omega (arith, went c.write_all.result (length c.args.front.now) _ _ c.write_all.ensures.variant c.is_err.ensures.value c.if-is_err.false) in
    let left = room_following w c.write_all.new.self x c.write_all.ensures.wrote in
    let more = went c.write_all-2.result (length bytes) _ _ c.write_all-2.ensures.variant c.is_err-2.ensures.value c.if-is_err-2.false in
    let two = wrote_both w c.write_all.new.self c.write_all-2.new.self x bytes c.write_all.ensures.wrote c.write_all-2.ensures.wrote in
    let rest = room_following w c.write_all-2.new.self (x ++ bytes) two in
    let last = is_whole c.write_all-3.result _ _ _ c.write_all-3.ensures.variant c.is_ok.ensures.value same in
    omega (arith, fits, left, more, rest, last, length-append x bytes, length-take c.args.zeros (replicate {A = ℕ} 8 0))

pub returns-clause-cut : goal.returns-clause-cut
returns-clause-cut c = λ same.
    let x = c.args.front.now in
    let bytes = c.args.bytes.now in
    let w = c.args.self.now in
    let fits : length x ≤ length w.left = omega (arith, went c.write_all.result (length c.args.front.now) _ _ c.write_all.ensures.variant c.is_err.ensures.value c.if-is_err.false) in
    let left = room_following w c.write_all.new.self x c.write_all.ensures.wrote in
    let more = went c.write_all-2.result (length bytes) _ _ c.write_all-2.ensures.variant c.is_err-2.ensures.value c.if-is_err-2.false in
    let two = wrote_both w c.write_all.new.self c.write_all-2.new.self x bytes c.write_all.ensures.wrote c.write_all-2.ensures.wrote in
    let rest = room_following w c.write_all-2.new.self (x ++ bytes) two in
    let last = not_whole c.write_all-3.result _ _ _ c.write_all-3.ensures.variant c.is_ok.ensures.value same in
    omega (arith, fits, left, more, rest, last, length-append x bytes, length-take c.args.zeros (replicate {A = ℕ} 8 0))

pub returns-clause-wrote : goal.returns-clause-wrote
returns-clause-wrote c =
    let x = c.args.front.now in
    let bytes = c.args.bytes.now in
    let w = c.args.self.now in
    let zeros = take-replicate {X = ℕ} c.args.zeros 8 0 c.requires in
    let fits : length x ≤ length w.left = omega (arith, went c.write_all.result (length c.args.front.now) _ _ c.write_all.ensures.variant c.is_err.ensures.value c.if-is_err.false) in
    let left = room_following w c.write_all.new.self x c.write_all.ensures.wrote in
    let more = went c.write_all-2.result (length bytes) _ _ c.write_all-2.ensures.variant c.is_err-2.ensures.value c.if-is_err-2.false in
    let two = wrote_both w c.write_all.new.self c.write_all-2.new.self x bytes c.write_all.ensures.wrote c.write_all-2.ensures.wrote in
    wrote_both w c.write_all-2.new.self c.write_all-3.new.self (x ++ bytes) (replicate c.args.zeros 0) two (rw zeros at c.write_all-3.ensures.wrote)
    ∙ ap (λ l. wrote w (take (length w.left) l)) (append_assoc x bytes (replicate c.args.zeros 0))
