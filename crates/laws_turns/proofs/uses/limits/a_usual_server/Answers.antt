use Rattle.std.proofs.Common.{◌∙◌, ℕ, drop, ap, arith}
use Rattle.vfs_files.specs.Calls.{BatchForget}
use Rattle.vfs_files.specs.Values.{context_of}
use Rattle.vfs_grammar.specs.Forms.{Asks, WithMemory, refused_or, pairs_in}
use Rattle.vfs_grammar.specs.Memory.{header_of}
use Rattle.vfs_grammar.specs.Reply.{echo_of}
use Rattle.laws_turns.proofs.uses.limits.a_usual_server.Goals as goal

pub returns-clause-largest_len : goal.returns-clause-largest_len
returns-clause-largest_len c = c.limits_have_their_numbers.ensures.largest_len 4096

pub returns-clause-init : goal.returns-clause-init
returns-clause-init c = c.limits_have_their_numbers.ensures.max_write 4096

pub returns-clause-within : goal.returns-clause-within
returns-clause-within c = λ options room request long len.
    c.limits_have_their_numbers.ensures.len_within 4096 options room request long (omega (arith, len))

pub returns-clause-above : goal.returns-clause-above
returns-clause-above c = λ options room request long len.
    c.limits_have_their_numbers.ensures.len_above 4096 options room request long (omega (arith, len))

pub returns-clause-pairs_within : goal.returns-clause-pairs_within
returns-clause-pairs_within c = λ options room request long len is count.
    c.limits_have_their_numbers.ensures.pairs_within 4096 options room request long (omega (arith, len)) is (omega (arith, count))
    ∙ ap (λ (n : ℕ). refused_or (pairs_in n (drop 48 request)) (λ pairs.
    WithMemory (Asks (echo_of (header_of request)) (BatchForget (context_of (header_of request)) pairs)))) count

pub returns-clause-pairs_above : goal.returns-clause-pairs_above
returns-clause-pairs_above c = λ options room request long len is count.
    c.limits_have_their_numbers.ensures.pairs_above 4096 options room request long (omega (arith, len)) is (omega (arith, count))
