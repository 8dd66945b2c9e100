use Rattle.std.proofs.Common.{◌∙◌, ℕ, drop, ap, arith}
use Rattle.vfs_files.specs.Calls.{BatchForget}
use Rattle.vfs_files.specs.Values.{context_of}
use Rattle.vfs_grammar.specs.Forms.{Asks, WithMemory, refused_or, pairs_in}
use Rattle.vfs_grammar.specs.Limits.{AreLimits}
use Rattle.vfs_grammar.specs.Memory.{header_of}
use Rattle.vfs_grammar.specs.Reply.{echo_of}
use Rattle.laws_turns.specs.Limits.{one_page}
use Rattle.laws_turns.proofs.uses.limits.a_server_of_one_page.Goals as goal

limits : AreLimits one_page
limits = record { page = omega arith; least = omega arith; greatest = omega arith }

pub returns-clause-init : goal.returns-clause-init
returns-clause-init c = λ options after want t whole. (
  c.limits_are_kept.ensures.max_write one_page options after want t limits whole,
  c.limits_are_kept.ensures.max_pages one_page options after want t limits whole,
)

pub returns-clause-within : goal.returns-clause-within
returns-clause-within c = λ options room request long len.
    c.limits_are_kept.ensures.len_within one_page options room request long (omega (arith, len))

pub returns-clause-above : goal.returns-clause-above
returns-clause-above c = λ options room request long len.
    c.limits_are_kept.ensures.len_above one_page options room request long (omega (arith, len))

pub returns-clause-pairs_within : goal.returns-clause-pairs_within
returns-clause-pairs_within c = λ options room request long len is count.
    c.limits_are_kept.ensures.pairs_within one_page options room request long (omega (arith, len)) is (omega (arith, count))
    ∙ ap (λ (n : ℕ). refused_or (pairs_in n (drop 48 request)) (λ pairs.
    WithMemory (Asks (echo_of (header_of request)) (BatchForget (context_of (header_of request)) pairs)))) count

pub returns-clause-pairs_above : goal.returns-clause-pairs_above
returns-clause-pairs_above c = λ options room request long len is count.
    c.limits_are_kept.ensures.pairs_above one_page options room request long (omega (arith, len)) is (omega (arith, count))
