use Rattle.std.proofs.Common.{◌≡◌, ◌∙◌, ℕ, rules, subst, sym}
use Rattle.c_rooms.specs.Codes.{no_memory, outcome_code}
use Rattle.vfs_server.specs.Memory.{WantsNoMemory}
use Rattle.vfs_server.specs.Step.{ServerState}
use Rattle.nizwarf_tree.specs.Files.{State}
use Rattle.nizwarf_tree.proofs.Keeping.{back, left_within, none_some, other_number, whole_stays}
use Rattle.nizwarf_tree.proofs.Steps.{stepped}
use Rattle.nizwarf_tree.proofs.instance.Instance.answer_reader.Goals as goal

pub returns-clause-served : goal.returns-clause-served
returns-clause-served c =
    stepped _ c.lend_room.new.self.server c.handle_message-outcome.new.self _ _ _ _ _ _ _ _ c.in-Some.writer c.handle_message-outcome.new.w c.handle_message-outcome.result
    c.lend_room.ensures.server (c.end.ensures.server ∙ c.keep_room.ensures.server) c.handle_message-outcome.ensures.step c.handle_message-outcome.ensures.directories
    c.in-Some.ensures.left c.into_segments.ensures.bytes (c.end.ensures.room ∙ c.keep_room.ensures.room)
    c.end.ensures.number c.end.ensures.len c.end.ensures.shown

pub returns-clause-memory : goal.returns-clause-memory
returns-clause-memory c wants keeps code =
    let is : outcome_code c.handle_message-outcome.result ≡ no_memory = sym c.end.ensures.number ∙ search (rules, code) in
    other_number c.handle_message-outcome.result (c.handle_message-outcome.ensures.memory
    (subst (λ (n : ℕ). WantsNoMemory c.lend_room.new.self.server.limits c.lend_room.new.self.server.options n c.args.reader)
    (sym c.in-Some.ensures.left)
    (subst (λ (s : ServerState State). WantsNoMemory s.limits s.options c.args.total c.args.reader) (sym c.lend_room.ensures.server) wants)))
    is

pub returns-in_default-clause-memory : goal.returns-in_default-clause-memory
returns-in_default-clause-memory c wants keeps code =
    none_some c.lend_room.result (search rules) (c.lend_room.ensures.has keeps)

pub returns-clause-keeps : goal.returns-clause-keeps
returns-clause-keeps c n keeps =
    let longer = c.lend_room.ensures.longer n keeps in
    c.end.ensures.keeps n (back n c.keep_room.new.self c.in-Some.writer c.handle_message-outcome.new.w _
    (whole_stays c.in-Some.writer c.handle_message-outcome.new.w _ c.handle_message-outcome.ensures.step.leaves)
    c.into_segments.ensures.bytes (search (rules, longer)) c.keep_room.ensures.holds)

pub returns-clause-kept : goal.returns-clause-kept
returns-clause-kept c has short =
    c.end.ensures.keeps _ (back c.args.total c.keep_room.new.self c.in-Some.writer c.handle_message-outcome.new.w _
    (whole_stays c.in-Some.writer c.handle_message-outcome.new.w _ c.handle_message-outcome.ensures.step.leaves)
    c.into_segments.ensures.bytes (left_within c.args.total c.in-Some.writer c.in-Some.ensures.left) c.keep_room.ensures.holds)
