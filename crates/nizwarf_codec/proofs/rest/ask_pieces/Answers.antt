use Rattle.std.proofs.Common.{◌≡◌, ◌≤◌, ◌+◌, ◌++◌, ◌∙◌, List, ℕ, [], ◌∷◌, true, length, append-nil, ap, rules, subst}
use Rattle.vfs_segments.specs.Lengths.{lengths_from}
use Rattle.vfs_messages.specs.Rooms.{with_after}
use Rattle.codec_decode.specs.Asked.{IsAsked}
use Rattle.codec_decode.specs.Memory.{MayWantAfterHeader}
use Rattle.vfs_flags.specs.Flags.{fs_options_bits}
use Rattle.c_rooms.specs.Codes.{is_asked, no_memory, outcome_code}
use Rattle.nizwarf_codec.proofs.Asking.{finished_room, kept_for, no_call, other_number, told_call, told_finished, told_has, told_or_not}
use Rattle.nizwarf_codec.proofs.Leaving.{keeps_room, nothing_shown}
use Rattle.nizwarf_codec.proofs.rest.ask_pieces.Goals as goal

pub returns-in-Call-clause-asked : goal.returns-in-Call-clause-asked
returns-in-Call-clause-asked c =
    let begun : c.begin_ask.result ≡ true = search rules in
    let enough : length c.begin_ask.new.self.asked.writer.left ≤ c.args.room = search rules in
    let left : c.reader_of-reader.result.left ≡ c.args.rest.now = c.reader_of-reader.ensures.left ∙ append-nil c.args.rest.now in
    let asked = subst (λ (b : List ℕ). (following : List ℕ) → length c.begin_ask.new.self.asked.writer.left + length following ≡ c.args.room →
    IsAsked c.args.limits (fs_options_bits c.args.options) (c.args.head.now ++ b) (with_after c.begin_ask.new.self.asked.writer following)
    c.ask_rest-asked.result (with_after c.ask_rest-asked.new.w following) c.ask_rest-asked.new.call) left c.ask_rest-asked.ensures.asked in
    told_or_not _ _ _ _ c.tell_call.result _ c.ask_rest-asked.new.call _ _ _ _ (search rules)
    (told_call _ _ _ _ _ c.args.told.now c.begin_ask.new.self.asked.writer c.ask_rest-asked.new.w c.ask_rest-asked.result
    asked c.ask_rest-asked.ensures.within enough (search rules))
    (nothing_shown c.tell_call.new.memory (search rules)) c.tell_call.ensures.told

pub returns-in-Call-clause-memory : goal.returns-in-Call-clause-memory
returns-in-Call-clause-memory c reply answer none code =
    let begun : c.begin_ask.result ≡ true = search rules in
    let enough : length c.begin_ask.new.self.asked.writer.left ≤ c.args.room = search rules in
    let left : c.reader_of-reader.result.left ≡ c.args.rest.now = c.reader_of-reader.ensures.left ∙ append-nil c.args.rest.now in
    let asked = subst (λ (b : List ℕ). (following : List ℕ) → length c.begin_ask.new.self.asked.writer.left + length following ≡ c.args.room →
    IsAsked c.args.limits (fs_options_bits c.args.options) (c.args.head.now ++ b) (with_after c.begin_ask.new.self.asked.writer following)
    c.ask_rest-asked.result (with_after c.ask_rest-asked.new.w following) c.ask_rest-asked.new.call) left c.ask_rest-asked.ensures.asked in
    let has = told_has c.args.limits (fs_options_bits c.args.options) (c.args.head.now ++ c.args.rest.now) c.args.room c.ask_rest-asked.new.call c.args.told.now
    c.begin_ask.new.self.asked.writer c.ask_rest-asked.new.w c.ask_rest-asked.result
    asked c.ask_rest-asked.ensures.within enough c.args.memory.now.answers (search rules) answer in
    let told : c.tell_call.result ≡ is_asked = c.tell_call.ensures.has (rw c.begin_ask.ensures.same has) in
    let want : c.tell_call.result ≡ no_memory = search (rules, code) in
    cc (told, want)

pub returns-in-Call-clause-kept : goal.returns-in-Call-clause-kept
returns-in-Call-clause-kept c code =
    kept_for c.tell_call.result c.ask_rest-asked.new.call c.tell_call.new.call c.tell_call.new.memory.answers
    c.tell_call.ensures.told (search (rules, code))

pub returns-in-Call-clause-keeps : goal.returns-in-Call-clause-keeps
returns-in-Call-clause-keeps c n has = c.tell_call.ensures.keeps n (rw c.begin_ask.ensures.same has)

pub returns-in-Finished-clause-asked : goal.returns-in-Finished-clause-asked
returns-in-Finished-clause-asked c =
    let begun : c.begin_ask.result ≡ true = search rules in
    let enough : length c.begin_ask.new.self.asked.writer.left ≤ c.args.room = search rules in
    let left : c.reader_of-reader.result.left ≡ c.args.rest.now = c.reader_of-reader.ensures.left ∙ append-nil c.args.rest.now in
    let asked = subst (λ (b : List ℕ). (following : List ℕ) → length c.begin_ask.new.self.asked.writer.left + length following ≡ c.args.room →
    IsAsked c.args.limits (fs_options_bits c.args.options) (c.args.head.now ++ b) (with_after c.begin_ask.new.self.asked.writer following)
    c.ask_rest-asked.result (with_after c.ask_rest-asked.new.w following) c.ask_rest-asked.new.call) left c.ask_rest-asked.ensures.asked in
    let was = c.begin_ask.ensures.was_asked in
    rw was (told_finished _ _ _ _ _ _ c.begin_ask.new.self.asked.writer c.ask_rest-asked.new.w c.ask_rest-asked.result
    asked c.ask_rest-asked.ensures.within enough _ _ _ c.in-Finished.outcome _
    (search rules) (c.begin_ask.ensures.start begun) (c.begin_ask.ensures.one begun)
    (search rules) c.number_and_length-code.ensures.length)

pub returns-in-Finished-clause-memory : goal.returns-in-Finished-clause-memory
returns-in-Finished-clause-memory c reply answer none code =
    let number = c.number_and_length-code.ensures.number in
    let is : outcome_code c.in-Finished.outcome ≡ no_memory = search (rules, code, number) in
    let r = c.reader_of-reader.result in
    let wanted = λ (b p : List ℕ). MayWantAfterHeader c.args.limits (fs_options_bits c.args.options) c.args.room (c.args.head.now ++ b) p in
    let left : r.left ≡ c.args.rest.now = c.reader_of-reader.ensures.left ∙ append-nil c.args.rest.now in
    let pieces : r.pieces ≡ lengths_from 0 (length c.args.rest.now ∷ []) =
    c.reader_of-reader.ensures.one_piece ∙ ap (λ (b : List ℕ). lengths_from 0 (length b ∷ [])) (append-nil c.args.rest.now) in
    other_number c.in-Finished.outcome (c.in-Finished.ensures.memory (λ w. none
    (subst (wanted c.args.rest.now) pieces (subst (λ (b : List ℕ). wanted b r.pieces) left w)))) is

pub returns-in-Finished-clause-kept : goal.returns-in-Finished-clause-kept
returns-in-Finished-clause-kept c code =
    let number = c.number_and_length-code.ensures.number in
    let is : outcome_code c.in-Finished.outcome ≡ is_asked = search (rules, code, number) in
    absurd (no_call c.in-Finished.outcome is)

pub invariant_of-memory-in-Finished : goal.invariant_of-memory-in-Finished
invariant_of-memory-in-Finished c =
    let begun : c.begin_ask.result ≡ true = search rules in
    let enough : length c.begin_ask.new.self.asked.writer.left ≤ c.args.room = search rules in
    let left : c.reader_of-reader.result.left ≡ c.args.rest.now = c.reader_of-reader.ensures.left ∙ append-nil c.args.rest.now in
    let asked = subst (λ (b : List ℕ). (following : List ℕ) → length c.begin_ask.new.self.asked.writer.left + length following ≡ c.args.room →
    IsAsked c.args.limits (fs_options_bits c.args.options) (c.args.head.now ++ b) (with_after c.begin_ask.new.self.asked.writer following)
    c.ask_rest-asked.result (with_after c.ask_rest-asked.new.w following) c.ask_rest-asked.new.call) left c.ask_rest-asked.ensures.asked in
    let keeps = finished_room c.args.limits (fs_options_bits c.args.options) (c.args.head.now ++ c.args.rest.now) c.args.room c.ask_rest-asked.new.call c.args.told.now
    c.begin_ask.new.self.asked.writer c.ask_rest-asked.new.w c.ask_rest-asked.result
    asked c.ask_rest-asked.ensures.within enough c.in-Finished.outcome c.in-Finished.interrupts (search rules) in
    record {
      replies =
          keeps_room 80 c.begin_ask.new.self.asked (record c.begin_ask.new.self.asked { writer = c.ask_rest-asked.new.w }) keeps
          c.begin_ask.new.self.replies;
    }
