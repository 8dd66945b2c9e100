use Rattle.std.proofs.Common.{◌≡◌, ◌++◌, ◌∙◌, ℕ, List, [], length, drop, ap, refl, sym}
use Rattle.std.proofs.lemmas.List.{take-append-drop}
use Rattle.vfs_wire.specs.Fields.{bytes_of, value_of}
use Rattle.vfs_wire.specs.FieldLaws.{value_of-bytes_of-then}
use Rattle.vfs_wire.specs.Records.{kstatfs, kstatfs_of}
use Rattle.vfs_wire.specs.declared.attributes.AttrOut.{AttrOut}
use Rattle.vfs_wire.specs.declared.entries.EntryOut.{EntryOut}
use Rattle.vfs_files.specs.Calls.{Lookup, Getattr, Readlink, Statfs, Found, Attributes, Statistics, Text}
use Rattle.laws_turns.specs.Turns.{AnswersWhole}
use Rattle.laws_turns.proofs.uses.turns.numbers_in_replies.Goals as goal

pub returns-clause-getattr : goal.returns-clause-getattr
returns-clause-getattr c = λ limits options after inode ctx handle attributes timeout t turn e o.
    let answered : AnswersWhole limits options (Attributes attributes timeout) t after =
    record { turn = turn; call = Getattr ctx inode handle; called = e; len = 120; fits = o } in
    let same = c.replies_say_what_was_answered.ensures.attributes limits options after t attributes timeout answered in
    (ap (λ (r : AttrOut). r.attr.size) same, ap (λ (r : AttrOut). r.attr_valid) same)

pub returns-clause-lookup : goal.returns-clause-lookup
returns-clause-lookup c = λ limits options after parent ctx name entry t turn e o.
    let answered : AnswersWhole limits options (Found entry) t after =
    record { turn = turn; call = Lookup ctx parent name; called = e; len = 144; fits = o } in
    ap (λ (r : EntryOut). r.nodeid) (c.replies_say_what_was_answered.ensures.entry limits options after t entry answered)

pub returns-clause-statfs : goal.returns-clause-statfs
returns-clause-statfs c = λ limits options after inode ctx statistics t turn e o.
    let answered : AnswersWhole limits options (Statistics statistics) t after =
    record { turn = turn; call = Statfs ctx inode; called = e; len = 96; fits = o } in
    let body : List ℕ = bytes_of kstatfs (kstatfs_of statistics) in
    let rest : List ℕ = drop (length body) (drop 16 t.room_after) in
    let parts : drop 16 t.room_after ≡ body ++ rest =
    sym (take-append-drop (length body) (drop 16 t.room_after))
    ∙ ap (λ (l : List ℕ). l ++ rest) (c.replies_say_what_was_answered.ensures.body limits options after t (Statistics statistics) answered) in
    ap (value_of kstatfs) parts
    ∙ value_of-bytes_of-then kstatfs (kstatfs_of statistics) rest (c.answers_are_of_their_kind.ensures limits options after (Statfs ctx inode) (Statistics statistics) [] t turn e) refl

pub returns-clause-readlink : goal.returns-clause-readlink
returns-clause-readlink c = λ limits options after inode ctx text t turn e o.
    let answered : AnswersWhole limits options (Text text) t after =
    record { turn = turn; call = Readlink ctx inode; called = e; len = 19; fits = o } in
    c.replies_say_what_was_answered.ensures.body limits options after t (Text text) answered
