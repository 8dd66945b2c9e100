use Rattle.std.proofs.Common.{◌≡◌, ℕ, ◌+◌, List, [], ◌∷◌, ◌++◌, refl, arith, Some, None, sym, ap, ◌∙◌, subst}
use Rattle.std.specs.Cmp.Lexicographic.{slice_cmp}
use Rattle.std.specs.Ordering.{nat_cmp}
use Rattle.std.specs.BTreeMap.{UpdatesBy}
use Rattle.std.proofs.lemmas.Grind.{common_steps}
use Rattle.vfs_files.specs.Values.{name_text}
use Rattle.fs_small.specs.MemFs.{Stock, Stored}
use Rattle.fs_small.specs.Index.{AreIndexed, file_place}
use Rattle.fs_small.proofs.Indexed.{indexed_same, indexed_added}
use Rattle.fs_small.proofs.memfs.MemFs.add.Goals as goal

pub invariant_of-self-in_default-insert : goal.invariant_of-self-in_default-insert
invariant_of-self-in_default-insert c =
    let s = c.self.inside in
    let same : c.insert.new.self.entries ≡ s.names.entries = grind (arith, common_steps) in
    let back : c.pop.new.self.items ≡ s.files.items = grind (arith, common_steps) in
    subst (λ (fs : List Stored). AreIndexed fs c.insert.new.self s.next) (sym back)
    (indexed_same s.files.items s.names s.next c.self.invariant c.insert.new.self same)

pub invariant_of-self-2 : goal.invariant_of-self-2
invariant_of-self-2 c =
    let s = c.self.inside in
    let own = c.in_ok-new.field-0 in
    let file : Stored =
    record { node = s.next; name = own; contents = c.args.contents } in
    let named : own ≡ name_text c.args.name = c.in_ok-new.ensures.same in
    let keyed : c.in_ok-key.key.items ≡ own =
    c.in_ok-key.ensures.same ∙ c.to_bytes.ensures ∙ sym named in
    let updates = c.in-Ok-insert.ensures.updates in
    let free : file_place (record { files = s.files.items; next = s.next }) own ≡ None =
    ap (λ (stock : Stock). file_place stock own) c.self.view_is
    ∙ ap (file_place c.args.self.now) named ∙ c.requires.free in
    let pushed : c.push.new.self.items ≡ s.files.items ++ file ∷ [] = c.in-Ok.ensures.items in
    let Updates = λ (l : List ℕ). UpdatesBy (λ x y. slice_cmp nat_cmp x.items y.items)
    (λ key. slice_cmp nat_cmp l key.items) s.names c.insert.new.self (Some s.next) in
    subst (λ (fs : List Stored). AreIndexed fs c.insert.new.self (s.next + 1)) (sym pushed)
    (indexed_added s.files.items s.names s.next c.self.invariant file refl free c.insert.new.self
    (subst Updates keyed updates))

pub returns-in_default-insert : goal.returns-in_default-insert
returns-in_default-insert c = grind (arith, common_steps)
