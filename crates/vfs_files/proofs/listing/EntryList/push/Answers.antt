use Rattle.std.proofs.Common.{◌≡◌, ◌++◌, ◌∷◌, [], ap, ◌∙◌, arith}
use Rattle.std.proofs.lemmas.Grind.{common_steps}
use Rattle.vfs_files.specs.Values.{item, name_text}
use Rattle.vfs_files.specs.declared.listing.Kept.{Kept}
use Rattle.vfs_files.proofs.Kept.{listing_items, listing_pushed}
use Rattle.vfs_files.proofs.Results.{ok_case}
use Rattle.vfs_files.proofs.listing.EntryList.push.Goals as goal

kept : goal.Else-is_err-2 → Kept
kept c = record {
  ino = c.args.added.ino;
  offset = c.args.added.offset;
  type_ = c.args.added.type_;
  end = c.len.result;
}

names_are : (c : goal.Else-is_err-2) → c.extend_from_slice.new.self.items
    ≡ c.self.inside.names.items ++ name_text c.args.added.name
names_are c =
    ok_case c.extend_from_slice.result c.is_err.result c.is_err.ensures.value
    c.if-is_err.false _ _ _ c.extend_from_slice.ensures.items
    ∙ ap (λ l. c.self.inside.names.items ++ l) c.to_bytes.ensures

entries_are : (c : goal.Else-is_err-2)
    → c.push.new.self.items ≡ c.self.inside.entries.items ++ kept c ∷ []
unfolding kept
entries_are c =
    ok_case c.push.result c.is_err-2.result c.is_err-2.ensures.value c.if-is_err-2.false _ _ _
    c.push.ensures.items

pub invariant_of-self-else-is_err-2 : goal.invariant_of-self-else-is_err-2
unfolding kept
invariant_of-self-else-is_err-2 c =
    let s = c.self.inside in
    listing_pushed s.names.items s.entries.items s.given s.begin c.self.invariant
    (name_text c.args.added.name) c.args.added.name.no_nul (kept c)
    c.extend_from_slice.new.self.items c.push.new.self.items (names_are c) (entries_are c)
    (c.len.ensures ∙ c.extend_from_slice.new.self.ok.0)

pub returns-clause-ok : goal.returns-clause-ok
unfolding kept
returns-clause-ok c =
    let s = c.self.inside in
    listing_items s.names.items s.entries.items s.given s.begin c.self.invariant
    (name_text c.args.added.name) c.args.added.name.no_nul (kept c)
    c.extend_from_slice.new.self.items c.push.new.self.items (names_are c) (entries_are c)
    (c.len.ensures ∙ c.extend_from_slice.new.self.ok.0)
    ∙ ap (λ l. l ++ item c.args.added ∷ []) c.self.view_is

pub invariant_of-self-then-is_err-2 : goal.invariant_of-self-then-is_err-2
invariant_of-self-then-is_err-2 c = grind (arith, common_steps)

pub returns-then-is_err-2-clause-err : goal.returns-then-is_err-2-clause-err
returns-then-is_err-2-clause-err c = grind (arith, common_steps)
