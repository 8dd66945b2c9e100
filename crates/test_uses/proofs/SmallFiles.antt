-- What the small file systems' tables say, each line by its cases.
use Rattle.std.proofs.Common.{◌≡◌, ◌<◌, ◌+◌, ℕ, List, length, Option, Some, None, remove, subst}
use Rattle.std.specs.Duration.{as_nanos}
use Rattle.std.specs.declared.time.Duration.{Duration}
use Rattle.vfs_wire.specs.declared.attributes.Attr.{Attr}
use Rattle.vfs_files.specs.Answers.{Answer, Attributes, Created, Done, Failed, Found, Iterator, Plain, Wrote}
use Rattle.vfs_files.specs.Bytes.{fitting, written}
use Rattle.vfs_files.specs.Values.{Item}
use Rattle.vfs_files.specs.declared.entry.Entry.{Entry}
use Rattle.fs_small.specs.MemFile.{most_bytes}
use Rattle.fs_small.specs.MemFs as files
use Rattle.fs_small.specs.MemFs.{Stored, Stock, TakesOut, Makes, AnswersRead, WritesInto, contents_at, with_contents, with_file, new_file, file_attr}
use Rattle.fs_small.specs.ReadOnly as tree
use Rattle.fs_small.specs.ReadOnly.{AnswersLookup, OpensItems, lookup_refusal, items_after}
use Rattle.fs_small.specs.Tables.{Named, Tables}

-- ---- files in memory

pub found_as : (file : Stored) (entry : Entry) → files.AnswersEntry (Some file) (Found entry)
    → (entry.inode ≡ file.node) × (entry.generation ≡ 0) × (entry.attr ≡ file_attr file)
found_as file entry h = (h.inode, h.generation, h.attr_is)

pub not_found : (fault : Option ℕ) → files.AnswersEntry None (Failed fault) → fault ≡ Some 2
not_found fault h = h

pub attributes_are : (attr found : Attr) (timeout : Duration)
    → files.AnswersAttr (Some attr) (Attributes found timeout)
    → (found ≡ attr) × (as_nanos timeout ≡ 1_000_000_000)
attributes_are attr found timeout h = (h.0, h.1)

pub no_attributes : (fault : Option ℕ) → files.AnswersAttr None (Failed fault) → fault ≡ Some 2
no_attributes fault h = h

pub attributes_alone : (attr : Attr) → files.AnswersAttr (Some attr) Done → ⊥
attributes_alone attr h = h

pub taken_out : (old : Stock) (place : ℕ) (answer : Answer) (new : Stock)
    → TakesOut old (Some place) answer new
    → (answer ≡ Done) × (new ≡ record old { files = remove old.files place })
taken_out old place answer new h = (h.0, h.1)

pub none_out : (old : Stock) (answer : Answer) (new : Stock) → TakesOut old None answer new
    → (answer ≡ Failed (Some 2)) × (new ≡ old)
none_out old answer new h = (h.0, h.1)

pub record IsMade (old : Stock) (name : List ℕ) (entry : Entry) (handle : Option ℕ) (options : ℕ) (new : Stock) : Type 0
  where
    pub no_handle : handle ≡ None
    pub no_options : options ≡ 0
    pub number : entry.inode ≡ old.next
    pub files_are : new ≡ with_file old (new_file old name)

pub made : (old : Stock) (name : List ℕ) (entry : Entry) (handle : Option ℕ) (options : ℕ) (new : Stock)
    → Makes old name None (Created entry handle options) new → IsMade old name entry handle options new
made old name entry handle options new h = record {
  no_handle = h.0;
  no_options = h.1;
  number = h.2.0.inode;
  files_are = h.2.1;
}

pub not_made : (old : Stock) (name : List ℕ) (fault : Option ℕ) (new : Stock)
    → Makes old name None (Failed fault) new → (fault ≡ Some 12) × (new ≡ old)
not_made old name fault new h = (h.0, h.1)

pub not_to_make : (old : Stock) (name : List ℕ) (number : ℕ) (answer : Answer) (new : Stock)
    → Makes old name (Some number) answer new → (answer ≡ Failed (Some number)) × (new ≡ old)
not_to_make old name number answer new h = (h.0, h.1)

pub made_alone : (old : Stock) (name : List ℕ) (new : Stock) → Makes old name None Done new → ⊥
made_alone old name new h = h

pub none_read : (old : Stock) (off most : ℕ) (answer : Answer) → AnswersRead old None off most answer
    → answer ≡ Failed (Some 2)
none_read old off most answer h = h

pub record IsWritten (old : Stock) (place off : ℕ) (part : List ℕ) (count : ℕ) (new : Stock) : Type 0 where
  pub contents : List ℕ
  pub counted : count ≡ length (fitting most_bytes off part)
  pub contents_are : contents ≡ written (contents_at old.files place) off (fitting most_bytes off part)
  pub files_are : new ≡ record old { files = with_contents old.files place contents }

pub was_written : (old : Stock) (place off : ℕ) (part : List ℕ) (count : ℕ) (new : Stock)
    → WritesInto old (Some place) off part (Wrote count) new → IsWritten old place off part count new
was_written old place off part count new h = record {
  contents = h.0;
  counted = h.1.0;
  contents_are = h.1.1;
  files_are = h.2;
}

pub record IsNotWritten (old : Stock) (place off : ℕ) (part : List ℕ) (fault : Option ℕ) (new : Stock) : Type 0 where
  pub number : fault ≡ Some 12
  pub some : 0 < length (fitting most_bytes off part)
  pub longer : length (contents_at old.files place) < off + length (fitting most_bytes off part)
  pub same : new ≡ old

pub not_written : (old : Stock) (place off : ℕ) (part : List ℕ) (fault : Option ℕ) (new : Stock)
    → WritesInto old (Some place) off part (Failed fault) new → IsNotWritten old place off part fault new
not_written old place off part fault new h = record {
  number = h.0.0;
  some = h.0.1.some;
  longer = h.0.1.longer;
  same = h.1;
}

pub written_alone : (old : Stock) (place off : ℕ) (part : List ℕ) (new : Stock)
    → WritesInto old (Some place) off part Done new → ⊥
written_alone old place off part new h = h

pub none_written : (old : Stock) (off : ℕ) (part : List ℕ) (answer : Answer) (new : Stock)
    → WritesInto old None off part answer new → (answer ≡ Failed (Some 2)) × (new ≡ old)
none_written old off part answer new h = (h.0, h.1)

-- ---- a tree that is only read

pub entry_of : (node : ℕ) (attr : Attr) (entry : Entry) → tree.AnswersEntry node (Some attr) (Found entry)
    → (entry.inode ≡ node) × (entry.attr ≡ attr)
entry_of node attr entry h = (h.inode, h.attr_is)

pub no_entry : (node : ℕ) (answer : Answer) → tree.AnswersEntry node None answer → answer ≡ Failed (Some 2)
no_entry node answer h = h

pub entry_alone : (node : ℕ) (attr : Attr) → tree.AnswersEntry node (Some attr) Done → ⊥
entry_alone node attr h = h

pub looked_up : (t : Tables) (parent node : ℕ) (child : Option ℕ) (attr : Option Attr) (answer : Answer)
    → child ≡ Some node → t.attr node ≡ attr → AnswersLookup t parent child answer
    → tree.AnswersEntry node attr answer
looked_up t parent node child attr answer is of h =
    let there : AnswersLookup t parent (Some node) answer =
    subst (λ (o : Option ℕ). AnswersLookup t parent o answer) is h in
    subst (λ (o : Option Attr). tree.AnswersEntry node o answer) of there

pub no_child : (t : Tables) (parent : ℕ) (child : Option ℕ) (answer : Answer) → child ≡ None
    → AnswersLookup t parent child answer → answer ≡ Failed (Some (lookup_refusal t parent))
no_child t parent child answer is h =
    let none : AnswersLookup t parent None answer =
    subst (λ (o : Option ℕ). AnswersLookup t parent o answer) is h in
    none

pub tree_attributes : (table : Option Attr) (attr found : Attr) (timeout : Duration) → table ≡ Some attr
    → tree.AnswersAttr table (Attributes found timeout)
    → (found ≡ attr) × (as_nanos timeout ≡ 1_000_000_000)
tree_attributes table attr found timeout is h =
    let there : tree.AnswersAttr (Some attr) (Attributes found timeout) =
    subst (λ (o : Option Attr). tree.AnswersAttr o (Attributes found timeout)) is h in
    (there.0, there.1)

pub no_tree_attributes : (table : Option Attr) (answer : Answer) → table ≡ None → tree.AnswersAttr table answer
    → answer ≡ Failed (Some 2)
no_tree_attributes table answer is h =
    let none : tree.AnswersAttr None answer = subst (λ (o : Option Attr). tree.AnswersAttr o answer) is h in
    none

pub tree_attributes_alone : (table : Option Attr) (attr : Attr) → table ≡ Some attr
    → tree.AnswersAttr table Done → ⊥
tree_attributes_alone table attr is h =
    let there : tree.AnswersAttr (Some attr) Done = subst (λ (o : Option Attr). tree.AnswersAttr o Done) is h in
    there

pub items_left : (table : Option (List Named)) (items : List Named) (refusal offset : ℕ) (left : List Item)
    → table ≡ Some items → OpensItems table refusal offset (Iterator left) → left ≡ items_after items offset
items_left table items refusal offset left is h =
    let there : OpensItems (Some items) refusal offset (Iterator left) =
    subst (λ (o : Option (List Named)). OpensItems o refusal offset (Iterator left)) is h in
    there

pub no_items : (table : Option (List Named)) (refusal offset : ℕ) (answer : Answer) → table ≡ None
    → OpensItems table refusal offset (Plain answer) → answer ≡ Failed (Some refusal)
no_items table refusal offset answer is h =
    let none : OpensItems None refusal offset (Plain answer) =
    subst (λ (o : Option (List Named)). OpensItems o refusal offset (Plain answer)) is h in
    none

pub items_alone : (table : Option (List Named)) (items : List Named) (refusal offset : ℕ) (answer : Answer)
    → table ≡ Some items → OpensItems table refusal offset (Plain answer) → ⊥
items_alone table items refusal offset answer is h =
    let there : OpensItems (Some items) refusal offset (Plain answer) =
    subst (λ (o : Option (List Named)). OpensItems o refusal offset (Plain answer)) is h in
    there
