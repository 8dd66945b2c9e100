-- An item is added with what it gets.
use Rattle.std.proofs.Common.{◌≡◌, ◌≢◌, ℕ, List, pos, Bool, true, false, Option, Some, None, Result, Ok, Err, length, ap, refl, subst, ◌∙◌}
use Rattle.vfs_segments.specs.Written.{Written}
use Rattle.vfs_files.specs.Values.{entry_out_of, Item, name_of}
use Rattle.vfs_files.specs.declared.entry.Entry.{Entry}
use Rattle.vfs_grammar.specs.Listing.{Got, Gets, is_dot, dot_out, verdict}
use Rattle.vfs_listings.specs.Reading.{Adds, AddsGot}
use Rattle.codec_calls.specs.Values.{IsFaultOf, entry_out_for}
use Rattle.codec_calls.specs.declared.data.ItemData.{ItemData}
use Rattle.codec_encode.specs.Offered.{item_told, AddsItem, IsFound}

module _ (max : ℕ) (i : ItemData) (name : List ℕ) (old : Written) (result : Result ℕ (Option ℕ)) (new : Written) (plus : Bool)
    (named : name_of i.name.now ≡ Some name) where
  -- an item that got this
  adds : (got : Got) → Gets plus (is_dot name) (item_told i name) got → IsFound plus (is_dot name) i got
      → AddsGot max (length old.left) got (item_told i name) old result new → AddsItem plus max i old result new
  adds got gets found added = record {
    line = record { item = item_told i name; got = got };
    is_line = record { name = name; named = named; item = refl; found = found };
    is_got = gets;
    adds = added;
  }

  plain_gets : (plus dot : Bool) (it : Item) → plus ≡ false → Gets plus dot it (Ok None) × IsFound plus dot i (Ok None)
  plain_gets false dot it e = (refl, tt)
  plain_gets true dot it e = cc

  dot_gets : (plus dot : Bool) (it : Item) (entry : Entry) → plus ≡ true → dot ≡ true → entry_out_of entry ≡ dot_out it
      → Gets plus dot it (Ok (Some entry)) × IsFound plus dot i (Ok (Some entry))
  dot_gets true true it entry p d e = (e, tt)
  dot_gets true false it entry p d e = cc
  dot_gets false dot it entry p d e = cc

  entry_gets : (plus dot : Bool) (it : Item) (entry : Entry) → plus ≡ true → dot ≡ false → i.error ≡ pos 0
      → entry_out_of entry ≡ entry_out_for i.entry → Gets plus dot it (Ok (Some entry)) × IsFound plus dot i (Ok (Some entry))
  entry_gets true false it entry p d none e = (tt, (none, e))
  entry_gets true true it entry p d none e = cc
  entry_gets false dot it entry p d none e = cc

  fault_gets : (plus dot : Bool) (it : Item) (fault : Option ℕ) → plus ≡ true → dot ≡ false → i.error ≢ pos 0
      → IsFaultOf i.error fault → Gets plus dot it (Err fault) × IsFound plus dot i (Err fault)
  fault_gets true false it fault p d some e = (tt, (some, e))
  fault_gets true true it fault p d some e = cc
  fault_gets false dot it fault p d some e = cc

  module _ (it : Item) (same : it ≡ item_told i name) where
    -- without an entry
    pub adds_plain : plus ≡ false → Adds (verdict max (length old.left) (Ok None) it) None it old result new
        → AddsItem plus max i old result new
    adds_plain p added =
        let gets = plain_gets plus (is_dot name) (item_told i name) p in
        adds (Ok None) gets.0 gets.1
        (subst (λ (x : Item). Adds (verdict max (length old.left) (Ok None) x) None x old result new) same added)

    adds_with : (entry : Entry) → Gets plus (is_dot name) (item_told i name) (Ok (Some entry)) × IsFound plus (is_dot name) i (Ok (Some entry))
        → Adds (verdict max (length old.left) (Ok (Some entry)) it) (Some entry) it old result new → AddsItem plus max i old result new
    adds_with entry gets added =
        adds (Ok (Some entry)) gets.0 gets.1
        (subst (λ (x : Item). Adds (verdict max (length old.left) (Ok (Some entry)) x) (Some entry) x old result new) same added)

    -- `.` or `..`
    pub adds_dot : (entry : Entry) → plus ≡ true → is_dot name ≡ true → entry_out_of entry ≡ dot_out it
        → Adds (verdict max (length old.left) (Ok (Some entry)) it) (Some entry) it old result new → AddsItem plus max i old result new
    adds_dot entry p d e = adds_with entry (dot_gets plus (is_dot name) (item_told i name) entry p d (e ∙ ap dot_out same))

    -- with its entry
    pub adds_entry : (entry : Entry) → plus ≡ true → is_dot name ≡ false → i.error ≡ pos 0 → entry_out_of entry ≡ entry_out_for i.entry
        → Adds (verdict max (length old.left) (Ok (Some entry)) it) (Some entry) it old result new → AddsItem plus max i old result new
    adds_entry entry p d none e = adds_with entry (entry_gets plus (is_dot name) (item_told i name) entry p d none e)

  -- the fault of its lookup
  pub adds_fault : (fault : Option ℕ) → plus ≡ true → is_dot name ≡ false → i.error ≢ pos 0 → IsFaultOf i.error fault → result ≡ Err fault
      → new ≡ old → AddsItem plus max i old result new
  adds_fault fault p d some e is kept =
      let gets = fault_gets plus (is_dot name) (item_told i name) fault p d some e in
      adds (Err fault) gets.0 gets.1 (is, kept)
