-- A record that is put.
use Rattle.std.proofs.Common.{◌≡◌, ◌≤◌, ◌<◌, ◌+◌, ◌-◌, ◌^◌, ℕ, false, true, nat_lt, List, ◌++◌, Option, Some, None, Result, Ok, Err, IsOk, length, take, refl, replicate, ap, ◌∙◌, arith, append_assoc, length-append}
use Rattle.std.specs.Prelude.{◌↔◌}
use Rattle.std.proofs.Math.Nat.{lt_of_not-le}
use Rattle.std.proofs.lemmas.Bool.Decides.{nat_tests}
use Rattle.std.proofs.lemmas.List.{take_all, drop-drop}
use Rattle.vfs_wire.specs.Fields.{bytes_of}
use Rattle.vfs_wire.specs.Records.{dirent, direntplus}
use Rattle.std.specs.Int.{next_multiple_of}
use Rattle.vfs_segments.specs.Written.{Written, wrote}
use Rattle.vfs_files.specs.Values.{entry_out_of, Item}
use Rattle.vfs_files.specs.declared.entry.Entry.{Entry}
use Rattle.vfs_listings.specs.Reading.{PutsBeginning, Adds}
use Rattle.vfs_grammar.specs.Listing.{verdict, dirent_len, dirent_bytes, record_len}
use Rattle.vfs_grammar.specs.Words.{dirent_of, record_bytes, FitsOption}
use Rattle.vfs_grammar.proofs.Dirents.{length-record_bytes}

-- two writes are one
pub wrote-wrote : (w : Written) (x y : List ℕ) → wrote (wrote w x) y ≡ wrote w (x ++ y)
wrote-wrote w x y = rw (
  append_assoc w.passed x y,
  length-append x y,
  drop-drop (length y)
      (length x) w.left,
) refl

-- a write that is told by the length of what it puts
pub puts_by : {E : Type 0} (old new : Written) (bytes : List ℕ) (n : ℕ)
    (result : Result (Unit {0}) E)
    → new ≡ wrote old (take (length old.left) bytes) → IsOk result ↔ (n ≤ length old.left)
    → length bytes ≡ n
    → PutsBeginning old bytes result new
puts_by old new bytes n result puts whole long =
    record {
      puts = puts;
      whole = (
        λ h. let k = whole.0 h in
            omega (arith, k, long),
        λ h. whole.1 (omega (arith, h, long)),
      );
    }

-- what comes after an `EntryOut` and a `Dirent` of 128 and 24 bytes is what comes after the
-- `Dirent` alone
pub same_padding : (n : ℕ) → next_multiple_of (152 + n) 8 - (152 + n) ≡ dirent_len n - (24 + n)
same_padding n = omega arith

-- the bytes of an item whose name has this text
pub dirent_parts : (i : Item) (name : List ℕ) → name ≡ i.name
    → bytes_of dirent (dirent_of i) ++ (name ++ replicate (next_multiple_of (24 + length name) 8 - (24 + length name)) 0) ≡ dirent_bytes i
unfolding dirent_bytes
dirent_parts i name e = rw e refl

-- the same after an entry
pub direntplus_parts : (entry : Entry) (i : Item) (name : List ℕ) → name ≡ i.name
    → bytes_of direntplus (record { entry_out = entry_out_of entry; dirent = dirent_of i })
    ++ (name ++ replicate (next_multiple_of (152 + length name) 8 - (152 + length name)) 0) ≡ record_bytes (Some entry) i
unfolding dirent_bytes
direntplus_parts entry i name e = rw (e, same_padding (length i.name)) (simp append_assoc)

-- a record that fits
pub adds_whole : {E : Type 0} (max : ℕ) (entry : Option Entry) (i : Item) (old new : Written)
    (len : ℕ) (result : Result (Unit {0}) E)
    → len ≡ record_len entry i → length i.name ≤ 2 ^ 32 - 1 → len ≤ max
    → PutsBeginning old (record_bytes entry i) result new → IsOk result → FitsOption entry
    → Adds (verdict max (length old.left) (Ok entry) i) entry i old (Ok len) new
adds_whole max entry i old new len result e small below puts ok fits =
    let within = puts.whole.0 ok in
    let room : record_len entry i ≤ length old.left = omega (arith, length-record_bytes entry i) in
    let a : nat_lt (2 ^ 32 - 1) (length i.name) ≡ false = grind (arith, nat_tests) in
    let b : nat_lt max (record_len entry i) ≡ false = grind (arith, nat_tests) in
    let c : nat_lt (length old.left) (record_len entry i) ≡ false = grind (arith, nat_tests) in
    let all : take (length old.left) (record_bytes entry i) ≡ record_bytes entry i =
    take_all (length old.left) (record_bytes entry i) within in
    rw (a, b, c) (ap Ok e, puts.puts ∙ ap (wrote old) all, fits)

-- a record that is too long for the room
pub adds_cut : {E : Type 0} (max : ℕ) (entry : Option Entry) (i : Item) (old new : Written)
    (len : ℕ) (result : Result (Unit {0}) E) (error : E)
    → len ≡ record_len entry i → length i.name ≤ 2 ^ 32 - 1 → len ≤ max
    → PutsBeginning old (record_bytes entry i) result new → result ≡ Err error
    → Adds (verdict max (length old.left) (Ok entry) i) entry i old (Err None) new
adds_cut max entry i old new len result error e small below puts is =
    let cut : length old.left < length (record_bytes entry i) =
    lt_of_not-le (λ h. let ok = rw is at (puts.whole.1 h) in cc) in
    let room : length old.left < record_len entry i = omega (arith, length-record_bytes entry i) in
    let a : nat_lt (2 ^ 32 - 1) (length i.name) ≡ false = grind (arith, nat_tests) in
    let b : nat_lt max (record_len entry i) ≡ false = grind (arith, nat_tests) in
    let c : nat_lt (length old.left) (record_len entry i) ≡ true = grind (arith, nat_tests) in
    rw (a, b, c) (refl, puts.puts)
