-- The bytes of records with entries hold their nodes.
use Rattle.std.proofs.Common.{◌≡◌, ◌≤◌, ◌<◌, ℕ, zero, suc, ◌+◌, ◌-◌, ◌^◌, nat_le, nat_lt, List, [], ◌∷◌, ◌++◌, Option, Some, None, Result, Ok, Err, Bool, true, false, cond, length, drop, map, refl, ap, sym, ◌∙◌, arith, length-append, append_assoc, replicate}
use Rattle.std.proofs.lemmas.Bool.Decides.{nat_tests}
use Rattle.std.proofs.lemmas.List.{drop_at, drop-drop}
use Rattle.std.proofs.lemmas.List.Elements.{All-head, All-tail}
use Rattle.std.specs.List.{All, flat_map}
use Rattle.vfs_wire.specs.Records.{entry_out}
use Rattle.vfs_wire.specs.Fields.{little, number, bytes_of}
use Rattle.vfs_wire.specs.FieldLaws.{length-little, number-little}
use Rattle.vfs_files.specs.Answers.{FitsEntry}
use Rattle.vfs_files.specs.Values.{entry_out_of, Item}
use Rattle.vfs_files.specs.Runs.{Event}
use Rattle.vfs_files.specs.declared.entry.Context.{Context}
use Rattle.vfs_files.specs.declared.entry.Entry.{Entry}
use Rattle.vfs_grammar.specs.Listing.{Got, Line, Gets, FitsGot, is_dot, line_len, line_bytes, bytes_got, AreWritten, IsListing, verdict, Fails, Fits, Full, dirent_len, record_len, dirent_bytes, entry_bytes}
use Rattle.vfs_grammar.specs.Words.{record_bytes, u32_at, u64_at}
use Rattle.vfs_grammar.proofs.Listings.{length-lines}
use Rattle.vfs_grammar.specs.Nodes.{nodes_of, nodes_in}
use Rattle.vfs_grammar.proofs.Dirents.{length-record_bytes, length-entry_bytes}
use Rattle.laws_turns.specs.Listings.{node_of_line, rows_bytes, IsRow}
use Rattle.laws_turns.proofs.Takings.{lines_least}

-- ---- one record

-- its node
node_at : (i : Item) (e : Entry) (rest : List ℕ) → FitsEntry e
    → u64_at 0 (record_bytes (Some e) i ++ rest) ≡ e.inode
unfolding little
node_at i e rest h =
    ap (number 8) (append_assoc (bytes_of entry_out (entry_out_of e)) (dirent_bytes i) rest)
    ∙ number-little 8 e.inode _ h.0

-- the length of its name, in the `Dirent`
name_after : (i : Item) (rest : List ℕ) → length i.name < 2 ^ 32
    → u32_at 16 (dirent_bytes i ++ rest) ≡ length i.name
unfolding dirent_bytes
name_after i rest h =
    let a = little 8 i.ino in
    let b = little 8 i.offset in
    let n = little 4 (length i.name) in
    let t = little 4 i.type_ ++ [] in
    let tail = i.name ++ replicate (dirent_len (length i.name) - (24 + length i.name)) 0 in
    let parts : dirent_bytes i ++ rest ≡ a ++ (b ++ (n ++ (t ++ (tail ++ rest)))) =
    append_assoc (a ++ (b ++ (n ++ t))) tail rest
    ∙ (append_assoc a (b ++ (n ++ t)) (tail ++ rest)
    ∙ ap (λ (l : List ℕ). a ++ l) (append_assoc b (n ++ t) (tail ++ rest)
    ∙ ap (λ (l : List ℕ). b ++ l) (append_assoc n t (tail ++ rest)))) in
    let past : drop 16 (a ++ (b ++ (n ++ (t ++ (tail ++ rest))))) ≡ n ++ (t ++ (tail ++ rest)) =
    sym (drop-drop 8 8 (a ++ (b ++ (n ++ (t ++ (tail ++ rest))))))
    ∙ (ap (drop 8) (drop_at a (b ++ (n ++ (t ++ (tail ++ rest)))) 8 (length-little 8 i.ino))
    ∙ drop_at b (n ++ (t ++ (tail ++ rest))) 8 (length-little 8 i.offset)) in
    ap (number 4) (ap (drop 16) parts ∙ past)
    ∙ number-little 4 (length i.name) (t ++ (tail ++ rest)) (omega (arith, h))

-- the same, in the record
name_at : (i : Item) (e : Entry) (rest : List ℕ) → length i.name < 2 ^ 32
    → u32_at 144 (record_bytes (Some e) i ++ rest) ≡ length i.name
name_at i e rest h =
    let front = entry_bytes (Some e) in
    let parts : drop 144 (record_bytes (Some e) i ++ rest) ≡ drop 16 (dirent_bytes i ++ rest) =
    ap (drop 144) (append_assoc front (dirent_bytes i) rest)
    ∙ (sym (drop-drop 16 128 (front ++ (dirent_bytes i ++ rest)))
    ∙ ap (drop 16) (drop_at front (dirent_bytes i ++ rest) 128
    (length-entry_bytes (Some e)))) in
    ap (number 4) parts ∙ name_after i rest h

-- a record, and what follows it
nodes_of-record : (most : ℕ) (i : Item) (e : Entry) (rest : List ℕ) → FitsEntry e
    → length i.name < 2 ^ 32
    → nodes_of (suc most) (record_bytes (Some e) i ++ rest) ≡ e.inode ∷ nodes_of most rest
nodes_of-record most i e rest w n =
    let long : length (record_bytes (Some e) i) ≡ 128 + dirent_len (length i.name) =
    length-record_bytes (Some e) i in
    let name = name_at i e rest n in
    let fits : nat_le (128 + dirent_len (length i.name))
    (length (record_bytes (Some e) i ++ rest)) ≡ true =
    (let l = length-append (record_bytes (Some e) i) rest in grind (arith, nat_tests, l)) in
    let next : drop (128 + dirent_len (length i.name)) (record_bytes (Some e) i ++ rest) ≡ rest =
    drop_at (record_bytes (Some e) i) rest (128 + dirent_len (length i.name)) long in
    rw (name, fits, node_at i e rest w, next) refl

nodes_of-nil : (most : ℕ) → nodes_of most [] ≡ []
unfolding number
nodes_of-nil zero = refl
nodes_of-nil (suc most) = refl

-- ---- records in a row

nodes_of-rows : (most : ℕ) (rows : List (Entry × Item)) → All IsRow rows → length rows ≤ most
    → nodes_of most (rows_bytes rows) ≡ map (λ r. r.0.inode) rows
nodes_of-rows most [] all h = nodes_of-nil most
nodes_of-rows zero (r ∷ rs) all h = absurd (omega arith)
nodes_of-rows (suc most) (r ∷ rs) all h =
    let here : IsRow r = All-head IsRow r rs all in
    let rest = nodes_of-rows most rs (All-tail IsRow r rs all) (omega arith) in
    nodes_of-record most r.1 r.0 (rows_bytes rs) here.0 here.1
    ∙ ap (λ (l : List ℕ). r.0.inode ∷ l) rest

length-rows : (rows : List (Entry × Item)) → length rows ≤ length (rows_bytes rows)
length-rows [] = omega arith
length-rows (r ∷ rs) =
    let rest = length-rows rs in
    let here = length-record_bytes (Some r.0) r.1 in
    let sum = length-append (record_bytes (Some r.0) r.1) (rows_bytes rs) in
    omega (arith, rest, here, sum)

-- the bytes of records in a row hold their nodes, in order
pub nodes_in-rows : (rows : List (Entry × Item)) → All IsRow rows
    → nodes_in (rows_bytes rows) ≡ map (λ r. r.0.inode) rows
nodes_in-rows rows all = nodes_of-rows (length (rows_bytes rows)) rows all (length-rows rows)

-- ---- the records of a listing

short_by : (a b c : Bool) (n : ℕ) (fault : Option ℕ) → (a ≡ false → n < 2 ^ 32)
    → cond a (Fails fault) (cond b Full (cond c (Fails None) Fits)) ≡ Fits → n < 2 ^ 32
short_by true b c n fault h e = cc
short_by false b c n fault h e = h refl

-- what fits has a short name
name_short : (max room : ℕ) (entry : Option Entry) (i : Item) → verdict max room (Ok entry) i ≡ Fits
    → length i.name < 2 ^ 32
name_short max room entry i h =
    short_by (nat_lt (2 ^ 32 - 1) (length i.name)) (nat_lt max (record_len entry i))
    (nat_lt room (record_len entry i)) (length i.name) (Some 75) (λ f. grind (arith, nat_tests))
    h

no_entry : (dot : Bool) (i : Item) → Gets true dot i (Ok None) → ⊥
no_entry true i h = h
no_entry false i h = h

nodes_of-line : (most max room : ℕ) (i : Item) (got : Got) (dot : Bool) (bytes : List ℕ)
    (nodes : List ℕ) → verdict max room got i ≡ Fits → Gets true dot i got → FitsGot got
    → nodes_of most bytes ≡ nodes → nodes_of (suc most) (bytes_got got i ++ bytes) ≡ node_of_line
    (record { item = i; got = got }) ∷ nodes
nodes_of-line most max room i (Err fault) dot bytes nodes fits got wide rest = cc
nodes_of-line most max room i (Ok None) dot bytes nodes fits got wide rest =
    absurd (no_entry dot i got)
nodes_of-line most max room i (Ok (Some e)) dot bytes nodes fits got wide rest =
    nodes_of-record most i e bytes wide (name_short max room (Some e) i fits)
    ∙ ap (λ (l : List ℕ). e.inode ∷ l) rest

nodes_of-lines : (size room written most : ℕ) (ls : List Line)
    → AreWritten true size room written ls → length ls ≤ most
    → nodes_of most (flat_map line_bytes ls) ≡ map node_of_line ls
nodes_of-lines size room written most [] w h = nodes_of-nil most
nodes_of-lines size room written zero (l ∷ ls) w h = absurd (omega arith)
nodes_of-lines size room written (suc most) (l ∷ ls) w h =
    let rest = nodes_of-lines size room (written + line_len l) most ls w.3 (omega arith) in
    nodes_of-line most (size - written) (room - written) l.item l.got (is_dot l.item.name)
    (flat_map line_bytes ls) (map node_of_line ls) w.0 w.1 w.2 rest

-- the records of a READDIRPLUS hold the nodes of its lines, in order
pub nodes_in-listing :
    {ctx : Context} {parent size room : ℕ} {events : List Event} {body : List ℕ}
    {result : Result ℕ (Option ℕ)}
    → (h : IsListing true ctx parent size room events body result)
    → nodes_in body ≡ map node_of_line h.lines
nodes_in-listing {ctx} {parent} {size} {room} {events} {body} {result} h =
    let many = lines_least true size room 0 h.lines h.written in
    let long = length-lines true size room 0 h.lines h.written in
    ap nodes_in h.records_are ∙ nodes_of-lines size room 0 (length (flat_map line_bytes h.lines))
    h.lines h.written (omega (arith, many, long))
