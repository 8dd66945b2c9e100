-- What small callers cite of directories: what their requests ask, and what came back of them.
use Rattle.std.proofs.Common.{◌≡◌, ◌≤◌, ◌+◌, ◌/◌, ℕ, Bool, true, false, List, [], ◌∷◌, Option, Some, None, Result, Ok, length, take, refl, ap, ◌∙◌, arith, subst}
use Rattle.vfs_flags.specs.Numbers.{opcode_of}
use Rattle.vfs_wire.specs.Fields.{little, number}
use Rattle.vfs_files.specs.Calls.{Call, Readdir, Answer, Failed}
use Rattle.vfs_files.specs.Values.{Item}
use Rattle.vfs_files.specs.Runs.{Event, Called, OpenedDirectory, Taken}
use Rattle.vfs_grammar.specs.Directories.{takings, IsWhole, listing_reply}
use Rattle.vfs_grammar.specs.Listing.{Listing}
use Rattle.vfs_grammar.specs.Words.{IsDirectoryOf}
use Rattle.vfs_grammar.specs.Samples.{file_a, nobody, reply_of_one_file, refused_reply, request_for_data}
use Rattle.laws_turns.proofs.Lines.{one_file, refused_is}
use Rattle.vfs_grammar.specs.Ask.{ask}
use Rattle.vfs_grammar.specs.Forms.{Ask, Lists}
use Rattle.vfs_grammar.specs.Limits.{default_limits}
use Rattle.vfs_grammar.specs.Reply.{Echo, body_reply}
use Rattle.vfs_grammar.specs.Room.{IsPutOpen}
use Rattle.vfs_grammar.specs.declared.error.Error.{Error}

-- what the replies repeat
abbrev pub echo : Echo
echo = record { unique = 9; max_readahead = 0; ctx = nobody }

-- the directory that is read
abbrev pub listing : (plus : Bool) (size : ℕ) → Listing
listing plus size =
    record { plus = plus; ctx = nobody; parent = 1; handle = 0; size = size; offset = 0; space = size }

-- what a request asks, by its bytes and its room
asks_by : (options room n : ℕ) (request bytes : List ℕ) (a : Ask) → request ≡ bytes → room ≡ n
    → ask (default_limits 4096) options n bytes ≡ a → ask (default_limits 4096) options room request ≡ a
asks_by options room n request bytes a e f asks =
    ap (λ (q : List ℕ). ask (default_limits 4096) options room q) e ∙ ap (λ (m : ℕ). ask (default_limits 4096) options m bytes) f ∙ asks

readdir : (options : ℕ) → ask (default_limits 4096) options 80 (request_for_data 28 64) ≡ Lists echo (listing false 64)
unfolding number opcode_of
readdir options = refl

small_readdir : (options : ℕ) → ask (default_limits 4096) options 39 (request_for_data 28 23) ≡ Lists echo (listing false 23)
unfolding number opcode_of
small_readdir options = refl

small_readdirplus : (options : ℕ) → ask (default_limits 4096) options 167 (request_for_data 44 151) ≡ Lists echo (listing true 151)
unfolding number opcode_of
small_readdirplus options = refl

pub asks_readdir : (options room : ℕ) (request : List ℕ) → request ≡ request_for_data 28 64 → room ≡ 80
    → ask (default_limits 4096) options room request ≡ Lists echo (listing false 64)
asks_readdir options room request e f =
    asks_by options room 80 request (request_for_data 28 64) (Lists echo (listing false 64)) e f (readdir options)

pub asks_small_readdir : (options room : ℕ) (request : List ℕ) → request ≡ request_for_data 28 23 → room ≡ 39
    → ask (default_limits 4096) options room request ≡ Lists echo (listing false 23)
asks_small_readdir options room request e f =
    asks_by options room 39 request (request_for_data 28 23) (Lists echo (listing false 23)) e f (small_readdir options)

pub asks_small_readdirplus : (options room : ℕ) (request : List ℕ) → request ≡ request_for_data 44 151 → room ≡ 167
    → ask (default_limits 4096) options room request ≡ Lists echo (listing true 151)
asks_small_readdirplus options room request e f =
    asks_by options room 167 request (request_for_data 44 151) (Lists echo (listing true 151)) e f (small_readdirplus options)

module _ (room : List ℕ) (outcome : Result ℕ Error) (room_after : List ℕ) where
  -- the reply of a directory that is whole
  pub one_file_replied : (records : List ℕ)
      → IsWhole false nobody 1 64 (Taken (Some file_a) ∷ Taken None ∷ []) records (Ok (length records))
      → IsPutOpen (body_reply records 9) room outcome room_after
      → (outcome ≡ Ok 48) × (take 48 room_after ≡ reply_of_one_file)
  unfolding little
  one_file_replied records whole replied =
      let is = (one_file nobody 1 64 records (Ok (length records)) whole).0 in
      let put = subst (λ (r : List ℕ). IsPutOpen (body_reply r 9) room outcome room_after) is replied in
      (put.says, put.begins)

  -- the reply of one that was refused
  pub refusal_replied : (records : List ℕ) (answer : Result ℕ (Option ℕ)) (events : List Event)
      → events ≡ Called (Readdir nobody 1 0 64 0) (Failed (Some 13)) ∷ []
      → IsDirectoryOf false nobody 1 0 64 0 64 events records answer
      → IsPutOpen (listing_reply answer records 9) room outcome room_after
      → (outcome ≡ Ok 16) × (take 16 room_after ≡ refused_reply)
  unfolding little
  refusal_replied records answer events are read replied =
      let is = (refused_is false nobody 1 0 64 0 64 records answer
      (subst (λ (es : List Event). IsDirectoryOf false nobody 1 0 64 0 64 es records answer) are read)).1 in
      let put = subst (λ (a : Result ℕ (Option ℕ)). IsPutOpen (listing_reply a records 9) room outcome room_after) is replied in
      (put.says, put.begins)

-- two items are more than one
pub not_two : (events : List Event) (first second : Option Item) (more : List Event) (call : Call)
    → events ≡ OpenedDirectory call ∷ Taken first ∷ Taken second ∷ more → length (takings events) ≤ 23 / 24 + 1
    → ⊥
not_two events first second more call e few =
    let two = subst (λ (es : List Event). length (takings es) ≤ 23 / 24 + 1) e few in omega arith

pub not_two_with_entries : (events : List Event) (first second : Option Item) (more : List Event) (call lookup : Call) (answer : Answer)
    → events ≡ OpenedDirectory call ∷ Taken first ∷ Called lookup answer ∷ Taken second ∷ more → length (takings events) ≤ 151 / 152 + 1
    → ⊥
not_two_with_entries events first second more call lookup answer e few =
    let two = subst (λ (es : List Event). length (takings es) ≤ 151 / 152 + 1) e few in omega arith
