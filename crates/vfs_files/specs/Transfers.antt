-- Transfers between memory and a positioned file: calls of the file in a row. One definition serves
-- both directions.
use Rattle.std.specs.Prelude.{◌≡◌, ◌≤◌, ◌<◌, ◌+◌, ◌-◌, ◌^◌, ℕ, List, [], ◌∷◌, ◌++◌, length, take, drop, min, sum_by, Option, None, Result, Ok, Err}
use Rattle.std.specs.List.{flat_map}
use Rattle.vfs_segments.specs.declared.file.WritevFlags.{WritevFlags}

-- a call of a file that is read from, by the bytes that it moved: none where it failed. How many
-- were moved before makes no difference
abbrev pub reads_of :
    {F : Type 0} → (F → ℕ → ℕ → Result ℕ (Option ℕ) → List ℕ → F → Type 0)
    → ℕ → F → ℕ → ℕ → Result (List ℕ) (Option ℕ) → F → Type 0
reads_of gives before old at len (Ok part) new = gives old at len (Ok (length part)) part new
reads_of gives before old at len (Err fault) new = gives old at len (Err fault) [] new

-- a call of a file that is written to, where these bytes are to be moved: it is lent the next of
-- them, after those that were moved before, and what it moves is their beginning
abbrev pub writes_of :
    {F : Type 0} → (F → List ℕ → ℕ → Option WritevFlags → Result ℕ (Option ℕ) → F → Type 0)
    → List ℕ → Option WritevFlags
    → ℕ → F → ℕ → ℕ → Result (List ℕ) (Option ℕ) → F → Type 0
writes_of gives bytes flags before old at len (Ok part) new =
    gives old (take len (drop before bytes)) at flags (Ok (length part)) new
    × (part ≡ take (length part) (drop before bytes))
writes_of gives bytes flags before old at len (Err fault) new =
    gives old (take len (drop before bytes)) at flags (Err fault) new

-- why a transfer ends
pub data Ending : Type 0 where
  -- the count is moved, or nothing is left
  Finished : Ending
  -- the last call moved 0
  Stuck : Ending
  -- the last call failed
  Broken : (fault : Option ℕ) → Ending
  -- the last call moved these bytes, and the position after them is past 2 ^ 64 - 1
  Past : (part : List ℕ) → Ending

-- the bytes that the last call moved, where the ending has one that moved any
abbrev pub last_bytes : Ending → List ℕ
last_bytes Finished = []
last_bytes Stuck = []
last_bytes (Broken fault) = []
last_bytes (Past part) = part

-- what a transfer answers that ends so, where the calls before moved that many bytes
abbrev pub outcome : ℕ → Ending → Result ℕ (Option ℕ)
outcome moved Finished = Ok moved
outcome moved Stuck = Ok moved
outcome moved (Broken fault) = Err fault
outcome moved (Past part) = Err None

-- the bytes that calls moved, where each is beside the file after it
abbrev pub bytes_moved : {F : Type 0} → List (List ℕ × F) → List ℕ
bytes_moved calls = flat_map (λ c. c.0) calls

-- how many they are
abbrev pub count_moved : {F : Type 0} → List (List ℕ × F) → ℕ
count_moved calls = sum_by (λ c. length c.0) calls

-- A transfer of `count` bytes, where `left` are to be had or have room, and the first goes to or
-- comes from position `off` of a file. `calls` says what one call may do: how many bytes were moved
-- before it, the file before it, its position, the length of its view, the bytes that it moved or
-- its fault, and the file after it.
module _ {F : Type 0}
    (calls : ℕ → F → ℕ → ℕ → Result (List ℕ) (Option ℕ) → F → Type 0) (count left off : ℕ) where
  -- the length of the next view: all that is to be moved, less what was moved
  abbrev pub view_len : ℕ → ℕ
  view_len moved = min count left - moved

  -- the next call of the file, where something is still to be moved: its view has just that, at the
  -- position after what was moved
  abbrev pub CallsFile : ℕ → F → Result (List ℕ) (Option ℕ) → F → Type 0
  CallsFile moved old answer new =
      (0 < view_len moved) × calls moved old (off + moved) (view_len moved) answer new

  -- a call that moved these bytes, at least one and no more than its view has
  pub record MovesSome (moved : ℕ) (old : F) (part : List ℕ) (new : F) : Type 0 where
    pub call : CallsFile moved old (Ok part) new
    pub some : 0 < length part
    pub within : length part ≤ view_len moved

  -- calls in a row that each moved bytes, up to a position of at most 2 ^ 64 - 1
  abbrev pub Goes : ℕ → F → List (List ℕ × F) → F → Type 0
  Goes moved old [] new = new ≡ old
  Goes moved old (c ∷ cs) new =
      MovesSome moved old c.0 c.1
      × (off + moved + length c.0 < 2 ^ 64)
      × Goes (moved + length c.0) c.1 cs new

  -- how they end: where nothing is to be moved any more by no call, else by one
  abbrev pub EndsBy : ℕ → F → Ending → F → Type 0
  EndsBy moved old Finished new = (view_len moved ≡ 0) × (new ≡ old)
  EndsBy moved old Stuck new = CallsFile moved old (Ok []) new
  EndsBy moved old (Broken fault) new = CallsFile moved old (Err fault) new
  EndsBy moved old (Past part) new =
      MovesSome moved old part new × (2 ^ 64 ≤ off + moved + length part)

  -- a transfer: calls that moved bytes and an ending; the bytes that were moved, one after the
  -- other; and what is answered
  pub record Transfers
      (old : F) (bytes : List ℕ) (result : Result ℕ (Option ℕ)) (new : F) : Type 0 where
    pub row : List (List ℕ × F)
    pub middle : F
    pub ending : Ending
    pub goes : Goes 0 old row middle
    pub ends : EndsBy (count_moved row) middle ending new
    pub bytes_are : bytes ≡ bytes_moved row ++ last_bytes ending
    pub answered : result ≡ outcome (count_moved row) ending
