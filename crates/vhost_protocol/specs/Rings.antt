-- The indices of rings: virtio 1.2, sections 2.7.6, 2.7.8 and 2.7.10. They have 16 bits, and count on without end.
use Rattle.std.specs.Prelude.{ℕ, Bool, ◌+◌, ◌-◌, ◌%◌, ◌^◌, nat_lt, Option, Some, None, if◌then◌else◌}

-- what an index says of a count
abbrev pub index_of : (count : ℕ) → ℕ
index_of count = count % 2 ^ 16

-- by how much an index is ahead of another one
abbrev pub ahead : (index next : ℕ) → ℕ
ahead index next = (index + 2 ^ 16 - next) % 2 ^ 16

-- how many chains wait, by the guest's index and the one to be taken next: no more than the queue has
abbrev pub waiting_of : (index next size : ℕ) → Option ℕ
waiting_of index next size = if nat_lt size (ahead index next) then None else Some (ahead index next)

-- Whether one wants to be told of what came, by the index at which it does, that of the next one now, and that of the
-- next one before.
abbrev pub needs_event_at : (event new old : ℕ) → Bool
needs_event_at event new old = nat_lt (ahead (ahead new event) 1) (ahead new old)
