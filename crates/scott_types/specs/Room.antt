-- Where the exits of a room lead.
use Rattle.std.specs.Prelude.{ℕ, ◌&&◌, nat_lt, List, ℤ, pos, negsuc, slice_index_or, if◌then◌else◌}

-- the room that an exit's number leads to, or 0: a number that is no room from 1 on is no exit
abbrev pub room_beyond : ℕ → ℤ → ℕ
room_beyond rooms (pos n) = if nat_lt 0 n && nat_lt n rooms then n else 0
room_beyond rooms (negsuc n) = 0

-- the same for the exit in a direction, 0 to 5
abbrev pub exit_of : ℕ → List ℤ → ℕ → ℕ
exit_of rooms exits direction = room_beyond rooms (slice_index_or exits direction (pos 0))
