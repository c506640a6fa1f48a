-- Where the exits of a room lead.
use Rattle.std.proofs.Common.{◌≡◌, ℕ, ◌<◌, ◌==◌, ◌&&◌, true, [], ℤ, pos, negsuc, length, nat_lt, refl}
use Rattle.std.specs.List.{list_all}
use Rattle.std.proofs.Math.IntN.{nat_abs}
use lib.Signed.{lt_z}
use Rattle.std.proofs.lemmas.Bool.{and_parts, eqb-true, lt-ltb}
use Rattle.std.proofs.lemmas.List.Sums.{AllPass-from_list_all}
use Rattle.scott_types.specs.Database.{Database, room_at}
use Rattle.scott_types.specs.Limits.{KeepsLimits, is_room, is_number, is_file_text}
use Rattle.scott_types.specs.Room.{room_beyond}

-- an exit's number that is a room from 1 on is that room
pub beyond-room : (rooms : ℕ) (number : ℤ) → lt_z (pos 0) number ≡ true → nat_abs number < rooms → nat_abs number ≡ room_beyond rooms number
beyond-room rooms (pos n) some there =
    let counts : nat_lt 0 n ≡ true = some in
    rw (counts, lt-ltb n rooms there) refl
beyond-room rooms (negsuc n) some there = absurd cc

-- a room of a database has six exits
pub six_exits : (db : Database) (room : ℕ) → KeepsLimits db → room < length db.rooms → length (room_at db room).exits ≡ 6
six_exits db room limits there =
    let here = AllPass-from_list_all is_room db.rooms limits.entries.rooms room (record { exits = []; text = [] }) there in
    let r = room_at db room in
    eqb-true (length r.exits) 6 (and_parts (length r.exits == 6) (list_all is_number r.exits && is_file_text r.text) here).0
