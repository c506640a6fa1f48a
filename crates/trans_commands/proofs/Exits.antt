-- The exit of a room stands in its table.
use Rattle.std.proofs.Common.{◌≡◌, ◌∙◌, arith, ℕ, zero, suc, ◌+◌, ◌*◌, ◌<◌, pos, ◌==◌, true, ◌&&◌, List, [], ◌∷◌, length, flat_map, slice_get, Some, refl, ap}
use Rattle.std.specs.Prelude.{slice_index}
use Rattle.std.specs.List.{list_all}
use Rattle.std.proofs.lemmas.Bool.{and_parts}
use Rattle.std.proofs.lemmas.List.{length-append, length-map}
use Rattle.scott_types.specs.declared.parts.Room.{Room}
use Rattle.scott_types.specs.Database.{Database, room_at}
use Rattle.scott_types.specs.Room.{room_beyond, exit_of}
use Rattle.scott_types.specs.Limits.{is_number, is_file_text, is_room, KeepsLimits}
use Rattle.trans_specs.specs.Tables.{exits_of_room, exits}
use Rattle.trans_specs.specs.Views.{naturals}
use Rattle.trans_specs.specs.Laws.{ExitsStand}

entry_in : (xs : List ℕ) (n : ℕ) → n < length xs
    → slice_get (naturals xs) n ≡ Some (pos (slice_index xs n))
entry_in [] n less = absurd (omega (arith, less))
entry_in (x ∷ xs) zero less = refl
entry_in (x ∷ xs) (suc n) less = entry_in xs n (omega (arith, less))

-- six for each room
many_exits : (db : Database) (rooms : List Room) → list_all is_room rooms ≡ true
    → length (flat_map (exits_of_room db) rooms) ≡ 6 * length rooms
many_exits db [] all = omega arith
many_exits db (room ∷ rooms) all = omega (
  arith,
  length-append (exits_of_room db room) (flat_map (exits_of_room db) rooms),
  length-map room.exits (room_beyond (length db.rooms)),
  six,
  many_exits db rooms (and_parts (is_room room) (list_all is_room rooms) all).1,
) where
  six : length room.exits ≡ 6
  six = grind (
    arith,
    (and_parts (length room.exits == 6) (list_all is_number room.exits && is_file_text room.text)
        (and_parts (is_room room) (list_all is_room rooms) all).0).0,
  )

-- six times the room, and the direction
pub exit_at : ExitsStand → (db : Database) (room direction : ℕ) → KeepsLimits db
    → room < length db.rooms → direction < 6
    → slice_get (naturals (exits db)) (6 * room + direction)
    ≡ Some (pos (exit_of (length db.rooms) (room_at db room).exits direction))
exit_at law db room direction limits there few =
    entry_in (exits db) (6 * room + direction) within
    ∙ ap (λ n. Some (pos n)) (law db room direction limits there few) where
      within : 6 * room + direction < length (exits db)
      within = omega (
        arith,
        there,
        few,
        length-append (flat_map (exits_of_room db) db.rooms) (0 ∷ []),
        many_exits db db.rooms limits.entries.rooms,
      )
