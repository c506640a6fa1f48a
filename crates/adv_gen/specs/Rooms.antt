-- The rooms and messages of a game that is made.
use Rattle.std.specs.Prelude.{ℕ, ◌+◌, ◌*◌, ◌%◌, ◌==◌, List, ◌++◌, ℤ, pos, codes, decimal, if◌then◌else◌}
use Rattle.scott_types.specs.declared.parts.Room.{Room}
use Rattle.rand_pcg.specs.Lcg.{Lcg}
use Rattle.adv_gen.specs.Picks.{pick, each, picked}

-- every seventh text is said alone
abbrev pub room_opening : ℕ → List ℕ
room_opening k = if k % 7 == 6 then codes "*I'm at place " else codes "room "

unfoldable pub room_text : ℕ → List ℕ
room_text k = room_opening k ++ decimal k

-- each exit leads to any room, or nowhere
abbrev pub exits : ℕ → Lcg → List ℤ
exits size generator = each 6 (λ direction. pos (pick generator direction (size + 1)))

abbrev pub room : ℕ → ℕ → Lcg → Room
room size k generator = record { exits = exits size generator; text = room_text k }

abbrev pub room_picks : ℕ → ℕ
room_picks k = 6

abbrev pub rooms : ℕ → Lcg → List Room
rooms size generator = picked room_picks (room size) (size + 1) generator

unfoldable pub message : ℕ → List ℕ
message k = codes "This is message " ++ decimal k ++ codes "."

abbrev pub messages : ℕ → List (List ℕ)
messages size = each (2 * size + 11) message
