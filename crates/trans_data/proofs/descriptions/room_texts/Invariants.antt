use Rattle.std.proofs.Common.{◌≡◌, ◌++◌, drop, map}
use Rattle.scott_rules.specs.Looking.{described}
use Rattle.trans_data.proofs.descriptions.room_texts.Given as goal

-- the descriptions of the rooms before, and of those to come, are all
abbrev pub invariant-loop-room : goal.invariant-loop-room
invariant-loop-room l =
    map (λ room. described l.style room.text) l.rooms
    ≡ map (λ text. text.items) l.texts.items
    ++ map (λ room. described l.style room.text) (drop l.room-index l.rooms)
