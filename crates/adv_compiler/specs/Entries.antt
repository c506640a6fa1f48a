-- What the entries of the lists mean.
use Rattle.std.specs.Prelude.{ℕ, ◌∷◌, ◌++◌, [], ℤ, pos, int_le, unsigned_abs, if◌then◌else◌, List, Option, Some, None, Result, Ok, Err}
use Rattle.scott_types.specs.declared.parts.Word.{Word}
use Rattle.scott_types.specs.declared.parts.Room.{Room}
use Rattle.scott_types.specs.declared.parts.Item.{Item}
use Rattle.source_reader.specs.declared.tree.At.{At}
use Rattle.source_reader.specs.declared.tree.Ref.{Ref}
use Rattle.source_reader.specs.declared.tree.Spot.{Spot}
use Rattle.source_reader.specs.declared.tree.Spot.TheVariants as spot
use Rattle.source_reader.specs.declared.tree.WordPart.{WordPart}
use Rattle.source_reader.specs.declared.tree.RoomPart.{RoomPart}
use Rattle.source_reader.specs.declared.tree.MessagePart.{MessagePart}
use Rattle.source_reader.specs.declared.tree.ItemPart.{ItemPart}
use Rattle.adv_compiler.specs.Faults.{Fault, twice, ◌>>=◌}
use Rattle.adv_compiler.specs.Known.{Known}
use Rattle.adv_compiler.specs.Values.{value_of, in_range}

-- the first entry of a name isn't one before entry k
abbrev pub not_before : ℕ → ℕ → Option ℤ → Result (Unit {0}) Fault
not_before at k (Some first) = if int_le (pos k) first then Ok tt else Err (twice at)
not_before at k None = Ok tt

-- no entry before entry k has its name
abbrev pub named_once : (List ℕ → Option ℤ) → ℕ → Option (At (List ℕ)) → Result (Unit {0}) Fault
named_once find k (Some name) = not_before name.at k (find name.what)
named_once find k None = Ok tt

abbrev pub word : Known → ℕ → At WordPart → Result Word Fault
word known k e = Ok (record { verb = e.what.verb; noun = e.what.noun })

-- the exits from here on, after those before
abbrev pub exits : Known → List ℤ → List (At Ref) → Result (List ℤ) Fault
exits known before [] = Ok before
exits known before (r ∷ refs) =
    value_of known.rooms r.at r.what >>= λ z. exits known (before ++ z ∷ []) refs

abbrev pub room : Known → ℕ → At RoomPart → Result Room Fault
room known k e =
    named_once known.rooms k e.what.name >>= λ once. exits known [] e.what.exits
    >>= λ ways. Ok (record { exits = ways; text = e.what.text })

abbrev pub message : Known → ℕ → At MessagePart → Result (List ℕ) Fault
message known k e = named_once known.messages k e.what.name >>= λ once. Ok e.what.text

abbrev pub place : Known → ℕ → Spot → Result ℕ Fault
place known at spot.Carried = Ok 255
place known at spot.Nowhere = Ok 0
place known at (spot.Room room) =
    value_of known.rooms at room >>= λ z. in_range at (pos 0) (pos 255) z
    >>= λ in_it. Ok (unsigned_abs in_it)

abbrev pub item : Known → ℕ → At ItemPart → Result Item Fault
item known k e =
    named_once known.items k e.what.name
    >>= λ once. place known e.what.place.at e.what.place.what
    >>= λ p. Ok (record { text = e.what.text; place = p })
