-- Sessions of a hall do as they would alone.
use Rattle.std.specs.Prelude.{ℕ, zero, suc, ◌≡◌, ◌+◌, ◌-◌, List, [], ◌∷◌, ◌++◌, false, length, Option, slice_get, slice_set, Some, None}
use Rattle.adv_draws.specs.Seeded.{seeded_draws}
use Rattle.adv_io.specs.History.{draws_taken}
use Rattle.adv_io.specs.Steps.{trace_of}
use Rattle.scott_types.specs.Database.{Database}
use Rattle.scott_types.specs.Style.{plain}
use Rattle.scott_rules.specs.Play.{play}
use Rattle.scott_turn.specs.Tried.{tallied, untried}
use Rattle.adv_hall.specs.declared.halls.Seat.{Seat}
use Rattle.adv_hall.specs.declared.addressing.Address.{Address}
use Rattle.adv_hall.specs.Address.{address_of}
use Rattle.adv_hall.specs.Seats.{seat_opened, seats_opened, said_by, seat_after}
use Rattle.adv_hall.specs.Alone.{lines_for, says_next}

-- where session k stands alone after its lines
abbrev pub seat_alone : Database → ℕ → List (List ℕ) → Seat
seat_alone db k [] = seat_opened db k
seat_alone db k (line ∷ lines) =
    let t = play (plain db) (line ∷ lines) (seeded_draws k) in
    record {
      session = record {
        game = plain db;
        position = t.value.position;
        state = t.value.state;
        broken = false;
        tried = tallied t.events (untried db);
      };
      draws = record {
        left = t.value.draws;
        taken = length (draws_taken (trace_of t.events));
      };
    }

-- a session that stands as it would alone says on a line what it would alone, and stands so again
pub record HearsAlone (db : Database) (k : ℕ) (lines : List (List ℕ)) (line : List ℕ) : Type 0
  where
    pub says : said_by (seat_alone db k lines) line ≡ says_next db k lines line
    pub stands : seat_after (seat_alone db k lines) line ≡ seat_alone db k (lines ++ line ∷ [])

abbrev pub EachHearsAlone : Type 0
EachHearsAlone =
    (db : Database) (k : ℕ) (lines : List (List ℕ)) (line : List ℕ) → HearsAlone db k lines line

-- where n sessions of so many stand alone after the lines of the hall, from session k on
abbrev pub seats_alone : Database → ℕ → List (List ℕ) → ℕ → ℕ → List Seat
seats_alone db count lines k zero = []
seats_alone db count lines k (suc n) =
    seat_alone db k (lines_for count k lines) ∷ seats_alone db count lines (k + 1) n

-- the seats of a hall of so many sessions, each where it would stand alone
abbrev pub all_alone : Database → ℕ → List (List ℕ) → List Seat
all_alone db count lines = seats_alone db count lines 1 count

-- a line changes the seat of its session alone, and leaves it where it would stand alone
abbrev pub GoesOnAlone : Database → ℕ → List (List ℕ) → List ℕ → Option Address → Type 0
GoesOnAlone db count lines line None =
    all_alone db count (lines ++ line ∷ []) ≡ all_alone db count lines
GoesOnAlone db count lines line (Some address) =
    let k = address.session in
    let seat = seat_alone db k (lines_for count k lines) in
    (slice_get (all_alone db count lines) (k - 1) ≡ Some seat)
    × (slice_set (all_alone db count lines) (k - 1) (seat_after seat address.line)
    ≡ all_alone db count (lines ++ line ∷ []))

abbrev pub HallGoesOnAlone : Type 0
HallGoesOnAlone =
    (db : Database) (count : ℕ) (lines : List (List ℕ)) (line : List ℕ)
    → GoesOnAlone db count lines line (address_of count line)

-- before the first line no session has done anything
abbrev pub HallBeginsAlone : Type 0
HallBeginsAlone = (db : Database) (count : ℕ) → seats_opened db 1 count ≡ all_alone db count []
