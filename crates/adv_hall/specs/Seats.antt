-- The seats of a hall: sessions of one database, each with draws of its own.
use Rattle.std.specs.Prelude.{ℕ, zero, suc, ◌+◌, ◌-◌, Bool, false, not, Option, slice_get, List, [], ◌∷◌, ◌++◌, length, codes}
use Rattle.std.specs.Fmt.{decimal}
use Rattle.adv_draws.specs.Supply.{untouched}
use Rattle.adv_draws.specs.Seeded.{seeded_draws}
use Rattle.adv_io.specs.History.{transcript, draws_taken}
use Rattle.adv_io.specs.Steps.{Step, Traced, trace_of}
use Rattle.adv_io.specs.Text.{newline}
use Rattle.scott_types.specs.declared.endings.Position.TheVariants.{Fresh}
use Rattle.scott_types.specs.Database.{Database}
use Rattle.scott_types.specs.State.{start}
use Rattle.scott_types.specs.Style.{plain}
use Rattle.scott_rules.specs.Play.{PlayEnd}
use Rattle.scott_turn.specs.Tried.{tallied, untried}
use Rattle.scott_turn.specs.Played.{goes}
use Rattle.adv_hall.specs.declared.halls.Seat.{Seat}

-- the seats of a hall, the first session first, and whether a failure of the console broke it
pub record HallView : Type 0 where
  pub seats : List Seat
  pub broken : Bool

-- the seat of session k, if it is there
abbrev pub seat_of : HallView → ℕ → Option Seat
seat_of hall k = slice_get hall.seats (k - 1)

-- no failure broke the session
abbrev pub is_whole : Seat → Bool
is_whole seat = not seat.session.broken

-- session k before its first line
abbrev pub seat_opened : Database → ℕ → Seat
seat_opened db k = record {
  session = record {
    game = plain db;
    position = Fresh;
    state = start db;
    broken = false;
    tried = untried db;
  };
  draws = untouched (seeded_draws k);
}

-- n sessions, from session k on
abbrev pub seats_opened : Database → ℕ → ℕ → List Seat
seats_opened db k zero = []
seats_opened db k (suc n) = seat_opened db k ∷ seats_opened db (k + 1) n

-- how a session goes on, given one line
abbrev pub hears : Seat → List ℕ → Traced Step PlayEnd
hears seat line = goes seat.session (line ∷ []) seat.draws.left

-- what it says then
abbrev pub said_by : Seat → List ℕ → List ℕ
said_by seat line = transcript (trace_of (hears seat line).events)

-- and the seat after that; a line that the session doesn't take is dropped
abbrev pub seat_after : Seat → List ℕ → Seat
seat_after seat line =
    let t = hears seat line in
    record {
      session = record seat.session {
        position = t.value.position;
        state = t.value.state;
        tried = tallied t.events seat.session.tried;
      };
      draws = record {
        left = t.value.draws;
        taken = seat.draws.taken + length (draws_taken (trace_of t.events));
      };
    }

-- the number of a session, as the hall says it
abbrev pub heading : ℕ → List ℕ
heading k = codes "[" ++ (decimal k ++ codes "]\n")

-- a text of session k, as the hall says it
abbrev pub text_by : ℕ → List ℕ → List ℕ
text_by k said = heading k ++ (said ++ newline ∷ [])
