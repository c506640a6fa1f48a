-- What is said in a hall, by plays of one session alone: nothing here knows of two sessions.
use Rattle.std.specs.Prelude.{ℕ, ◌==◌, List, [], ◌∷◌, ◌++◌, length, drop, codes, Option, Some, None, if◌then◌else◌}
use Rattle.std.specs.List.{filter_map}
use Rattle.adv_draws.specs.Seeded.{seeded_draws}
use Rattle.adv_io.specs.History.{says, transcript}
use Rattle.adv_io.specs.declared.events.Event.{Event}
use Rattle.adv_io.specs.declared.events.Event.TheVariants.{Take}
use Rattle.adv_io.specs.Steps.{trace_of}
use Rattle.scott_types.specs.Database.{Database}
use Rattle.scott_types.specs.Style.{plain}
use Rattle.scott_rules.specs.Play.{play}
use Rattle.adv_hall.specs.declared.addressing.Address.{Address}
use Rattle.adv_hall.specs.Address.{address_of}
use Rattle.adv_hall.specs.Seats.{text_by}

-- ---- the lines of one session

abbrev pub line_if : ℕ → Option Address → Option (List ℕ)
line_if k None = None
line_if k (Some address) = if address.session == k then Some address.line else None

-- what session k of so many is given, of the lines of the hall
abbrev pub lines_for : ℕ → ℕ → List (List ℕ) → List (List ℕ)
lines_for count k lines = filter_map (λ line. line_if k (address_of count line)) lines

-- ---- what it says

-- all that session k says alone on its lines; it is silent before the first one
abbrev pub said_alone : Database → ℕ → List (List ℕ) → List ℕ
said_alone db k [] = []
said_alone db k (line ∷ lines) =
    transcript (trace_of (play (plain db) (line ∷ lines) (seeded_draws k)).events)

-- what it says on one more line: all without what it had said before
abbrev pub says_next : Database → ℕ → List (List ℕ) → List ℕ → List ℕ
says_next db k before line =
    drop (length (said_alone db k before)) (said_alone db k (before ++ line ∷ []))

-- ---- the hall

abbrev pub no_session : List ℕ
no_session = codes "No such session.\n"

abbrev pub text_for : Database → ℕ → List (List ℕ) → Option Address → List ℕ
text_for db count before None = no_session
text_for db count before (Some address) =
    text_by address.session
    (says_next db address.session (lines_for count address.session before) address.line)

-- what the hall says on a line, after the lines before it
abbrev pub hall_text : Database → ℕ → List (List ℕ) → List ℕ → List ℕ
hall_text db count before line = text_for db count before (address_of count line)

-- each line that is taken, followed by its text
abbrev pub hall_from : Database → ℕ → List (List ℕ) → List (List ℕ) → List Event
hall_from db count before [] = []
hall_from db count before (line ∷ lines) =
    Take line ∷ (says (hall_text db count before line)
    ++ hall_from db count (before ++ line ∷ []) lines)

abbrev pub hall_events : Database → ℕ → List (List ℕ) → List Event
hall_events db count lines = hall_from db count [] lines
