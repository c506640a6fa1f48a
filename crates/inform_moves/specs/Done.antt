-- What a move does.
use Rattle.std.specs.Prelude.{ℕ, zero, suc, ℤ, List, [], ◌∷◌, ◌++◌}
use Rattle.inform_meaning.specs.Worlds.{Program, Config, with_said, with_note, with_line}
use Rattle.inform_meaning.specs.Words.{draw_within}
use Rattle.adv_io.specs.Steps.{Took, Drew}
use Rattle.inform_meaning.specs.Frames.{LineDue, DrawDue, Frame, Begins, NeedsLine, NeedsDraw, Spent, Outcome, Value, Normal, Waits, Meaning}
use Rattle.inform_meaning.specs.Parts.{tick, take_draw, take_line}
use Rattle.inform_meaning.specs.Runs.{CALL_LIMIT, resume_at}
use Rattle.inform_moves.specs.Moves.{Effect, Keeps, Becomes, Says, Enters, Move, Goes, Ticks, Reads, Draws}

abbrev pub effected : Effect → Config → Config
effected Keeps c = c
effected (Becomes w) c = record c { world = w }
effected (Says bytes) c = with_said bytes c
effected (Enters w note) c = record c { past = with_note note c.past; world = w }

-- the frames of a move go on, inside so many calls that may be open
abbrev pub going : Program → ℕ → List Frame → Outcome → Effect → Meaning
going p n frames e effect = λ c. resume_at p n frames e (effected effect c)

-- what a move of this frame means
abbrev pub move_done : Program → ℕ → Frame → Move → Meaning
move_done p n x (Goes frames e effect) = going p n frames e effect
move_done p n x (Ticks frames e effect) = tick x (going p n frames e effect)
move_done p n x (Reads name) = take_line name
move_done p n x (Draws m) = take_draw m

-- ---- a move of a whole run, inside the frames that stand around it

abbrev pub goes_on : Program → List Frame → Outcome → Meaning
goes_on p frames e = resume_at p CALL_LIMIT frames e

abbrev pub after_step : Program → Frame → List Frame → List Frame → Outcome → Effect → ℕ → Meaning
after_step p x rest frames e effect zero c = (Waits Spent (x ∷ rest), c)
after_step p x rest frames e effect (suc k) c =
    goes_on p (frames ++ rest) e (effected effect (record c { steps = k }))

abbrev pub after_line : Program → List ℕ → List Frame → List (List ℕ) → Meaning
after_line p name rest [] c = (Waits NeedsLine (Begins (LineDue name) ∷ rest), c)
after_line p name rest (line ∷ lines) c =
    goes_on p rest Normal
    (record c {
      lines = lines;
      past = c.past ++ Took line ∷ [];
      world = with_line name line c.world;
    })

abbrev pub after_draw : Program → ℤ → List Frame → List ℕ → Meaning
after_draw p m rest [] c = (Waits NeedsDraw (Begins (DrawDue m) ∷ rest), c)
after_draw p m rest (draw ∷ draws) c =
    goes_on p rest (Value (draw_within m draw))
    (record c { draws = draws; past = c.past ++ Drew draw ∷ [] })

abbrev pub move_run : Program → Frame → List Frame → Move → Meaning
move_run p x rest (Goes frames e effect) c = goes_on p (frames ++ rest) e (effected effect c)
move_run p x rest (Ticks frames e effect) c = after_step p x rest frames e effect c.steps c
move_run p x rest (Reads name) c = after_line p name rest c.lines c
move_run p x rest (Draws m) c = after_draw p m rest c.draws c
