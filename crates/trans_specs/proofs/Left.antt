-- What a part of a routine leaves of the stage, and parts one after the other.
use Rattle.std.proofs.Common.{◌∙◌, ℕ, List, [], ◌++◌, refl, sym, ap, append_assoc, append-nil}
use Rattle.adv_io.specs.Steps.{Step, said_steps}
use Rattle.inform_logic.specs.Stages.{Stage, with_past, said}
use Rattle.scott_types.specs.declared.states.State.{State}
use Rattle.scott_types.specs.Database.{Database}
use Rattle.trans_specs.specs.Standing.{StandsFor}
use Rattle.trans_specs.specs.Calls.{StageLeft}

-- what a stage stands for doesn't depend on what happened before it
pub stands_after : {db : Database} {s : State} {typed : List ℕ} {w : Stage} (past : List Step)
    → StandsFor db s typed w → StandsFor db s typed (with_past past w)
stands_after past h = record {
  ready = record {
    shows = h.ready.shows;
    fits = h.ready.fits;
    tables = h.ready.tables;
    working = h.ready.working;
  };
  has_noun = h.has_noun;
}

-- nothing was done, and bytes were said
pub nothing_left : {db : Database} {s : State} {typed : List ℕ} {w : Stage}
    → StandsFor db s typed w → StageLeft db s typed [] w w
nothing_left {w = w} h = record {
  stands = h;
  past_is = sym (append-nil w.past);
  lines_stay = refl;
  draws_stay = refl;
  globals_stay = λ name other. refl;
  arrays_stay = λ name other. refl;
}

pub said_left : {db : Database} {s : State} {typed : List ℕ} {w : Stage} (bytes : List ℕ)
    → StandsFor db s typed w → StageLeft db s typed (said_steps bytes) w (said bytes w)
said_left {w = w} bytes h = record {
  stands = stands_after (w.past ++ said_steps bytes) h;
  past_is = refl;
  lines_stay = refl;
  draws_stay = refl;
  globals_stay = λ name other. refl;
  arrays_stay = λ name other. refl;
}

-- one part after another
pub left_then : {db : Database} {s t : State} {typed : List ℕ} {w w1 w2 : Stage}
    {first later : List Step} → StageLeft db s typed first w w1
    → StageLeft db t typed later w1 w2 → StageLeft db t typed (first ++ later) w w2
left_then {w = w} {first = first} {later} a b = record {
  stands = b.stands;
  past_is = b.past_is ∙ ap (λ past. past ++ later) a.past_is ∙ append_assoc w.past first later;
  lines_stay = b.lines_stay ∙ a.lines_stay;
  draws_stay = b.draws_stay ∙ a.draws_stay;
  globals_stay = λ name other. b.globals_stay name other ∙ a.globals_stay name other;
  arrays_stay = λ name other. b.arrays_stay name other ∙ a.arrays_stay name other;
}
