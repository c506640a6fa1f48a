-- Draws and lines that are taken.
use Rattle.std.proofs.Common.{◌≡◌, ◌∙◌, ℕ, ◌+◌, ◌≤◌, ℤ, true, false, List, [], ◌∷◌, ◌++◌, length, Option, Some, None, Ok, Err, refl, sym, ap, subst, arith}
use Rattle.adv_draws.specs.Supply.{Supply}
use Rattle.adv_io.specs.Steps.{Step, Took, Drew, shown_of}
use Rattle.adv_io.specs.Console.{ConsoleView, Takes, TakesFrom}
use Rattle.adv_io.specs.History.{GrewByPrefix}
use Rattle.adv_io.specs.declared.consoles.Taken.TheVariants.{Got, End}
use Rattle.adv_io.specs.declared.faults.ConsoleFault.{ConsoleFault}
use Rattle.adv_io.proofs.Sayings.{grown-nil, part_none, cause_none, cause_again, cause_fails}
use Rattle.inform_tree.specs.Statements as t
use Rattle.inform_meaning.specs.declared.traps.Trap.TheVariants as kinds
use Rattle.inform_meaning.specs.Words.{draw_within}
use Rattle.inform_meaning.specs.Worlds.{with_line, has_room, entries_of}
use Rattle.inform_meaning.specs.Frames as f
use Rattle.inform_meaning.specs.Frames.{Begins, Value, Normal, when}
use Rattle.inform_meaning.specs.Parts.{trap, take_line}
use Rattle.inform_moves.specs.Heights.{calls_open}
use Rattle.inform_worlds.specs.Views.{world_of}
use Rattle.inform_frames.specs.Stacks.{stack_of}
use Rattle.inform_interpreter.specs.declared.exits.Exit.{Exit}
use Rattle.inform_interpreter.specs.declared.exits.Exit.TheVariants as exits
use Rattle.inform_interpreter.specs.declared.exits.Lack.TheVariants as l
use Rattle.inform_interpreter.specs.declared.exits.Stopped.TheVariants as s
use Rattle.inform_interpreter.specs.declared.interpreters.Interpreter.{Interpreter}
use Rattle.inform_interpreter.specs.Leading.{config_at}
use Rattle.inform_interpreter.specs.Interpreters.{waiting_in, place_of, stop_in, left_by}
use Rattle.inform_interpreter.specs.Doing.{meant, Does, begun, Waits}
use Rattle.inform_interpreter.specs.Parts.{acted}
use Rattle.inform_interpreter.proofs.Fitting.{fits-idle}
use Rattle.inform_interpreter.proofs.Doing.{stays-still, waits-at}
use Rattle.inform_interpreter.proofs.Arms.{begins-going}

-- ---- draws

-- the next draw makes a number
pub draws-one : (h : ℕ) (n : ℤ) (draw : ℕ) (i : Interpreter) (seen : ConsoleView) (given now : Supply)
    → stack_of i.waiting ≡ [] → given.left ≡ draw ∷ now.left → now.taken ≡ given.taken + 1
    → Does h (begun (f.DrawDue n)) i i seen seen given now (Some (Value (draw_within n draw)))
draws-one h n draw i seen given now idle is counted = record {
  stays = record {
    names = refl;
    room = refl;
    to_call = refl;
    left = omega arith;
    supply = omega (arith, counted, ap length is);
    bounded = omega arith;
    cause = cause_none tt;
  };
  alone = idle;
  few = omega (arith, ap length idle);
  calls = omega (arith, ap calls_open idle);
  fits = fits-idle h i idle;
  spent = tt;
  ends = λ lines known. record {
    used = 0;
    done = Drew draw ∷ [];
    left = lines;
    steps = omega arith;
    grew = sym (grown-nil seen.history);
    lines_left = known;
    leads = record {
      same = λ more past any.
          let none : 0 + more ≡ more = omega arith in
          ap (λ k. meant (begun (f.DrawDue n)) i (config_at (place_of i lines given.left) k past)) none
          ∙ ap (λ ds. meant (begun (f.DrawDue n)) i (config_at (place_of i lines ds) more past)) is;
      quiet = λ q n past few. absurd (omega (arith, few));
    };
  };
}

-- no draw is left
pub waits-for-draw : {exit : Exit} {old new : Interpreter} (h : ℕ) (n : ℤ) (seen : ConsoleView)
    (given now : Supply) → given.left ≡ [] → now ≡ given → 1 ≤ h → exit ≡ exits.Stops
    → Waits l.Draw (Begins (f.DrawDue n)) old new
    → Does h (begun (f.DrawDue n)) old new seen seen given now (left_by new exit)
waits-for-draw {exit = exit} {old = old} {new = new} h n seen given now none same some stops w =
    subst (λ now. Does h (begun (f.DrawDue n)) old new seen seen given now (left_by new exit)) (sym same)
    (subst (Does h (begun (f.DrawDue n)) old new seen seen given given)
    (sym (ap (left_by new) stops ∙ ap (stop_in (waiting_in new)) w.stopped))
    (waits-at h (begun (f.DrawDue n)) l.Draw (Begins (f.DrawDue n)) old new seen seen given w.waiting
    w.world w.left refl some some tt
    (stays-still old new seen given (ap (λ w. w.names) w.world) w.room w.to_call (omega (arith, w.left)))
    tt refl
    (λ lines known. (
      known,
      λ k past any.
          ap (λ ds. meant (begun (f.DrawDue n)) old (config_at (place_of old lines ds) k past)) none
          ∙ ap (λ ds. (f.Waits f.NeedsDraw (Begins (f.DrawDue n) ∷ []), config_at (place_of old lines ds) k past))
          (sym none),
    ))))

-- ---- lines

-- a line that was got was the next one
line-got : (before after : Option (List (List ℕ))) (lines : List (List ℕ)) (line : List ℕ)
    → TakesFrom before after (Ok Got) line → before ≡ Some lines
    → (others : List (List ℕ)) × (lines ≡ line ∷ others) × (after ≡ Some others)
line-got None after lines line h is = absurd (cc)
line-got (Some []) after lines line h is = absurd h
line-got (Some (next ∷ others)) after lines line h is =
    let first = h.0 in (others, cc (is, first), h.1)

-- where the lines have ended none were left
line-ended : (before after : Option (List (List ℕ))) (lines : List (List ℕ)) (line : List ℕ)
    → TakesFrom before after (Ok End) line → before ≡ Some lines
    → (lines ≡ []) × (after ≡ Some lines)
line-ended None after lines line h is = absurd (cc)
line-ended (Some []) after lines line h is = (cc (is), h ∙ is)
line-ended (Some (next ∷ others)) after lines line h is = absurd h

-- the next line is in its buffer
pub takes-line : (h : ℕ) (name : List ℕ) (old new : Interpreter) (a b : ConsoleView) (given : Supply)
    (before line : List ℕ) → stack_of old.waiting ≡ [] → new ≡ record old { world = new.world }
    → new.world.names ≡ old.world.names → world_of new.world ≡ with_line name line (world_of old.world)
    → Takes a b (Ok Got) before line
    → Does h (begun (f.LineDue name)) old new a b given given (Some Normal)
takes-line h name old new a b given before line idle same names world t = record {
  stays = record {
    names = names;
    room = ap (λ i. i.room) same;
    to_call = ap (λ i. i.to_call) same;
    left = omega (arith, ap (λ i. i.left) same);
    supply = refl;
    bounded = omega (arith, t.bounded);
    cause = cause_again tt t.cause;
  };
  alone = ap (λ i. stack_of i.waiting) same ∙ idle;
  few = omega (arith, ap (λ i. length (stack_of i.waiting)) same, ap length idle);
  calls = omega (arith, ap (λ i. calls_open (stack_of i.waiting)) same, ap calls_open idle);
  fits = fits-idle h new (ap (λ i. stack_of i.waiting) same ∙ idle);
  spent = tt;
  ends = λ lines known.
      let got = line-got a.left b.left lines line t.lines known in
      record {
        used = 0;
        done = Took line ∷ [];
        left = got.0;
        steps = omega (arith, ap (λ i. i.left) same);
        grew = t.taken;
        lines_left = got.2;
        leads = record {
          same = λ more past any.
              let none : 0 + more ≡ more = omega arith in
              ap (λ k. meant (begun (f.LineDue name)) old (config_at (place_of old lines given.left) k past)) none
              ∙ ap (λ ls. meant (begun (f.LineDue name)) old (config_at (place_of old ls given.left) more past)) got.1
              ∙ ap (λ w. (Normal, record (config_at (place_of old got.0 given.left) more (past ++ Took line ∷ [])) { world = w }))
              (sym world);
          quiet = λ q n past few. absurd (omega (arith, few));
        };
      };
}

-- no line is left
pub waits-for-line : {exit : Exit} {old new : Interpreter} (h : ℕ) (name : List ℕ)
    (a b : ConsoleView) (given : Supply) (before line : List ℕ) → 1 ≤ h
    → has_room (entries_of name (world_of old.world)) ≡ true → exit ≡ exits.Stops
    → Takes a b (Ok End) before line → Waits l.Line (Begins (f.LineDue name)) old new
    → Does h (begun (f.LineDue name)) old new a b given given (left_by new exit)
waits-for-line {exit = exit} {old = old} {new = new} h name a b given before line some room stops t w =
    subst (Does h (begun (f.LineDue name)) old new a b given given)
    (sym (ap (left_by new) stops ∙ ap (stop_in (waiting_in new)) w.stopped))
    (waits-at h (begun (f.LineDue name)) l.Line (Begins (f.LineDue name)) old new a b given w.waiting
    w.world w.left refl some some room
    (record {
      names = ap (λ w. w.names) w.world;
      room = w.room;
      to_call = w.to_call;
      left = omega (arith, w.left);
      supply = refl;
      bounded = omega (arith, t.bounded);
      cause = cause_again tt t.cause;
    })
    tt t.taken
    (λ lines known.
    let none = line-ended a.left b.left lines line t.lines known in (
      none.1,
      λ k past any.
          ap (λ ls. meant (begun (f.LineDue name)) old (config_at (place_of old ls given.left) k past)) none.0
          ∙ ap (λ ls. (f.Waits f.NeedsLine (Begins (f.LineDue name) ∷ []), config_at (place_of old ls given.left) k past))
          (sym none.0),
    )))

-- the console failed
pub line-fails : (h : ℕ) (name : List ℕ) (old new : Interpreter) (a b : ConsoleView) (given : Supply)
    (fault : ConsoleFault) (before line : List ℕ) → stack_of old.waiting ≡ []
    → new ≡ record old { stopped = s.Fails fault } → Takes a b (Err fault) before line
    → Does h (begun (f.LineDue name)) old new a b given given None
line-fails h name old new a b given fault before line idle same t = record {
  stays = record {
    names = ap (λ i. i.world.names) same;
    room = ap (λ i. i.room) same;
    to_call = ap (λ i. i.to_call) same;
    left = omega (arith, ap (λ i. i.left) same);
    supply = refl;
    bounded = omega (arith, t.bounded);
    cause = cause_fails tt t.cause;
  };
  alone = tt;
  few = omega (arith, ap (λ i. length (stack_of i.waiting)) same, ap length idle);
  calls = omega (arith, ap (λ i. calls_open (stack_of i.waiting)) same, ap calls_open idle);
  fits = tt;
  spent = tt;
  ends = λ lines known past.
      let g = begins-going (f.LineDue name) old (config_at (place_of old lines given.left) old.left past) in
      record {
        events = g.events;
        same = g.past;
        shows = subst (λ history. GrewByPrefix a.history history (shown_of g.events)) (sym t.taken)
            (part_none a.history (shown_of g.events));
      };
}

-- ---- a buffer

pub reads-line : (name words : List ℕ) (old : Interpreter)
    → has_room (entries_of name (world_of old.world)) ≡ true
    → (lines : List (List ℕ)) (draws : List ℕ) (n : ℕ) (past : List Step)
    → meant (acted (t.Read name words)) old (config_at (place_of old lines draws) n past)
    ≡ meant (begun (f.LineDue name)) old (config_at (place_of old lines draws) n past)
unfolding when
reads-line name words old room lines draws n past =
    ap (λ b. when b (take_line name) (trap kinds.Line) (config_at (place_of old lines draws) n past)) room

pub line-traps : (name words : List ℕ) (old : Interpreter)
    → has_room (entries_of name (world_of old.world)) ≡ false
    → (lines : List (List ℕ)) (draws : List ℕ) (n : ℕ) (past : List Step)
    → meant (acted (t.Read name words)) old (config_at (place_of old lines draws) n past)
    ≡ trap kinds.Line (config_at (place_of old lines draws) n past)
unfolding when
line-traps name words old none lines draws n past =
    ap (λ b. when b (take_line name) (trap kinds.Line) (config_at (place_of old lines draws) n past)) none
