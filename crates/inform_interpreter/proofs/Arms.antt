-- The arms of the interpreter: a part, and what is done with its outcome.
use Rattle.std.proofs.Common.{◌≡◌, ◌∙◌, ℕ, zero, suc, ◌+◌, ◌<◌, ◌≤◌, ℤ, pos, Bool, true, false, List, [], ◌∷◌, Option, Some, None, Result, Ok, Err, refl, sym, ap, subst, arith}
use Rattle.std.specs.Prelude.{int_lt}
use Rattle.inform_meaning.specs.declared.traps.Trap.TheVariants as t
use Rattle.inform_meaning.specs.Parts.{tick, trap, take_draw, random_to}
use Rattle.inform_meaning.specs.Runs.{call_at, enter}
use Rattle.adv_draws.specs.Supply.{Supply}
use Rattle.adv_io.specs.Steps.{Step}
use Rattle.adv_io.specs.Console.{ConsoleView}
use Rattle.inform_tree.specs.Conditions as d
use Rattle.inform_tree.specs.Conditions.{Conditions}
use Rattle.inform_tree.specs.Statements.{Statements}
use Rattle.inform_meaning.specs.Worlds.{Config}
use Rattle.inform_meaning.specs.Frames as f
use Rattle.inform_meaning.specs.Frames.{Begin, Want, Decide, Frame, Begins, Wants, Decides, Outcome, Value, Truth, Normal, gives, when, on_truth, on_body}
use Rattle.inform_meaning.specs.Worlds.{Program}
use Rattle.inform_moves.specs.Heights.{height, calls_open}
use Rattle.inform_moves.specs.Readiness.{IsDry, HasRoom}
use Rattle.inform_worlds.specs.Views.{world_of}
use Rattle.inform_frames.specs.Stacks.{stack_of}
use Rattle.inform_frames.specs.declared.signals.Halt.TheVariants as g
use Rattle.inform_interpreter.specs.declared.exits.Exit.{Exit}
use Rattle.inform_interpreter.specs.declared.exits.Exit.TheVariants as exits
use Rattle.inform_interpreter.specs.declared.exits.Lack.TheVariants as l
use Rattle.inform_steps.specs.Standing.{CallIsDue}
use Rattle.inform_interpreter.specs.declared.exits.Stopped.TheVariants as s
use Rattle.inform_interpreter.specs.declared.interpreters.Interpreter.{Interpreter}
use Rattle.inform_interpreter.specs.Leading.{config_at, Anything, IsNoCall, IsQuiet}
use Rattle.inform_interpreter.specs.Interpreters.{program_of, calls_of, waiting_in, place_of, stop_in, left_by, ended, normal}
use Rattle.inform_interpreter.specs.Doing.{Part, meant, WaitsAlone, IsSpentRight, Does, Comes, begun, wanted, decided, then_handed, Ends, handed, GoesOnIf, Joins, Reaches, Says, Waits}
use Rattle.inform_interpreter.proofs.Frames.{IsLeftBy}
use Rattle.inform_interpreter.proofs.Fitting.{fits-more}
use Rattle.inform_interpreter.proofs.Doing.{passed, bound, normal-part, comes-does, comes-comes, comes-value, comes-truth, comes-normal, value-gives, truth-gives, gives-here, gives-world, ticked, tick-none, waits-at, stays-still, meant-same, saying_part, said-comes, said-breaks}
use Rattle.inform_interpreter.proofs.Leading.{leads-nowhere}
use Rattle.adv_io.proofs.Sayings.{grown-nil}
use Rattle.inform_meaning.proofs.Going.{stays}
use Rattle.inform_meaning.proofs.GoingTrees.{test_if_any-going, exec_all-going, alter_if_any-going}
use Rattle.inform_meaning.proofs.GoingRuns.{call_at-going, hand-going}
use Rattle.inform_meaning.specs.Laws.{Goes}
use Rattle.inform_meaning.proofs.Looping.{loop_once}
use Rattle.inform_meaning.specs.Meaning.{test_if_any, alter_if_any}
use Rattle.inform_meaning.specs.Statements.{exec_all, loop_goes_on}
use Rattle.inform_interpreter.specs.Parts.{tested_if_any, turn_body, turn_change}

module _ {n h : ℕ} {old mid new : Interpreter} {a b : ConsoleView} {x y : Supply} (part : Part) where
  -- the part was left, and this frame joined it
  pub leaves : {exit result : Exit} (fr : Frame) → IsNoCall fr → calls_open (fr ∷ []) ≡ 0
      → IsLeftBy fr exit → IsDry fr → height fr ≤ h → n + 1 ≤ h → result ≡ exit
      → Does n part old mid a b x y (left_by mid exit) → Joins exit fr mid new
      → Does h (then_handed part fr) old new a b x y (left_by new result)
  leaves {exit = exit} fr none plain by dry high fits is d j =
      subst (λ e. Does h (then_handed part fr) old new a b x y (left_by new e)) (sym is)
      (passed part fr old mid new a b x y n h exit none plain by dry high fits d j)

  pub leaves-as : {exit result : Exit} (fr fr' : Frame) → fr' ≡ fr → IsNoCall fr
      → calls_open (fr ∷ []) ≡ 0 → IsLeftBy fr exit → IsDry fr → height fr ≤ h → n + 1 ≤ h
      → result ≡ exit
      → Does n part old mid a b x y (left_by mid exit) → Joins exit fr' mid new
      → Does h (then_handed part fr) old new a b x y (left_by new result)
  leaves-as {exit = exit} fr fr' same none plain by dry high fits is d j =
      leaves fr none plain by dry high fits is d (subst (λ fr. Joins exit fr mid new) same j)

module _ {n m h : ℕ} {old mid new : Interpreter} {a b c : ConsoleView} {x y z : Supply}
    {e : Option Outcome} (part : Part) where
  -- its value was used
  pub uses : {v v' : ℤ} (w : Want) → m ≤ h → v' ≡ v → Does n part old mid a b x y (Some (Value v))
      → Does m (wanted w v') mid new b c y z e → Does h (then_handed part (Wants w)) old new a c x z e
  uses {v = v} w fits is first then =
      comes-does m h (then_handed part (Wants w)) (wanted w v) old mid new a b c x y z e fits
      (comes-value part old mid a b x y n w v first)
      (subst (λ v. Does m (wanted w v) mid new b c y z e) is then)

  pub uses-as : {v v' : ℤ} (w w' : Want) → m ≤ h → w' ≡ w → v' ≡ v
      → Does n part old mid a b x y (Some (Value v))
      → Does m (wanted w' v') mid new b c y z e → Does h (then_handed part (Wants w)) old new a c x z e
  uses-as {v' = v'} w w' fits same is first then =
      uses w fits is first (subst (λ w. Does m (wanted w v') mid new b c y z e) same then)

  pub decides : {v : Bool} (q : Decide) → m ≤ h → Does n part old mid a b x y (Some (Truth v))
      → Does m (decided q v) mid new b c y z e → Does h (then_handed part (Decides q)) old new a c x z e
  decides {v = v} q fits first then =
      comes-does m h (then_handed part (Decides q)) (decided q v) old mid new a b c x y z e fits
      (comes-truth part old mid a b x y n q v first) then

  -- its truth value was that, which picks this
  pub picks : {v : Bool} (q : Decide) (t : Bool) (rest : Part) → m ≤ h → v ≡ t → decided q t ≡ rest
      → Does n part old mid a b x y (Some (Truth v))
      → Does m rest mid new b c y z e → Does h (then_handed part (Decides q)) old new a c x z e
  picks q t rest fits is same first then =
      decides q fits (subst (λ v. Does n part old mid a b x y (Some (Truth v))) is first)
      (subst (λ rest. Does m rest mid new b c y z e) (sym same) then)

  pub follows : (q : Begin) → IsNoCall (Begins q) → m ≤ h
      → Does n part old mid a b x y (Some Normal)
      → Does m (begun q) mid new b c y z e → Does h (then_handed part (Begins q)) old new a c x z e
  follows q none fits first then =
      comes-does m h (then_handed part (Begins q)) (begun q) old mid new a b c x y z e fits
      (comes-normal part old mid a b x y n q none first) then

module _ {n h : ℕ} {old mid : Interpreter} {a b : ConsoleView} {x y : Supply} (part : Part) where
  -- its value was used at once
  pub uses-at-once : {v : ℤ} {e : Outcome} (w : Want) → WaitsAlone (Some e) []
      → IsSpentRight (Some e) mid → Does n part old mid a b x y (Some (Value v))
      → ((k : Config) → meant (wanted w v) mid k ≡ (e, k))
      → Does h (then_handed part (Wants w)) old mid a b x y (Some e)
  uses-at-once {v = v} {e = e} w alone spent d is =
      value-gives part old mid a b x y n h w v e alone spent d is

  pub decides-at-once : {v : Bool} {e : Outcome} (q : Decide) → WaitsAlone (Some e) []
      → IsSpentRight (Some e) mid → Does n part old mid a b x y (Some (Truth v))
      → ((k : Config) → meant (decided q v) mid k ≡ (e, k))
      → Does h (then_handed part (Decides q)) old mid a b x y (Some e)
  decides-at-once {v = v} {e = e} q alone spent d is =
      truth-gives part old mid a b x y n h q v e alone spent d is

-- ---- loops over lists

-- nothing was done yet
pub comes-nowhere : (part : Part) (i : Interpreter) (seen : ConsoleView) (given : Supply)
    → stack_of i.waiting ≡ [] → Comes part part i i seen seen given given
comes-nowhere part i seen given idle = record {
  stays = stays-still i i seen given refl refl refl (omega arith);
  idle = idle;
  reaches = λ lines known. record {
    used = 0;
    done = [];
    left = lines;
    steps = omega arith;
    grew = sym (grown-nil seen.history);
    lines_left = known;
    leads = leads-nowhere (meant part i) (meant part i) (place_of i lines given.left)
        (place_of i lines given.left) (λ n past any. refl);
  };
}

-- what is left is the same as another part
pub comes-as : {old mid : Interpreter} {a b : ConsoleView} {x y : Supply} (part rest rest' : Part)
    → meant rest old ≡ meant rest' old → Comes part rest old mid a b x y
    → Comes part rest' old mid a b x y
comes-as {old = old} {mid = mid} {a = a} {b = b} {x = x} {y = y} part rest rest' is c = record {
  stays = c.stays;
  idle = c.idle;
  reaches = λ lines known. again (c.reaches lines known);
} where
  again : {lines : List (List ℕ)} → Reaches Anything (meant part old) (meant rest old) old mid a b x.left y.left lines
      → Reaches Anything (meant part old) (meant rest' old) old mid a b x.left y.left lines
  again {lines = lines} r = subst (λ m. Reaches Anything (meant part old) m old mid a b x.left y.left lines) is r

-- what an interpreter did with no more frames it did with so many
pub more-frames : {n h : ℕ} {part : Part} {old new : Interpreter} {a b : ConsoleView} {x y : Supply}
    {e : Option Outcome} → n ≤ h → Does n part old new a b x y e → Does h part old new a b x y e
more-frames {new = new} {e = e} fits d = record {
  stays = d.stays;
  alone = d.alone;
  few = omega (arith, fits, d.few);
  calls = d.calls;
  fits = fits-more new e fits d.fits;
  spent = d.spent;
  ends = d.ends;
}

-- ---- what truth values pick

pub branch-true : (body other : Statements) → decided (f.Branches body other) true ≡ begun (f.Blocks body)
unfolding when
branch-true body other = refl

pub branch-false : (body other : Statements) → decided (f.Branches body other) false ≡ begun (f.Blocks other)
unfolding when
branch-false body other = refl

pub all-true : (xs : Conditions) → decided (f.AllOf xs) true ≡ begun (f.Tests (d.All xs))
unfolding when
all-true xs = refl

pub all-false : (xs : Conditions) → decided (f.AllOf xs) false ≡ (λ p call. gives (Truth false))
unfolding when
all-false xs = refl

pub any-true : (xs : Conditions) → decided (f.AnyOf xs) true ≡ (λ p call. gives (Truth true))
unfolding when
any-true xs = refl

pub any-false : (xs : Conditions) → decided (f.AnyOf xs) false ≡ begun (f.Tests (d.Any xs))
unfolding when
any-false xs = refl

-- ---- what ends at once

-- a run that is over
pub quits : (h : ℕ) (part : Part) (old new : Interpreter) (seen : ConsoleView) (given : Supply)
    → new ≡ record old { stopped = s.Over g.Quits } → stack_of old.waiting ≡ []
    → ((k : Config) → meant part old k ≡ (f.Halts f.Quits, k))
    → Does h part old new seen seen given given (Some (f.Halts f.Quits))
quits h part old new seen given same idle is =
    gives-world h part (f.Halts f.Quits) old new seen given refl tt
    (ap (λ i. stack_of i.waiting) same ∙ idle) (ap (λ i. i.left) same)
    (ap (λ i. i.world.names) same) (ap (λ i. i.room) same) (ap (λ i. i.to_call) same)
    (λ lines draws n past. is _
    ∙ ap (λ i. (f.Halts f.Quits, config_at (place_of i lines draws) n past)) (sym same))

-- bytes are said, and that is all
pub says-does : {T : Type 0} (h : ℕ) (bytes : List ℕ) (result : Result T Exit) (old new : Interpreter)
    (a b : ConsoleView) (given : Supply) → stack_of old.waiting ≡ []
    → Says bytes old new a b result
    → Does h (saying_part bytes (λ p call. gives Normal)) old new a b given given
    (ended (normal {T = T}) new result)
says-does h bytes (Ok y) old new a b given idle s =
    let c = said-comes y bytes (λ p call. gives Normal) old new a b given idle s in
    comes-does 0 h (saying_part bytes (λ p call. gives Normal)) (λ p call. gives Normal) old new new
    a b b given given given (Some Normal) (omega arith) c
    (gives-here 0 (λ p call. gives Normal) Normal new refl tt c.idle (λ lines draws n past. refl) b given)
says-does h bytes (Err exit) old new a b given idle s =
    said-breaks exit h bytes (λ p call. gives Normal) old new a b given idle (λ c. stays c) s

-- ---- after what was done so far

module _ {whole rest : Part} {n : ℕ} {old mid new : Interpreter} {a b c : ConsoleView}
    {x y z : Supply} (part : Part) (so-far : Comes whole rest old mid a b x y) where
  -- the next part was done, and what follows it is left
  pub next-begins : (q : Begin) → IsNoCall (Begins q) → rest ≡ then_handed part (Begins q)
      → Does n part mid new b c y z (Some Normal) → Comes whole (begun q) old new a c x z
  next-begins q none is d =
      comes-comes whole rest (begun q) old mid new a b c x y z so-far
      (subst (λ rest. Comes rest (begun q) mid new b c y z) (sym is)
      (comes-normal part mid new b c y z n q none d))

  pub next-wants : {v : ℤ} (w : Want) → rest ≡ then_handed part (Wants w)
      → Does n part mid new b c y z (Some (Value v)) → Comes whole (wanted w v) old new a c x z
  next-wants {v = v} w is d =
      comes-comes whole rest (wanted w v) old mid new a b c x y z so-far
      (subst (λ rest. Comes rest (wanted w v) mid new b c y z) (sym is)
      (comes-value part mid new b c y z n w v d))

  pub next-decides : {v : Bool} (q : Decide) → rest ≡ then_handed part (Decides q)
      → Does n part mid new b c y z (Some (Truth v)) → Comes whole (decided q v) old new a c x z
  next-decides {v = v} q is d =
      comes-comes whole rest (decided q v) old mid new a b c x y z so-far
      (subst (λ rest. Comes rest (decided q v) mid new b c y z) (sym is)
      (comes-truth part mid new b c y z n q v d))

-- the rest was done, and so the whole
pub then-does : {whole : Part} (rest : Part) {part : Part} {n h : ℕ} {old mid new : Interpreter}
    {a b c : ConsoleView} {x y z : Supply} {e : Option Outcome} → rest ≡ part → n ≤ h
    → Comes whole rest old mid a b x y → Does n part mid new b c y z e → Does h whole old new a c x z e
then-does {whole = whole} rest {n = n} {h = h} {old = old} {mid = mid} {new = new} {a = a} {b = b} {c = c} {x = x} {y = y} {z = z} {e = e} is fits so-far d =
    comes-does n h whole rest old mid new a b c x y z e fits so-far
    (subst (λ part. Does n part mid new b c y z e) (sym is) d)

-- the rest gives this at once
pub then-gives : {whole : Part} {h : ℕ} {old mid : Interpreter} {a b : ConsoleView} {x y : Supply}
    {e : Outcome} (rest : Part) → WaitsAlone (Some e) [] → IsSpentRight (Some e) mid
    → Comes whole rest old mid a b x y → ((k : Config) → meant rest mid k ≡ (e, k))
    → Does h whole old mid a b x y (Some e)
then-gives {whole = whole} {h = h} {old = old} {mid = mid} {a = a} {b = b} {x = x} {y = y} {e = e} rest alone spent so-far is =
    comes-does 0 h whole rest old mid mid a b b x y y (Some e) (omega arith) so-far
    (gives-here 0 rest e mid alone spent so-far.idle (λ lines draws n past. is _) b y)

-- what is left means the same as another part, where an interpreter is now
pub then-as : {whole rest : Part} (rest' : Part) {old mid : Interpreter} {a b : ConsoleView} {x y : Supply}
    → Comes whole rest old mid a b x y → meant rest mid ≡ meant rest' mid
    → Comes whole rest' old mid a b x y
then-as {whole = whole} {rest = rest} rest' {old = old} {mid = mid} so-far is =
    comes-as whole rest rest'
    (sym (meant-same rest old mid so-far.stays.names so-far.stays.room) ∙ is
    ∙ meant-same rest' old mid so-far.stays.names so-far.stays.room) so-far

-- a frame begins or a value is used, and what it is used for is another part
pub same-part : {whole rest : Part} (rest' : Part) {old mid : Interpreter} {a b : ConsoleView} {x y : Supply}
    → Comes whole rest old mid a b x y → rest ≡ rest' → Comes whole rest' old mid a b x y
same-part {whole = whole} rest' {old = old} {mid = mid} {a = a} {b = b} {x = x} {y = y} so-far is =
    subst (λ rest. Comes whole rest old mid a b x y) is so-far

-- the same of another part that means the same
pub does-as : {h : ℕ} {part part' : Part} {old new : Interpreter} {a b : ConsoleView} {x y : Supply}
    {e : Option Outcome} → part ≡ part' → Does h part' old new a b x y e → Does h part old new a b x y e
does-as {h = h} {old = old} {new = new} {a = a} {b = b} {x = x} {y = y} {e = e} is d =
    subst (λ part. Does h part old new a b x y e) (sym is) d

-- ---- random numbers

pub random-traps : (n : ℤ) → int_lt n (pos 1) ≡ true → (k : Config) → random_to n k ≡ trap t.Random k
unfolding when
random-traps n low k = ap (λ b. when b (trap t.Random) (take_draw n) k) low

pub random-draws : (n : ℤ) → int_lt n (pos 1) ≡ false → wanted f.RangeOf n ≡ begun (f.DrawDue n)
unfolding when
random-draws n high = ap (λ b. (λ p call. when b (trap t.Random) (take_draw n))) high

-- ---- steps

-- a step was taken, and what follows it was done
pub steps-then : {h : ℕ} {old mid new : Interpreter} {a c : ConsoleView} {x z : Supply}
    {e : Option Outcome} (fr : Frame) (part rest : Part)
    → ((k : Config) → meant part old k ≡ tick fr (meant rest old) k)
    → mid ≡ record old { left = mid.left } → mid.left + 1 ≡ old.left
    → (old.to_call ≡ true → IsNoCall fr) → stack_of old.waiting ≡ []
    → Does h rest mid new a c x z e → Does h part old new a c x z e
steps-then {h = h} {old = old} {mid = mid} {new = new} {a = a} {c = c} {x = x} {z = z} {e = e} fr part rest is same one none idle d =
    comes-does h h part rest old mid new a a c x x z e (omega arith)
    (ticked fr part rest old mid a x is same one none idle) d

-- a step is due, and none is left, or it is a call and the run goes no further
pub waits-for-step : {exit : Exit} {old new : Interpreter} (h : ℕ) (fr : Frame) (part rest : Part)
    (seen : ConsoleView) (given : Supply)
    → ((k : Config) → meant part old k ≡ tick fr (meant rest old) k)
    → calls_open (fr ∷ []) ≡ 0 → 1 ≤ h → height fr ≤ h → HasRoom (world_of old.world) fr
    → (0 < old.left → (old.to_call ≡ true) × CallIsDue (fr ∷ []))
    → exit ≡ exits.Stops → Waits l.Steps fr old new
    → Does h part old new seen seen given given (left_by new exit)
waits-for-step {old = old} {new = new} h fr part rest seen given is plain some high room right exit w =
    subst (Does h part old new seen seen given given)
    (sym (ap (left_by new) exit ∙ ap (stop_in (waiting_in new)) w.stopped))
    (waits-at h part l.Steps fr old new seen seen given w.waiting w.world w.left plain some high room
    (stays-still old new seen given (ap (λ w. w.names) w.world) w.room w.to_call (omega (arith, w.left)))
    (λ more. let due = right (subst (λ n. 0 < n) w.left more) in (w.to_call ∙ due.0, due.1))
    refl
    (λ lines known. (
      known,
      λ n past none.
          subst (λ n. meant part old (config_at (place_of old lines given.left) n past)
          ≡ (f.Waits f.Spent (fr ∷ []), config_at (place_of old lines given.left) n past)) (sym none)
          (is (config_at (place_of old lines given.left) 0 past)
          ∙ tick-none fr (meant rest old) (place_of old lines given.left) past),
    )))

-- ---- calls

pub no-room : (p : Program) (n : ℕ) (name : List ℕ) (values : List ℤ) (k : Config) → n ≡ 0
    → call_at p n name values k ≡ trap t.Depth k
unfolding call_at
no-room p n name values k none = ap (λ n. call_at p n name values k) none

pub none-called : (p : Program) (n : ℕ) (name : List ℕ) (values : List ℤ) (k : Config) → 0 < n
    → p.routines name ≡ None → call_at p n name values k ≡ (Value (pos 0), k)
unfolding call_at
none-called p zero name values k some none = absurd (omega (arith, some))
none-called p (suc n) name values k some none = ap (λ o. enter p (call_at p n) name o values k) none

-- the same of another part that means the same in an interpreter
pub does-meant : {h : ℕ} (part part' : Part) {old new : Interpreter} {a b : ConsoleView} {x y : Supply}
    {e : Option Outcome} → meant part old ≡ meant part' old → Does h part' old new a b x y e
    → Does h part old new a b x y e
does-meant part part' {old = old} {new = new} {a = a} {b = b} {x = x} {y = y} {e = e} is d = record {
  stays = d.stays;
  alone = d.alone;
  few = d.few;
  calls = d.calls;
  fits = d.fits;
  spent = d.spent;
  ends = λ lines known.
      subst (λ m. Ends e m old new a b x.left y.left lines) (sym is) (d.ends lines known);
}

-- the same of another part that means the same in the world of an interpreter
pub does-here : {h : ℕ} (part part' : Part) {old new : Interpreter} {a b : ConsoleView} {x y : Supply}
    {e : Option Outcome}
    → ((lines : List (List ℕ)) (draws : List ℕ) (n : ℕ) (past : List Step)
    → meant part old (config_at (place_of old lines draws) n past)
    ≡ meant part' old (config_at (place_of old lines draws) n past))
    → Does h part' old new a b x y e → Does h part old new a b x y e
does-here part part' {old = old} {new = new} {a = a} {b = b} {x = x} {y = y} {e = e} is d = record {
  stays = d.stays;
  alone = d.alone;
  few = d.few;
  calls = d.calls;
  fits = d.fits;
  spent = d.spent;
  ends = λ lines known. again lines e (d.ends lines known);
} where
  again : (lines : List (List ℕ)) (e : Option Outcome)
      → Ends e (meant part' old) old new a b x.left y.left lines
      → Ends e (meant part old) old new a b x.left y.left lines
  again lines None h = λ past. let r = h past in record {
    events = r.events;
    same = ap (λ o. o.1.past) (is lines x.left old.left past) ∙ r.same;
    shows = r.shows;
  }
  again lines (Some e) h = record {
    used = h.used;
    done = h.done;
    left = h.left;
    steps = h.steps;
    grew = h.grew;
    lines_left = h.lines_left;
    leads = record {
      same = λ more past may. is lines x.left (h.used + more) past ∙ h.leads.same more past may;
      quiet = λ q n past few. subst (λ o. IsQuiet o.0) (sym (is lines x.left n past)) (h.leads.quiet q n past few);
    };
  }

-- ---- turns of a loop

module _ (l : f.Loop) where
  -- the step of a turn, its test, and what follows that
  pub turn-once : (i : Interpreter) (k : Config) → meant (begun (f.TurnDue l)) i k
      ≡ tick (Begins (f.TurnDue l)) (meant (then_handed (tested_if_any l.test) (Decides (f.Testing l))) i) k
  unfolding on_truth
  turn-once i k =
      loop_once l (test_if_any (program_of i) (calls_of i) l.test) (exec_all (program_of i) (calls_of i) l.body)
      (alter_if_any (program_of i) (calls_of i) l.change)
      (test_if_any-going (program_of i) (calls_of i) (call_at-going (program_of i) i.room) l.test)
      (exec_all-going (program_of i) (calls_of i) (call_at-going (program_of i) i.room) l.body)
      (alter_if_any-going (program_of i) (calls_of i) (call_at-going (program_of i) i.room) l.change) k

  pub tested-true : (b : Bool) → loop_goes_on l b ≡ true → decided (f.Testing l) b ≡ turn_body l
  unfolding on_truth when
  tested-true b is = ap (λ go. (λ p call. when go (turn_body l p call) (gives Normal))) is

  pub tested-false : (b : Bool) → loop_goes_on l b ≡ false
      → decided (f.Testing l) b ≡ (λ p call. gives Normal)
  unfolding on_truth when
  tested-false b is = ap (λ go. (λ p call. when go (turn_body l p call) (gives Normal))) is

  pub body-normal : handed (f.Looping l) Normal ≡ turn_change l
  unfolding on_body
  body-normal = refl

  pub body-continues : handed (f.Looping l) f.Continues ≡ turn_change l
  unfolding on_body
  body-continues = refl

  pub body-breaks : handed (f.Looping l) f.Breaks ≡ (λ p call. gives Normal)
  unfolding on_body
  body-breaks = refl

  module _ {old mid new : Interpreter} {a b c : ConsoleView} {x y z : Supply} where
    -- a turn whose test was this goes on or ends
    pub turn-begins : {n : ℕ} {v : Bool} (h : ℕ) (go : Bool) → go ≡ loop_goes_on l v
        → Comes (begun (f.TurnDue l)) (then_handed (tested_if_any l.test) (Decides (f.Testing l))) old mid a b x y
        → Does n (tested_if_any l.test) mid new b c y z (Some (Truth v))
        → GoesOnIf h (begun (f.TurnDue l)) (turn_body l) old new a c x z (Ok go)
    turn-begins {v = v} h true is so-far d =
        same-part (turn_body l) (next-decides (tested_if_any l.test) so-far (f.Testing l) refl d)
        (tested-true v (sym is))
    turn-begins {v = v} h false is so-far d =
        then-gives (λ p call. gives Normal) refl tt
        (same-part (λ p call. gives Normal) (next-decides (tested_if_any l.test) so-far (f.Testing l) refl d)
        (tested-false v (sym is))) (λ k. refl)

  module _ {old new : Interpreter} {a b : ConsoleView} {x y : Supply} where
    pub body-goes-on : {n : ℕ} → Does n (begun (f.Blocks l.body)) old new a b x y (Some Normal)
        → Comes (turn_body l) (turn_change l) old new a b x y
    body-goes-on {n = n} d = same-part (turn_change l)
        (bound (begun (f.Blocks l.body)) (f.Looping l) tt old new a b x y n Normal tt d) body-normal

    pub body-goes-on-early : {n : ℕ} → Does n (begun (f.Blocks l.body)) old new a b x y (Some f.Continues)
        → Comes (turn_body l) (turn_change l) old new a b x y
    body-goes-on-early {n = n} d = same-part (turn_change l)
        (bound (begun (f.Blocks l.body)) (f.Looping l) tt old new a b x y n f.Continues tt d) body-continues

    pub body-ends : {n h : ℕ} → Does n (begun (f.Blocks l.body)) old new a b x y (Some f.Breaks)
        → Does h (turn_body l) old new a b x y (Some Normal)
    body-ends {n = n} d = then-gives (λ p call. gives Normal) refl tt
        (same-part (λ p call. gives Normal)
        (bound (begun (f.Blocks l.body)) (f.Looping l) tt old new a b x y n f.Breaks tt d) body-breaks) (λ k. refl)

-- ---- printing

-- what begins goes on from what was done before
pub begins-going : (q : Begin) (i : Interpreter) (k : Config) → Goes k (meant (begun q) i k).1
begins-going q i k = subst (λ part. Goes k (meant part i k).1) (normal-part q)
    (hand-going (program_of i) (calls_of i) (call_at-going (program_of i) i.room) (Begins q) Normal k)

-- what was said, and what is left after it
pub said-on : {T : Type 0} {whole rest : Part} {old mid new : Interpreter} {a b c : ConsoleView}
    {x y : Supply} (v : T) (bytes : List ℕ) (then : Part) → rest ≡ saying_part bytes then
    → Comes whole rest old mid a b x y → Says bytes mid new b c (Ok v)
    → Comes whole then old new a c x y
said-on {whole = whole} {rest = rest} {old = old} {mid = mid} {new = new} {a = a} {b = b} {c = c} {x = x} {y = y} v bytes then is so-far said =
    comes-comes whole rest then old mid new a b c x y y so-far
    (subst (λ rest. Comes rest then mid new b c y y) (sym is) (said-comes v bytes then mid new b c y so-far.idle said))

-- the console failed
pub said-not : {T : Type 0} {whole rest : Part} {old mid new : Interpreter} {a b c : ConsoleView}
    {x y : Supply} {exit : Exit} (h : ℕ) (bytes : List ℕ) (q : Begin) → rest ≡ saying_part bytes (begun q)
    → Comes whole rest old mid a b x y → Says {T = T} bytes mid new b c (Err exit)
    → Does h whole old new a c x y (left_by new exit)
said-not {T = T} {whole = whole} {rest = rest} {old = old} {mid = mid} {new = new} {a = a} {b = b} {c = c} {x = x} {y = y} {exit = exit} h bytes q is so-far said =
    comes-does h h whole rest old mid new a b c x y y (left_by new exit) (omega arith) so-far
    (subst (λ rest. Does h rest mid new b c y y (left_by new exit)) (sym is)
    (said-breaks exit h bytes (begun q) mid new b c y so-far.idle (begins-going q mid) said))
