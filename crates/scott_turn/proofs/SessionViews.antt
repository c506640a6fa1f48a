-- What a play does, as what a session is then.
use Rattle.std.proofs.Common.{◌≡◌, ◌∙◌, ℕ, ◌+◌, Bool, List, ◌++◌, length, Option, Some, None, Ok, Err, OnOk, IfSome, sym, ap, arith, length-append}
use Rattle.adv_draws.specs.Supply.{Supply}
use Rattle.adv_io.specs.History.{draws_taken}
use Rattle.adv_io.specs.declared.faults.ConsoleFault.{ConsoleFault}
use Rattle.adv_io.specs.Console.{ConsoleView}
use Rattle.scott_types.specs.declared.states.State.{State}
use Rattle.scott_types.specs.declared.endings.Position.{Position}
use Rattle.scott_types.specs.declared.endings.Position.TheVariants.{Fresh, Draw, Line, Over}
use Rattle.scott_types.specs.declared.endings.Ending.{Ending}
use Rattle.scott_types.specs.Style.{Game}
use Rattle.adv_io.specs.Steps.{after, trace_of}
use Rattle.scott_rules.specs.Play.{go, ending_of}
use Rattle.scott_rules.specs.Laws.{PlaySpends, PlaySplits, EndsWell}
use Rattle.scott_turn.specs.Rounds.{PlaysOut}
use Rattle.scott_turn.specs.Played.{Leaves, Plays, GoesOn, EndingIsKnown}

-- how many draws were taken, where what was taken and what is left is what there was
taken_by : (before now : Supply) (drawn left : List ℕ) → drawn ++ left ≡ before.left → left ≡ now.left → now.taken + length now.left ≡ before.taken + length before.left → now.taken ≡ before.taken + length drawn
taken_by before now drawn left all is sum = omega (arith, length-append drawn left, ap length all, ap length is)

-- where a play ends a game with 1, 2 or 3, its ending is known
pub ending_known : (position : Position) → EndsWell position → EndingIsKnown (ending_of position)
ending_known Fresh known = tt
ending_known (Draw head) known = tt
ending_known Line known = tt
ending_known (Over ending) known = known

-- what holds always holds of a value, if there is one
pub IfSome_always : {A : Type 0} {P : Type 0} (o : Option A) → P → IfSome o (λ x. P)
IfSome_always None p = tt
IfSome_always (Some x) p = p

module _ (old new : ConsoleView) (game : Game) (position : Position) (s : State) (before now : Supply) (last : State) (tried counts : List ℕ) where
  -- what a play leaves
  pub leaves_ok : (lines : List (List ℕ)) (reached : Position) (why : Ending) (broken : Bool) → PlaySpends → now.taken + length now.left ≡ before.taken + length before.left → why ≡ ending_of reached
      → (go game position s lines before.left).value ≡ record { position = reached; state = last; lines = (go game position s lines before.left).value.lines; draws = now.left }
      → Leaves (go game position s lines before.left) (record { game = game; position = reached; state = last; broken = broken; tried = counts }) before now why
  leaves_ok lines reached why broken spends sum is leaves =
      let t = go game position s lines before.left in
      record {
        position = sym (ap (λ v. v.position) leaves);
        state = sym (ap (λ v. v.state) leaves);
        draws = sym (ap (λ v. v.draws) leaves);
        taken = taken_by before now (draws_taken (trace_of t.events)) t.value.draws (spends game position s lines before.left).draws_spent (ap (λ v. v.draws) leaves) sum;
        ending = is ∙ ap (λ v. ending_of v.position) (sym leaves);
      }

  -- a play that succeeded
  pub plays_ok : (lines : Option (List (List ℕ))) (reached : Position) (why : Ending) (broken : Bool) → PlaySpends → now.taken + length now.left ≡ before.taken + length before.left → why ≡ ending_of reached
      → IfSome lines (λ ls. PlaysOut old new (Ok reached) (go game position s ls before.left) last now.left)
      → IfSome lines (λ ls. Plays old new (Ok why) (go game position s ls before.left) (record { game = game; position = reached; state = last; broken = broken; tried = counts }) before now)
  plays_ok None reached why broken spends sum is as_rules = tt
  plays_ok (Some lines) reached why broken spends sum is as_rules = record {
    shows = as_rules.shows;
    part = tt;
    lines = as_rules.lines;
    leaves = leaves_ok lines reached why broken spends sum is as_rules.leaves;
  }

  -- a play that failed
  pub plays_err : (lines : Option (List (List ℕ))) (reached : Position) (broken : Bool) (d fault : ConsoleFault)
      → IfSome lines (λ ls. PlaysOut old new (Err d) (go game position s ls before.left) last now.left)
      → IfSome lines (λ ls. Plays old new (Err fault) (go game position s ls before.left) (record { game = game; position = reached; state = last; broken = broken; tried = counts }) before now)
  plays_err None reached broken d fault as_rules = tt
  plays_err (Some lines) reached broken d fault as_rules = record { shows = tt; part = as_rules.part; lines = tt; leaves = tt }

  -- what succeeded goes on as if it had never stopped
  pub goes_on_ok : (lines : Option (List (List ℕ))) (reached : Position) (why : Ending) (broken whole : Bool) → PlaySplits
      → IfSome lines (λ ls. PlaysOut old new (Ok reached) (go game position s ls before.left) last now.left)
      → IfSome lines (λ ls. OnOk {E = ConsoleFault} (Ok why) (GoesOn (record { game = game; position = position; state = s; broken = whole; tried = tried }) (record { game = game; position = reached; state = last; broken = broken; tried = counts }) ls before.left (go game position s ls before.left)))
  goes_on_ok None reached why broken whole splits as_rules = tt
  goes_on_ok (Some lines) reached why broken whole splits as_rules = λ more further.
      splits game position s lines more before.left further
      ∙ ap (λ v. after (go game position s lines before.left).events (go game v.position v.state ((go game position s lines before.left).value.lines ++ more) ((go game position s lines before.left).value.draws ++ further))) as_rules.leaves
