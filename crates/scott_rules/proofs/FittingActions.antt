-- What opcodes, action lines and groups leave fits the database.
use Rattle.std.proofs.Common.{ℕ, Bool, true, false, List, [], ◌∷◌, drop, map, Option, Some, None, refl}
use Rattle.std.proofs.lemmas.Bool.{cond_both}
use Rattle.scott_types.specs.declared.states.State.{State}
use Rattle.scott_types.specs.declared.parts.Action.{Action}
use Rattle.scott_types.specs.declared.opcodes.Opcode.{Opcode}
use Rattle.scott_types.specs.declared.opcodes.Opcode.TheVariants.{Get, Items, Rooms, Flags, Counters, Refill, Die}
use Rattle.scott_types.specs.declared.endings.Ran.{Ran}
use Rattle.scott_types.specs.declared.endings.Ran.TheVariants.{Passed}
use Rattle.scott_types.specs.Action.{opcode_numbers, parameters}
use Rattle.scott_types.specs.Database.{Database, action_at}
use Rattle.scott_types.specs.Style.{Game}
use Rattle.scott_types.specs.Limits.{KeepsLimits}
use Rattle.scott_types.specs.Opcode.{opcode_of}
use Rattle.scott_types.specs.State.{Fits, carried_place}
use Rattle.adv_io.specs.Steps.{Step, Traced}
use Rattle.scott_rules.specs.Progress.{Progress, then_if_on, and_then}
use Rattle.scott_rules.specs.Opcodes.{is_full, changed, op, run_opcodes, takes}
use Rattle.scott_rules.specs.Actions.{ActionOutcome, passes, performed, try_action}
use Rattle.scott_rules.specs.Groups.{Group, tail_action, tail_tried, after_head, group_tried}
use Rattle.scott_rules.proofs.FittingStates.{Fits-moved, Fits-items_moved, Fits-refilled, Fits-room_changed, Fits-flag_changed, Fits-counter_changed, Fits-dead}

-- the state that is left fits
abbrev pub LeavesFitting : {E : Type 0} → Database → Traced E Progress → Type 0
LeavesFitting db result = Fits db result.value.state

-- what comes next keeps a state fitting
abbrev KeepsFitting : {E : Type 0} → Database → (State → Traced E Progress) → Type 0
KeepsFitting db next = (r : State) → Fits db r → LeavesFitting db (next r)

-- what comes next is done, or the game is over
Fits-then_if_on : {E : Type 0} (db : Database) (over : Option ℕ) (t : Traced E Progress) (next : State → Traced E Progress)
    → Fits db t.value.state → KeepsFitting db next → Fits db (then_if_on over t next).value.state
Fits-then_if_on db None t next fits keeps = keeps t.value.state fits
Fits-then_if_on db (Some ending) t next fits keeps = fits

-- one part after another
Fits-and_then : {E : Type 0} (db : Database) (t : Traced E Progress) (next : State → Traced E Progress)
    → Fits db t.value.state → KeepsFitting db next → Fits db (and_then t next).value.state
Fits-and_then db t next fits keeps = Fits-then_if_on db t.value.over t next fits keeps

module _ (db : Database) (limits : KeepsLimits db) where
  -- what an opcode changes
  pub Fits-changed : (opcode : Opcode) (p q : ℕ) (s : State) → Fits db s → Fits db (changed db opcode p q s)
  Fits-changed Get p q s fits =
      cond_both (is_full db s) _ _ (Fits db) (λ _. fits) (λ _. Fits-moved db limits s p carried_place refl fits)
  Fits-changed (Items op) p q s fits = Fits-items_moved db limits op p q s fits
  Fits-changed (Rooms op) p q s fits = Fits-room_changed db limits op p s fits
  Fits-changed (Flags op) p q s fits = Fits-flag_changed db limits op p s fits
  Fits-changed (Counters op) p q s fits = Fits-counter_changed db limits op p s fits
  Fits-changed Refill p q s fits = Fits-refilled db limits s fits
  Fits-changed Die p q s fits = Fits-dead db limits s fits
  Fits-changed _ p q s fits = fits

module _ (game : Game) (limits : KeepsLimits game.db) where
  -- an opcode with the next of the parameters
  Fits-op : (noun : List ℕ) (opcode : Opcode) (params : List ℕ) (s : State) → Fits game.db s → Fits game.db (op game noun opcode params s).value.state
  Fits-op noun opcode params s fits = Fits-changed game.db limits opcode _ _ s fits

  -- opcodes in order
  Fits-run_opcodes : (noun : List ℕ) (opcodes : List Opcode) (params : List ℕ) (s : State) → Fits game.db s → Fits game.db (run_opcodes game noun opcodes params s).value.state
  Fits-run_opcodes noun [] params s fits = fits
  Fits-run_opcodes noun (opcode ∷ opcodes) params s fits =
      let rest = drop (takes game.db s opcode) params in
      Fits-and_then game.db (op game noun opcode params s) (run_opcodes game noun opcodes rest) (Fits-op noun opcode params s fits) (Fits-run_opcodes noun opcodes rest)

  -- an action line
  Fits-performed : (pass : Bool) (noun : List ℕ) (a : Action) (s : State) → Fits game.db s → Fits game.db (performed pass game noun a s).value.state
  Fits-performed true noun a s fits = Fits-run_opcodes noun (map opcode_of (opcode_numbers a)) (parameters a) s fits
  Fits-performed false noun a s fits = fits

  -- the action line of a number
  pub Fits-try_action : (noun : List ℕ) (line : ℕ) (s : State) → Fits game.db s → Fits game.db (try_action game noun line s).value.state
  Fits-try_action noun line s fits = Fits-performed (passes game.db s (action_at game.db line)) noun (action_at game.db line) s fits

  -- the lines of a tail
  Fits-tail_tried : (noun lines : List ℕ) (s : State) → Fits game.db s → Fits game.db (tail_tried game noun lines s).value.state
  Fits-tail_tried noun [] s fits = fits
  Fits-tail_tried noun (line ∷ lines) s fits =
      Fits-and_then game.db (tail_action game noun line s) (tail_tried game noun lines) (Fits-try_action noun line s fits) (Fits-tail_tried noun lines)

  -- the tail after a head
  Fits-after_head : (ran : Ran) (noun tail : List ℕ) (t : Traced Step ActionOutcome)
      → Fits game.db t.value.state → Fits game.db (after_head ran game noun tail t).value.state
  Fits-after_head (Passed true) noun tail t fits = Fits-tail_tried noun tail t.value.state fits
  Fits-after_head _ noun tail t fits = fits

  -- a head with its tail
  pub Fits-group_tried : (noun : List ℕ) (g : Group) (s : State) → Fits game.db s → Fits game.db (group_tried game noun g s).value.state
  Fits-group_tried noun g s fits =
      let head = try_action game noun g.head s in
      Fits-after_head head.value.ran noun g.tail head (Fits-try_action noun g.head s fits)
