-- Lines that are called one after the other, each whatever the others did, until the game is over.
use Rattle.std.proofs.Common.{◌≡◌, ◌∙◌, arith, ℕ, suc, ◌+◌, ◌*◌, ◌<◌, ◌≤◌, ℤ, Bool, true, false, not, cond, List, [], ◌∷◌, ◌++◌, map, length, Option, Some, None, refl, sym, ap, subst, append_assoc}
use Rattle.std.specs.List.{AllByRecursion}
use Rattle.adv_io.specs.Steps.{Step, Traced, traced}
use Rattle.inform_tree.specs.Statements.{Statements, statements}
use Rattle.inform_meaning.specs.Worlds.{Program, Scope}
use Rattle.inform_meaning.specs.Frames.{Normal}
use Rattle.inform_logic.specs.Stages.{Stage}
use Rattle.inform_logic.specs.Leading.{Runs}
use Rattle.inform_logic.specs.Stopping.{in_block, in_call_alone}
use Rattle.inform_logic.proofs.Values.{within, called}
use Rattle.inform_logic.proofs.Statements.{end, next, call_alone}
use Rattle.inform_logic.proofs.Stops.{later, handed_up, step_stops, called_stops}
use Rattle.scott_types.specs.declared.states.State.{State}
use Rattle.scott_types.specs.declared.endings.Ran.{Ran}
use Rattle.scott_types.specs.declared.endings.Ran.TheVariants.{Not, Passed, Over}
use Rattle.scott_types.specs.Database.{Database, action_at}
use Rattle.scott_types.specs.Style.{Game}
use Rattle.scott_types.specs.Action.{is_zero_action}
use Rattle.scott_rules.specs.Progress.{Progress, and_then}
use Rattle.scott_rules.specs.Actions.{ActionOutcome, try_action}
use Rattle.scott_rules.specs.Groups.{over_of, outcome_of, tail_tried}
use Rattle.trans_specs.specs.Standing.{StandsFor}
use Rattle.trans_specs.specs.Steps.{line_steps}
use Rattle.trans_specs.specs.Names.{line_name}
use Rattle.trans_specs.specs.Lines.{call_statement}
use Rattle.trans_specs.specs.Calls.{StageLeft, CallLeaves}
use Rattle.trans_specs.specs.ActionSpecs.{LineOutcome, line_room, LineSpec}
use Rattle.trans_specs.proofs.Left.{nothing_left, left_then}
use Rattle.trans_specs.proofs.Acts.{BlockEndsGame}
use Rattle.trans_groups.specs.GroupSpecs.{CallRan}
use Rattle.trans_groups.proofs.Heads.{tried_of}
use Rattle.trans_groups.proofs.Zeros.{zero_line}

-- one more of so many parts
pub one_more : (n t x : ℕ) → x ≤ t → x + n * t ≤ suc n * t
one_more n t x few = omega (arith, few)

-- what became of a line is what became of its call
pub line_ran : (game : Game) (p : Program) (d k : ℕ) (w : Stage) (noun : List ℕ) (ran : Ran)
    (t : Traced Step ActionOutcome) → LineOutcome ran game p d k w noun t
    → CallRan ran game.db p d (line_name k) w noun t.value.state t.events (line_steps game.db)
line_ran game p d k w noun Not t x = x
line_ran game p d k w noun (Passed more) t x = x
line_ran game p d k w noun (Over ending) t x = x

-- a block is run to its end
pub record BlockDone (db : Database) (p : Program) (d : ℕ) (block : Statements) (scope : Scope)
    (w : Stage) (noun : List ℕ) (s : State) (steps : List Step) (most : ℕ) : Type 0 where
  pub after : Stage
  pub runs : Runs p d block scope w Normal scope after most
  pub leaves : StageLeft db s noun steps w after

abbrev pub BlockPassesBy : Option ℕ → Database → Program → ℕ → Statements → Scope → Stage → List ℕ
    → State → List Step → ℕ → Type 0
BlockPassesBy None db p d block scope w noun s steps most =
    BlockDone db p d block scope w noun s steps most
BlockPassesBy (Some ending) db p d block scope w noun s steps most =
    BlockEndsGame p d block scope w s steps ending most

-- it does, or the game ends in it
pub record BlockPasses (over : Option ℕ) (db : Database) (p : Program) (d : ℕ) (block : Statements)
    (scope : Scope) (w : Stage) (noun : List ℕ) (s : State) (steps : List Step) (most : ℕ) : Type 0
  where
    pub acts : BlockPassesBy over db p d block scope w noun s steps most

abbrev pub calls_of : List ℕ → Statements
calls_of ks = statements (map (λ k. call_statement (line_name k) []) ks)

module _ {db : Database} {p : Program} {d : ℕ} {noun : List ℕ} {scope : Scope} where
  -- what calls of lines do in at most n steps, they do in at most any greater number
  pub passes_within : {over : Option ℕ} {block : Statements} {w : Stage} {s : State}
      {steps : List Step} {n most : ℕ} → n ≤ most
      → BlockPasses over db p d block scope w noun s steps n
      → BlockPasses over db p d block scope w noun s steps most
  passes_within {over} {block} {w} {s} {steps} {n} {most} few x =
      record { acts = by over x.acts } where
        by : (over : Option ℕ) → BlockPassesBy over db p d block scope w noun s steps n
            → BlockPassesBy over db p d block scope w noun s steps most
        by None x = record { after = x.after; runs = within few x.runs; leaves = x.leaves }
        by (Some ending) x = record {
          after = x.after;
          stops = later (λ e s' run. within few run) x.stops;
          shows = x.shows;
          past_is = x.past_is;
          over_is = x.over_is;
        }

  -- a call that returns, and those after it
  call_then : (k : ℕ) (ks : List ℕ) {over : Option ℕ} {w : Stage} {v : ℤ} {s t : State}
      (first rest : List Step) {n m : ℕ}
      (x : CallLeaves p d (line_name k) [] w v db t noun first n)
      → BlockPasses over db p d (calls_of ks) scope x.after noun s rest m
      → BlockPasses over db p d (calls_of (k ∷ ks)) scope w noun s (first ++ rest) (n + 2 + m)
  call_then k ks {over} {w} {v} {s} {t} first rest {n} {m} x r =
      record { acts = by over r.acts } where
        by : (over : Option ℕ)
            → BlockPassesBy over db p d (calls_of ks) scope x.after noun s rest m
            → BlockPassesBy over db p d (calls_of (k ∷ ks)) scope w noun s (first ++ rest) (n + 2 +
            m)
        by None r = record {
          after = r.after;
          runs = within (omega arith) (next (call_alone (called x.does)) r.runs);
          leaves = left_then x.leaves r.leaves;
        }
        by (Some ending) r = record {
          after = r.after;
          stops = later (λ e s' run. within (omega arith) (next (call_alone (called x.does)) run))
              r.stops;
          shows = r.shows;
          past_is = r.past_is ∙ ap (λ past. past ++ rest) x.leaves.past_is
              ∙ append_assoc w.past first rest;
          over_is = r.over_is;
        }

  -- a call that returns or ends the game, and those after it
  call_next : (ran : Ran) (k : ℕ) (ks : List ℕ) {w : Stage} (t : State) (steps : List Step)
      (n : ℕ) {m : ℕ} (rest : State → Traced Step Progress)
      → CallRan ran db p d (line_name k) w noun t steps n
      → ((w1 : Stage) → StandsFor db t noun w1 → BlockPasses (rest t).value.over db p d
      (calls_of ks) scope w1 noun (rest t).value.state (rest t).events m)
      → let r = and_then (traced steps (record { state = t; over = over_of ran })) rest in
      BlockPasses r.value.over db p d (calls_of (k ∷ ks)) scope w noun r.value.state r.events
      (n + 2 + m)
  call_next Not k ks t steps n rest x more =
      call_then k ks steps (rest t).events x (more x.after x.leaves.stands)
  call_next (Passed goes_on) k ks t steps n rest x more =
      call_then k ks steps (rest t).events x (more x.after x.leaves.stands)
  call_next (Over ending) k ks t steps n rest x more = record {
    acts = record {
      after = x.after;
      stops = later (λ e s' run. within (omega arith) run) (handed_up in_block (step_stops
          (handed_up in_call_alone (called_stops x.stops))));
      shows = x.shows;
      past_is = x.past_is;
      over_is = x.over_is;
    };
  }

module _ (game : Game) (p : Program) (meets : LineSpec game p) (noun : List ℕ) (d : ℕ)
    (room : line_room ≤ d) (scope : Scope) where
  -- these calls do what it is to try these lines
  abbrev LinesDo : List ℕ → List ℕ → State → Stage → ℕ → Type 0
  LinesDo ks calls s w most = let t = tail_tried game noun ks s in
      BlockPasses t.value.over game.db p d (calls_of calls) scope w noun t.value.state t.events most

  -- and these, to try them after a line
  abbrev FirstDoes : List ℕ → List ℕ → Stage → ℕ → Traced Step ActionOutcome → Type 0
  FirstDoes ks calls w most t =
      let r = and_then (traced t.events (outcome_of t.value)) (tail_tried game noun ks) in
      BlockPasses r.value.over game.db p d (calls_of calls) scope w noun r.value.state r.events most

  -- the lines of a tail
  pub tail_does : (ks : List ℕ) → AllByRecursion (λ k. k < length game.db.actions) ks
      → (s : State) (w : Stage) → StandsFor game.db s noun w
      → let t = tail_tried game noun ks s in
      BlockPasses t.value.over game.db p d (calls_of (tried_of game.db ks)) scope w noun
      t.value.state
      t.events (length ks * (line_steps game.db + 2))
  tail_does [] there s w stands =
      record {
        acts = record { after = w; runs = within (omega arith) end; leaves = nothing_left stands };
      }
  tail_does (k ∷ ks) there s w stands =
      by (is_zero_action (action_at game.db k)) refl (tail_does ks there.1) where
        more_steps : line_steps game.db + 2 + length ks * (line_steps game.db + 2)
            ≤ suc (length ks) * (line_steps game.db + 2)
        more_steps = one_more (length ks) (line_steps game.db + 2) (line_steps game.db + 2)
            (omega arith)

        by : (zeros : Bool) → is_zero_action (action_at game.db k) ≡ zeros
            → ((s : State) (w : Stage) → StandsFor game.db s noun w → LinesDo ks (tried_of game.db
            ks)
            s w (length ks * (line_steps game.db + 2)))
            → FirstDoes ks (cond (not zeros) (k ∷ tried_of game.db ks) (tried_of game.db ks)) w
            (suc (length ks) * (line_steps game.db + 2)) (try_action game noun k s)
        by true own more = subst (FirstDoes ks (tried_of game.db ks) w
            (suc (length ks) * (line_steps game.db + 2))) (sym (zero_line game noun k s own))
            (passes_within (omega (arith, more_steps)) (more s w stands))
        by false own more = let t = try_action game noun k s in
            passes_within more_steps (call_next t.value.ran k (tried_of game.db ks) t.value.state
            t.events (line_steps game.db) (tail_tried game noun ks)
            (line_ran game p d k w noun t.value.ran t
            (meets k s noun w d room (record { there = there.0; not_zero = own }) stands))
            (more t.value.state))
