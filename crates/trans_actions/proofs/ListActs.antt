-- Statements one after the other, before any others: what they lead to, or that they end the game.
use Rattle.std.proofs.Common.{◌≡◌, ◌∙◌, arith, ℕ, ◌+◌, ◌≤◌, ℤ, pos, Bool, true, false, if◌then◌else◌, List, [], ◌∷◌, ◌++◌, codes, Option, Some, None, sym, ap, subst, append_assoc, append-nil}
use Rattle.std.proofs.lemmas.List.{map-append}
use Rattle.adv_io.specs.Steps.{Said, Step, Traced, said_steps, traced}
use Rattle.inform_tree.specs.Values.{Arguments, NoArguments}
use Rattle.inform_tree.specs.Conditions.{Condition}
use Rattle.inform_tree.specs.Statements.{Statement, Call, If, statements}
use Rattle.inform_meaning.specs.Worlds.{Program, Scope}
use Rattle.inform_meaning.specs.Frames.{Outcome, Normal, Quits}
use Rattle.inform_meaning.specs.Runs.{Halted}
use Rattle.inform_logic.specs.Stages.{Stage}
use Rattle.inform_logic.specs.Leading.{Leads, TheCall, TheBlock, Executes, Tests, Runs}
use Rattle.inform_logic.specs.Stopping.{Stops, in_block, in_call_alone}
use Rattle.inform_logic.proofs.Values.{within, called}
use Rattle.inform_logic.proofs.Statements.{end, next, call_alone, if_true, if_false}
use Rattle.inform_logic.proofs.Stops.{later, handed_up, step_stops, called_stops}
use Rattle.scott_types.specs.declared.states.State.{State}
use Rattle.scott_types.specs.Database.{Database}
use Rattle.scott_rules.specs.Progress.{Progress as Result, and_then}
use Rattle.trans_specs.specs.Views.{Shows}
use Rattle.trans_specs.specs.Standing.{StandsFor}
use Rattle.trans_specs.specs.Calls.{StageLeft}
use Rattle.trans_specs.proofs.Left.{nothing_left, left_then}
use Rattle.trans_specs.proofs.Acts.{CallActs}

-- they are done, and what comes after them goes on from the stage that they leave
pub record ListDone (db : Database) (p : Program) (d : ℕ) (xs : List Statement) (scope : Scope)
    (w : Stage) (noun : List ℕ) (s : State) (bytes : List ℕ) (most : ℕ) : Type 0 where
  pub after : Stage
  pub leads : (ys : List Statement) (e : Outcome) (last : Scope) (w' : Stage) (m : ℕ)
      → Runs p d (statements ys) scope after e last w' m
      → Runs p d (statements (xs ++ ys)) scope w e last w' (most + m)
  pub leaves : StageLeft db s noun (said_steps bytes) w after

-- one of them ends the game
pub record ListEnds (p : Program) (d : ℕ) (xs : List Statement) (scope : Scope) (w : Stage)
    (s : State) (bytes : List ℕ) (ending : ℕ) (most : ℕ) : Type 0 where
  pub after : Stage
  pub stops : (ys : List Statement) → Stops p d (TheBlock (statements (xs ++ ys))) scope w
      (Halted Quits) after most
  pub shows : Shows s after
  pub past_is : after.past ≡ w.past ++ said_steps bytes
  pub over_is : after.globals (codes "over") ≡ Some (pos ending)

abbrev pub ListActsBy : Option ℕ → Database → Program → ℕ → List Statement → Scope → Stage → List ℕ
    → State → List ℕ → ℕ → Type 0
ListActsBy None db p d xs scope w noun s bytes most = ListDone db p d xs scope w noun s bytes most
ListActsBy (Some ending) db p d xs scope w noun s bytes most =
    ListEnds p d xs scope w s bytes ending most

pub record ListActs (over : Option ℕ) (db : Database) (p : Program) (d : ℕ) (xs : List Statement)
    (scope : Scope) (w : Stage) (noun : List ℕ) (s : State) (bytes : List ℕ) (most : ℕ) : Type 0
  where
    pub acts : ListActsBy over db p d xs scope w noun s bytes most

-- what was said by two parts
both_said : {db : Database} {s t : State} {noun : List ℕ} {w w1 w2 : Stage} (a b : List ℕ)
    → StageLeft db s noun (said_steps a) w w1 → StageLeft db t noun (said_steps b) w1 w2
    → StageLeft db t noun (said_steps (a ++ b)) w w2
both_said {db} {s} {t} {noun} {w} {w1} {w2} a b first later =
    subst (λ steps. StageLeft db t noun steps w w2) (sym (map-append Said a b))
    (left_then first later)

both_past : (past : List Step) {mid last : List Step} (a b : List ℕ) → mid ≡ past ++ said_steps a
    → last ≡ mid ++ said_steps b → last ≡ past ++ said_steps (a ++ b)
both_past past a b first later = later ∙ ap (λ xs. xs ++ said_steps b) first
    ∙ append_assoc past (said_steps a) (said_steps b)
    ∙ ap (λ xs. past ++ xs) (sym (map-append Said a b))

module _ {db : Database} {p : Program} {d : ℕ} {noun : List ℕ} {scope : Scope} where
  -- a greater bound
  pub list_within : {over : Option ℕ} {xs : List Statement} {w : Stage} {s : State}
      {bytes : List ℕ} {n most : ℕ} → n ≤ most → ListActs over db p d xs scope w noun s bytes n
      → ListActs over db p d xs scope w noun s bytes most
  list_within {over} {xs} {w} {s} {bytes} {n} {most} few x = record { acts = by over x.acts } where
    by : (over : Option ℕ) → ListActsBy over db p d xs scope w noun s bytes n
        → ListActsBy over db p d xs scope w noun s bytes most
    by None x = record {
      after = x.after;
      leads = λ ys e last w' m run. within (omega (arith, few)) (x.leads ys e last w' m run);
      leaves = x.leaves;
    }
    by (Some ending) x = record {
      after = x.after;
      stops = λ ys. later (λ e s' run. within few run) (x.stops ys);
      shows = x.shows;
      past_is = x.past_is;
      over_is = x.over_is;
    }

  -- none
  pub list_end : {s : State} {w : Stage} → StandsFor db s noun w
      → ListActs None db p d [] scope w noun s [] 0
  list_end {s} {w} stands = record {
    acts = record {
      after = w;
      leads = λ ys e last w' m run. within (omega arith) run;
      leaves = nothing_left stands;
    };
  }

  -- a statement, and those after it
  pub list_next : {over : Option ℕ} {x : Statement} {xs : List Statement} {w w1 : Stage}
      {s t : State} (a b : List ℕ) {n m : ℕ} → Executes p d x scope w Normal scope w1 n
      → StageLeft db t noun (said_steps a) w w1 → ListActs over db p d xs scope w1 noun s b m
      → ListActs over db p d (x ∷ xs) scope w noun s (a ++ b) (n + m)
  list_next {over} {x} {xs} {w} {w1} {s} {t} a b {n} {m} does left r =
      record { acts = by over r.acts } where
        by : (over : Option ℕ) → ListActsBy over db p d xs scope w1 noun s b m
            → ListActsBy over db p d (x ∷ xs) scope w noun s (a ++ b) (n + m)
        by None r = record {
          after = r.after;
          leads = λ ys e last w' k run. within (omega arith)
              (next does (r.leads ys e last w' k run));
          leaves = both_said a b left r.leaves;
        }
        by (Some ending) r = record {
          after = r.after;
          stops = λ ys. later (λ e s' run. next does run) (r.stops ys);
          shows = r.shows;
          past_is = both_past w.past a b left.past_is r.past_is;
          over_is = r.over_is;
        }

  -- the branch of a choice
  pub list_branch : {over : Option ℕ} {test : Condition} (taken left : List Statement) (b : Bool)
      {w w1 : Stage} {s t : State} (cs bs : List ℕ) {n m : ℕ}
      → Tests p d test scope w b w1 n → StageLeft db t noun (said_steps cs) w w1
      → ListActs over db p d (if b then taken else left) scope w1 noun s bs m
      → ListActs over db p d (If test (statements taken) (statements left) ∷ []) scope w noun s
      (cs ++ bs) (n + m + 1)
  list_branch {over} {test} taken left b {w} {w1} {s} {t} cs bs {n} {m} tests before r =
      record { acts = by over r.acts } where
        whole : (xs : List Statement) {e : Outcome} {last : Scope} {w' : Stage} {k : ℕ}
            → Runs p d (statements (xs ++ [])) scope w1 e last w' k
            → Runs p d (statements xs) scope w1 e last w' k
        whole xs {e} {last} {w'} {k} run =
            subst (λ zs. Runs p d (statements zs) scope w1 e last w' k) (append-nil xs) run

        chosen : (b : Bool) → Tests p d test scope w b w1 n → {e : Outcome} {last : Scope}
            {w' : Stage} {k : ℕ} → Runs p d (statements (if b then taken else left)) scope w1 e last
            w' k
            → Executes p d (If test (statements taken) (statements left)) scope w e last w'
            (n + k + 1)
        chosen true tests run = if_true tests run
        chosen false tests run = if_false tests run

        by : (over : Option ℕ)
            → ListActsBy over db p d (if b then taken else left) scope w1 noun s bs m
            → ListActsBy over db p d (If test (statements taken) (statements left) ∷ []) scope w
            noun s (cs ++ bs) (n + m + 1)
        by None r = record {
          after = r.after;
          leads = λ ys e last w' k run. within (omega arith) (next (chosen b tests
              (whole (if b then taken else left) (r.leads [] Normal scope r.after 0 end))) run);
          leaves = both_said cs bs before r.leaves;
        }
        by (Some ending) r = record {
          after = r.after;
          stops = λ ys. handed_up in_block (later (λ e s' run. chosen b tests
              (whole (if b then taken else left) run)) (r.stops []));
          shows = r.shows;
          past_is = both_past w.past cs bs before.past_is r.past_is;
          over_is = r.over_is;
        }

  -- a call that may end the game, and the statements after it
  pub list_call : (over : Option ℕ) {f : List ℕ} {values : List ℤ} {args : Arguments}
      {xs : List Statement} {w : Stage} (t : State) (bytes : List ℕ) {n m : ℕ}
      (rest : State → Traced ℕ Result)
      → ((e : Outcome) (last : Scope) (w' : Stage) (k : ℕ)
      → Leads p d (TheCall f values NoArguments) scope w e last w' k
      → Leads p d (TheCall f [] args) scope w e last w' k)
      → CallActs over db p d f values w noun t (said_steps bytes) n
      → ((w1 : Stage) → StandsFor db t noun w1
      → ListActs (rest t).value.over db p d xs scope w1 noun (rest t).value.state (rest t).events m)
      → let r = and_then (traced bytes (record { state = t; over = over })) rest in
      ListActs r.value.over db p d (Call f args ∷ xs) scope w noun r.value.state r.events
      (n + 2 + m)
  list_call None t bytes rest lead x more = list_within (omega arith)
      (list_next bytes (rest t).events (call_alone (lead _ _ _ _ (called x.acts.leaves.does)))
      x.acts.leaves.leaves
      (more x.acts.leaves.after x.acts.leaves.leaves.stands))
  list_call (Some ending) t bytes rest lead x more = record {
    acts = record {
      after = x.acts.after;
      stops = λ ys. later (λ e s' run. within (omega arith) run) (handed_up in_block (step_stops
          (handed_up in_call_alone (later (λ e s' run. lead e s' _ _ run)
          (called_stops x.acts.stops)))));
      shows = x.acts.shows;
      past_is = x.acts.past_is;
      over_is = x.acts.over_is;
    };
  }
