-- The heads of a verb are tried in order, up to the first that passes.
use Rattle.std.proofs.Common.{◌≡◌, ◌∙◌, arith, ℕ, ◌+◌, ◌==◌, ◌<◌, ◌≤◌, ◌%◌, pos, nat_eq, Bool, true, false, not, ◌&&◌, ◌||◌, if◌then◌else◌, List, [], ◌∷◌, ◌++◌, codes, Option, Some, None, refl, sym, ap, true≢false}
use Rattle.std.specs.List.{AllByRecursion}
use Rattle.std.specs.Ordering.{int_eq}
use Rattle.std.proofs.lemmas.Int.{ints}
use Rattle.adv_io.specs.Steps.{Step, Traced}
use Rattle.inform_tree.specs.declared.conditions.Relation.TheVariants.{Eq}
use Rattle.inform_tree.specs.Values as v
use Rattle.inform_tree.specs.Conditions as c
use Rattle.inform_tree.specs.Statements.{Statement, Statements, statements}
use Rattle.inform_meaning.specs.Words.{compares}
use Rattle.inform_meaning.specs.Worlds.{Program, Scope}
use Rattle.inform_meaning.specs.Frames.{Outcome, Normal, Returns}
use Rattle.inform_logic.specs.Stages.{Stage}
use Rattle.inform_logic.specs.Leading.{Runs, Tests}
use Rattle.inform_logic.specs.Stopping.{in_block, in_if, in_nonzero, in_call}
use Rattle.inform_logic.proofs.Words.{small_number}
use Rattle.inform_logic.proofs.Values.{within, valued, local, number, call, called}
use Rattle.inform_logic.proofs.Conditions.{compare, nonzero}
use Rattle.inform_logic.proofs.Changes.{set_variable}
use Rattle.inform_logic.proofs.Statements.{end, next, returns, return, assign, if_true, if_false}
use Rattle.inform_logic.proofs.Stops.{later, handed_up, step_stops, called_stops}
use Rattle.scott_types.specs.declared.states.State.{State}
use Rattle.scott_types.specs.declared.endings.Ran.{Ran}
use Rattle.scott_types.specs.declared.endings.Ran.TheVariants.{Not, Passed, Over as Ended}
use Rattle.scott_types.specs.declared.endings.Found.{Found}
use Rattle.scott_types.specs.declared.endings.Found.TheVariants.{Over, Done, Matched, NoMatch}
use Rattle.scott_types.specs.Database.{Database}
use Rattle.scott_types.specs.Style.{Game}
use Rattle.scott_types.specs.Action.{verb_of, noun_of}
use Rattle.scott_rules.specs.Actions.{ActionOutcome}
use Rattle.scott_rules.specs.Groups.{Group, group_tried}
use Rattle.scott_rules.specs.Search.{SearchOutcome, is_for_noun, at_least_matched, search_after, search_group, search_result}
use Rattle.trans_specs.specs.Tables.{or_zero}
use Rattle.trans_specs.specs.Standing.{StandsFor}
use Rattle.trans_specs.specs.Names.{group_name}
use Rattle.trans_specs.specs.Calls.{StageLeft}
use Rattle.trans_specs.specs.ActionSpecs.{passed_value}
use Rattle.trans_specs.proofs.Left.{nothing_left, left_then}
use Rattle.trans_specs.proofs.Acts.{BlockEndsGame}
use Rattle.trans_groups.specs.GroupSpecs.{CallRan, group_room, group_steps, GroupSpec}
use Rattle.trans_groups.specs.Search.{group_tries, for_noun, verb_tries}
use Rattle.trans_groups.proofs.Counted.{tries_steps}
use Rattle.trans_groups.proofs.Steps.{past_of}

-- the scope of the search, with a mark
abbrev pub scope_at : ℕ → ℕ → ℕ → ℕ → Scope
scope_at directive verb noun m = record {
  directive = directive;
  locals =
      (codes "v", pos verb) ∷ (codes "n", pos noun) ∷ (codes "m", pos m) ∷ [];
}

-- ---- what becomes of a block of tries

-- it is run to its end, with this mark
pub record TriesEnd (db : Database) (p : Program) (d : ℕ) (block : Statements) (first last : Scope)
    (w : Stage) (typed : List ℕ) (s : State) (steps : List Step) (most : ℕ) : Type 0 where
  pub after : Stage
  pub runs : Runs p d block first w Normal last after most
  pub leaves : StageLeft db s typed steps w after

-- a head passes
pub record TriesReturn (db : Database) (p : Program) (d : ℕ) (block : Statements) (first : Scope)
    (w : Stage) (typed : List ℕ) (s : State) (steps : List Step) (most : ℕ) : Type 0 where
  pub last : Scope
  pub after : Stage
  pub runs : Runs p d block first w (Returns (pos 2)) last after most
  pub leaves : StageLeft db s typed steps w after

abbrev pub TriesActBy : Found → Database → Program → ℕ → Statements → (ℕ → Scope) → ℕ → Stage
    → List ℕ → State → List Step → ℕ → Type 0
TriesActBy NoMatch db p d block scope m w typed s steps most =
    TriesEnd db p d block (scope m) (scope m) w typed s steps most
TriesActBy Matched db p d block scope m w typed s steps most =
    TriesEnd db p d block (scope m) (scope 1) w typed s steps most
TriesActBy Done db p d block scope m w typed s steps most =
    TriesReturn db p d block (scope m) w typed s steps most
TriesActBy (Over ending) db p d block scope m w typed s steps most =
    BlockEndsGame p d block (scope m) w s steps ending most

pub record TriesAct (found : Found) (db : Database) (p : Program) (d : ℕ) (block : Statements)
    (scope : ℕ → Scope) (m : ℕ) (w : Stage) (typed : List ℕ) (s : State) (steps : List Step)
    (most : ℕ) : Type 0 where
  pub acts : TriesActBy found db p d block scope m w typed s steps most

module _ {db : Database} {p : Program} {d : ℕ} {typed : List ℕ} {scope : ℕ → Scope} where
  -- what comes after something that does nothing
  skips : {found : Found} {rest whole : Statements} {m : ℕ} {w : Stage} {s : State}
      {steps : List Step} (k : ℕ) {n : ℕ}
      → ((e : Outcome) (last : Scope) (w' : Stage) (j : ℕ) → Runs p d rest (scope m) w e last w' j
      → Runs p d whole (scope m) w e last w' (k + j))
      → TriesAct found db p d rest scope m w typed s steps n
      → TriesAct found db p d whole scope m w typed s steps (k + n)
  skips {found} {rest} {whole} {m} {w} {s} {steps} k {n} go x =
      record { acts = by found x.acts } where
        by : (found : Found) → TriesActBy found db p d rest scope m w typed s steps n
            → TriesActBy found db p d whole scope m w typed s steps (k + n)
        by NoMatch x = record { after = x.after; runs = go _ _ _ _ x.runs; leaves = x.leaves }
        by Matched x = record { after = x.after; runs = go _ _ _ _ x.runs; leaves = x.leaves }
        by Done x = record {
          last = x.last;
          after = x.after;
          runs = go _ _ _ _ x.runs;
          leaves = x.leaves;
        }
        by (Over ending) x = record {
          after = x.after;
          stops = later (λ e s' run. go e s' _ _ run) x.stops;
          shows = x.shows;
          past_is = x.past_is;
          over_is = x.over_is;
        }

  -- what comes after a head that doesn't pass
  one_there : {found : Found} {rest whole : Statements} {m : ℕ} {w w1 : Stage} {s t : State}
      (first steps : List Step) (k : ℕ) {n : ℕ}
      → ((e : Outcome) (last : Scope) (w' : Stage) (j : ℕ) → Runs p d rest (scope 1) w1 e last w' j
      → Runs p d whole (scope m) w e last w' (k + j))
      → StageLeft db t typed first w w1 → TriesAct found db p d rest scope 1 w1 typed s steps n
      → TriesAct (at_least_matched found) db p d whole scope m w typed s (first ++ steps) (k + n)
  one_there {found} {rest} {whole} {m} {w} {w1} {s} {t} first steps k {n} go left x =
      record { acts = by found x.acts } where
        by : (found : Found) → TriesActBy found db p d rest scope 1 w1 typed s steps n
            → TriesActBy (at_least_matched found) db p d whole scope m w typed s (first ++ steps)
            (k + n)
        by NoMatch x = record {
          after = x.after;
          runs = go _ _ _ _ x.runs;
          leaves = left_then left x.leaves;
        }
        by Matched x = record {
          after = x.after;
          runs = go _ _ _ _ x.runs;
          leaves = left_then left x.leaves;
        }
        by Done x = record {
          last = x.last;
          after = x.after;
          runs = go _ _ _ _ x.runs;
          leaves = left_then left x.leaves;
        }
        by (Over ending) x = record {
          after = x.after;
          stops = later (λ e s' run. go e s' _ _ run) x.stops;
          shows = x.shows;
          past_is = past_of w.past first steps left.past_is x.past_is;
          over_is = x.over_is;
        }

-- ---- nouns

same_back : (a b : ℕ) → nat_eq a b ≡ nat_eq b a
same_back a b = grind arith

-- a head of noun 0 is for any
zero_is_for : (own : ℕ) (noun : Option ℕ) → (own == 0) ≡ true → is_for_noun own noun ≡ true
zero_is_for own None h = h
zero_is_for own (Some noun) h = ap (λ (b : Bool). own == noun || b) h ∙ either (own == noun) where
  either : (b : Bool) → b || true ≡ true
  either true = refl
  either false = refl

-- any other is for the noun that stands as its number
noun_tells : (own : ℕ) (noun : Option ℕ) (fits : Bool) → (own == 0) ≡ false
    → is_for_noun own noun ≡ fits → nat_eq (or_zero noun) own ≡ fits
noun_tells own None fits other h = same_back 0 own ∙ h
noun_tells own (Some noun) fits other h = same_back noun own ∙ sym (alone (own == noun))
    ∙ sym (ap (λ (b : Bool). own == noun || b) other) ∙ h where
      alone : (b : Bool) → b || false ≡ b
      alone true = refl
      alone false = refl

-- ---- one head

module _ (game : Game) (p : Program) (d : ℕ) (room : group_room ≤ d) (typed : List ℕ)
    (directive verb : ℕ) (noun : Option ℕ) where
  abbrev scope : ℕ → Scope
  scope m = scope_at directive verb (or_zero noun) m

  module _ (head : ℕ) (after_it : List Statement) (m n k : ℕ) (w : Stage)
      (others : State → Traced Step SearchOutcome) where
    -- what comes after the head
    abbrev Others : Type 0
    Others = (s : State) (w : Stage) → StandsFor game.db s typed w → TriesAct (others s).value.found
        game.db p d (statements after_it) scope 1 w typed (others s).value.state (others s).events k

    -- it is tried, and the others where it doesn't pass
    abbrev Tries : Statements → Traced Step SearchOutcome → Type 0
    Tries block r = TriesAct r.value.found game.db p d block scope m w typed r.value.state r.events
        (n + 10 + k)

    abbrev Called : Ran → Traced Step ActionOutcome → Type 0
    Called ran t = CallRan ran game.db p d (group_name head) w typed t.value.state t.events n

    passes : (more : Bool) → not (int_eq (pos (passed_value more)) (pos 0)) ≡ true
    passes true = refl
    passes false = refl

    -- a head that is for every noun
    any_noun : (ran : Ran) (t : Traced Step ActionOutcome) → Called ran t → Others
        → Tries (statements (group_tries head after_it)) (search_after ran t others)
    any_noun Not t x more = one_there t.events (others t.value.state).events (n + 10)
        (λ e last w' j run. within (omega arith)
        (next (if_false (nonzero (call (called x.does)) refl) end)
        (next (assign (set_variable number refl)) run))) x.leaves
        (more t.value.state x.after x.leaves.stands)
    any_noun (Passed goes_on) t x more = record {
      acts = record {
        last = scope m;
        after = x.after;
        runs = within (omega arith) (returns (if_true
            (nonzero (call (called x.does)) (passes goes_on)) (returns (return number))));
        leaves = x.leaves;
      };
    }
    any_noun (Ended ending) t x more = record {
      acts = record {
        after = x.after;
        stops = later (λ e s' run. within (omega arith) run) (handed_up in_block (step_stops
            (handed_up in_if (handed_up in_nonzero (handed_up in_call (called_stops x.stops))))));
        shows = x.shows;
        past_is = x.past_is;
        over_is = x.over_is;
      };
    }

    -- a head that is for its own noun, which this one is
    abbrev Same : ℕ → Bool → Type 0
    Same own b = Tests p d (c.Compare Eq (v.Name (codes "n")) (v.Number own)) (scope m) w b w 0

    own_noun : (own : ℕ) → Same own true → (ran : Ran) (t : Traced Step ActionOutcome)
        → Called ran t → Others
        → Tries (statements (for_noun own head ∷ after_it)) (search_after ran t others)
    own_noun own test Not t x more = one_there t.events (others t.value.state).events (n + 10)
        (λ e last w' j run. within (omega arith) (next (if_true test
        (next (if_false (nonzero (call (called x.does)) refl) end)
        (next (assign (set_variable number refl)) end))) run)) x.leaves
        (more t.value.state x.after x.leaves.stands)
    own_noun own test (Passed goes_on) t x more = record {
      acts = record {
        last = scope m;
        after = x.after;
        runs = within (omega arith) (returns (if_true test (returns (if_true
            (nonzero (call (called x.does)) (passes goes_on)) (returns (return number))))));
        leaves = x.leaves;
      };
    }
    own_noun own test (Ended ending) t x more = record {
      acts = record {
        after = x.after;
        stops = later (λ e s' run. within (omega arith) run) (handed_up in_block
            (later (λ e s' run. if_true test run) (handed_up in_block (step_stops
            (handed_up in_if (handed_up in_nonzero (handed_up in_call (called_stops x.stops))))))));
        shows = x.shows;
        past_is = x.past_is;
        over_is = x.over_is;
      };
    }

  -- the noun is compared with the head's own
  compared : (m : ℕ) (w : Stage) (vocab : ℕ) (b : Bool) → nat_eq (or_zero noun) (noun_of vocab) ≡ b
      → Tests p d (c.Compare Eq (v.Name (codes "n")) (v.Number (noun_of vocab))) (scope m) w b w 0
  compared m w vocab b is = compare (local refl) (valued (small_number p.width small) number)
      (as_numbers (or_zero noun) (noun_of vocab) ∙ is) where
        small : noun_of vocab < 32768
        small = let less : vocab % 150 < 150 = omega arith in omega (arith, less)

        as_numbers : (a b : ℕ) → compares Eq (pos a) (pos b) ≡ nat_eq a b
        as_numbers a b = grind (arith, ints)

  -- ---- all heads

  abbrev TriesAll : List Group → Type 0
  TriesAll gs = (m : ℕ) (s : State) (w : Stage) → StandsFor game.db s typed w
      → let r = search_result game typed verb noun gs s in
      TriesAct r.value.found game.db p d (statements (verb_tries verb gs)) scope m w typed
      r.value.state r.events (tries_steps game.db gs)

  module _ (g : Group) (gs : List Group) (meets : GroupSpec game p g) (more : TriesAll gs) (m : ℕ)
      (s : State) (w : Stage) (stands : StandsFor game.db s typed w) where
    abbrev others : State → Traced Step SearchOutcome
    others = search_result game typed verb noun gs

    abbrev First : List Statement → Traced Step SearchOutcome → Type 0
    First body r = TriesAct r.value.found game.db p d (statements body) scope m w typed
        r.value.state r.events (tries_steps game.db (g ∷ gs))

    -- a head of the verb, by its noun
    of_verb : (zero fits : Bool) → (noun_of g.vocab == 0) ≡ zero
        → is_for_noun (noun_of g.vocab) noun ≡ fits
        → First (if zero then group_tries g.head (verb_tries verb gs)
        else for_noun (noun_of g.vocab) g.head ∷ verb_tries verb gs)
        (search_group fits game typed g s others)
    of_verb true true is own = let t = group_tried game typed g s in
        any_noun g.head (verb_tries verb gs) m (group_steps game.db g) (tries_steps game.db gs) w
        others t.value.ran t (meets s typed w d room stands) (more 1)
    of_verb true false is own = absurd (true≢false (sym (zero_is_for (noun_of g.vocab) noun is) ∙
        own))
    of_verb false true is own = let t = group_tried game typed g s in
        own_noun g.head (verb_tries verb gs) m (group_steps game.db g) (tries_steps game.db gs) w
        others (noun_of g.vocab)
        (compared m w g.vocab true (noun_tells (noun_of g.vocab) noun true is own)) t.value.ran t
        (meets s typed w d room stands) (more 1)
    of_verb false false is own = skips (group_steps game.db g + 10)
        (λ e last w' j run. within (omega arith) (next (if_false (compared m w g.vocab false
        (noun_tells (noun_of g.vocab) noun false is own)) end) run)) (more m s w stands)

    by_verb : (b : Bool)
        → First (if b then if noun_of g.vocab == 0 then group_tries g.head (verb_tries verb gs)
        else for_noun (noun_of g.vocab) g.head ∷ verb_tries verb gs else verb_tries verb gs)
        (search_group (b && is_for_noun (noun_of g.vocab) noun) game typed g s others)
    by_verb true = of_verb (noun_of g.vocab == 0) (is_for_noun (noun_of g.vocab) noun) refl refl
    by_verb false = skips (group_steps game.db g + 10)
        (λ e last w' j run. within (omega arith) run) (more m s w stands)

  pub tries_do : (gs : List Group) → AllByRecursion (GroupSpec game p) gs → TriesAll gs
  tries_do [] meets m s w stands =
      record { acts = record { after = w; runs = end; leaves = nothing_left stands } }
  tries_do (g ∷ gs) meets m s w stands =
      by_verb g gs meets.0 (tries_do gs meets.1) m s w stands (verb_of g.vocab == verb)
