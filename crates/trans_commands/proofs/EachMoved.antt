-- The turns of getting and dropping all items.
use Rattle.std.proofs.Common.{◌≡◌, ◌∙◌, arith, ℕ, suc, ◌+◌, ◌-◌, ◌*◌, ◌<◌, ◌≤◌, pos, nat_lt, Bool, true, false, ◌||◌, List, [], ◌∷◌, ◌++◌, length, drop, codes, Option, Some, None, refl, sym, ap, subst, append_assoc, append-nil}
use Rattle.adv_io.specs.Steps.{Step, Traced, after, said_steps}
use Rattle.inform_meaning.specs.Worlds.{Program, Scope}
use Rattle.inform_meaning.specs.Frames.{Loop, Normal, Quits}
use Rattle.inform_meaning.specs.Runs.{Halted}
use Rattle.inform_logic.specs.Stages.{Stage}
use Rattle.inform_logic.specs.Leading.{TheTurns, TestsIfAny, Runs, Loops}
use Rattle.inform_logic.specs.Stopping.{Stops, in_block, in_body, in_if, in_nonzero, in_call}
use Rattle.inform_logic.proofs.Lists.{after_rest}
use Rattle.inform_logic.proofs.Words.{small_number, counted_up}
use Rattle.inform_logic.proofs.Values.{within, valued, number, local, call, argument, called}
use Rattle.inform_logic.proofs.Conditions.{compare, nonzero}
use Rattle.inform_logic.proofs.Changes.{set_variable, increment}
use Rattle.inform_logic.proofs.Statements.{end, next, breaks, assign, break, if_true, if_false}
use Rattle.inform_logic.proofs.Loops.{turn, turn_goes_on, turn_ends, for_once_more, for_ends, loop_breaks}
use Rattle.inform_logic.proofs.Stops.{later, handed_up, step_stops, called_stops}
use Rattle.inform_codes.specs.Grown.{body_of}
use Rattle.scott_types.specs.declared.states.State.{State}
use Rattle.scott_types.specs.declared.styles.Style.{Style}
use Rattle.scott_types.specs.declared.parts.Item.{Item}
use Rattle.scott_types.specs.declared.endings.Found.{Found}
use Rattle.scott_types.specs.declared.endings.Found.TheVariants.{NoMatch, Matched, Done, Over}
use Rattle.scott_types.specs.declared.endings.Transfer.{Transfer}
use Rattle.scott_types.specs.declared.phrases.Phrase.TheVariants.{TooMuch, ItemDone}
use Rattle.scott_types.specs.Phrase.{text_of, text_in}
use Rattle.scott_types.specs.ItemText.{shown}
use Rattle.scott_types.specs.Database.{Database}
use Rattle.scott_types.specs.Style.{in_style}
use Rattle.scott_rules.specs.Search.{SearchOutcome}
use Rattle.scott_rules.specs.Transfer.{verb_for, is_taken, is_refused, transferred, AllOutcome, all_moved, all_after, all_item, all_items}
use Rattle.trans_specs.specs.Tables.{bit}
use Rattle.trans_specs.specs.Views.{Shows}
use Rattle.trans_specs.specs.Standing.{StandsFor}
use Rattle.trans_specs.specs.Calls.{StageLeft}
use Rattle.trans_specs.specs.CommandSpecs.{search_room}
use Rattle.trans_specs.proofs.Left.{nothing_left, left_then}
use Rattle.trans_commands.proofs.Spent.{item_steps}
use Rattle.trans_commands.proofs.Blocks.{first_of, rest_of, loop_of}
use Rattle.trans_commands.proofs.Known.{Known, body, few_items}
use Rattle.trans_specs.proofs.Entries.{bit_tells}
use Rattle.trans_commands.proofs.OneItem.{can_take}
use Rattle.trans_commands.proofs.MovedNext.{item_search, NextLeaves, NextActs, move_next}
use Rattle.trans_commands.specs.declared.transfers.TheConstants.{MOVE_ALL}

pub or_true : (b : Bool) → b || true ≡ true
or_true true = refl
or_true false = refl

module _ {style : Style} {db : Database} {p : Program} (known : Known style db p)
    (typed : List ℕ) (t : Transfer) (d : ℕ) (room : search_room ≤ suc (suc d)) where
  -- so many calls may be opened in the routine
  abbrev pub depth : ℕ
  depth = suc (suc (suc d))

  abbrev pub move_loop : Loop
  move_loop = loop_of (first_of (rest_of (body style db MOVE_ALL)))

  -- at an item, where one was taken before it or not
  abbrev pub at_item : ℕ → Bool → Scope
  at_item i m = record {
    directive = known.move_all.at;
    locals = (codes "v", pos (verb_for t)) ∷ (codes "i", pos i) ∷ (codes "m", pos (bit m)) ∷ [];
  }

  -- ---- what becomes of the turns from an item on

  pub record TurnsEnd (i : ℕ) (m any : Bool) (w : Stage) (s : State) (steps : List Step) (most : ℕ)
      : Type 0 where
    pub last : ℕ
    pub mark : Bool
    pub mark_is : mark ≡ (any || m)
    pub after : Stage
    pub turns : Loops p depth move_loop (at_item i m) w Normal (at_item last mark) after most
    pub leaves : StageLeft db s typed steps w after

  pub record TurnsEndGame (ending i : ℕ) (m any : Bool) (w : Stage) (s : State) (steps : List Step)
      (most : ℕ) : Type 0 where
    pub any_is : any ≡ true
    pub after : Stage
    pub stops : Stops p depth (TheTurns move_loop) (at_item i m) w (Halted Quits) after most
    pub shows : Shows s after
    pub past_is : after.past ≡ w.past ++ steps
    pub over_is : after.globals (codes "over") ≡ Some (pos ending)

  abbrev pub TurnsActBy : Option ℕ → ℕ → Bool → Bool → Stage → State → List Step → ℕ → Type 0
  TurnsActBy None i m any w s steps most = TurnsEnd i m any w s steps most
  TurnsActBy (Some ending) i m any w s steps most = TurnsEndGame ending i m any w s steps most

  pub record TurnsAct (over : Option ℕ) (i : ℕ) (m any : Bool) (w : Stage) (s : State)
      (steps : List Step) (most : ℕ) : Type 0 where
    pub acts : TurnsActBy over i m any w s steps most

  -- from an item on, as the rules say
  abbrev pub ItemsAct : ℕ → Bool → Stage → Traced Step AllOutcome → ℕ → Type 0
  ItemsAct i m w r most =
      TurnsAct r.value.over i m r.value.any_taken w r.value.state r.events most

  -- ---- one turn

  module _ (i : ℕ) (less : i < length db.items) where
    on : (m : Bool) (w : Stage) → TestsIfAny p depth move_loop.test (at_item i m) w true w 0
    unfolding body_of
    on m w = compare (local refl)
        (valued (small_number p.width (omega (arith, few_items known))) number) under where
          under : nat_lt i (length db.items) ≡ true
          under = grind (arith, less)

    -- a turn that goes on, and those after it
    turn_then : {over : Option ℕ} (m m' any any' : Bool) {s s' : State} {w w1 : Stage}
        {first steps : List Step} {n : ℕ}
        → Runs p depth move_loop.body (at_item i m) w Normal (at_item i m') w1 (item_steps db - 1)
        → StageLeft db s' typed first w w1 → (any' || m') ≡ (any || m)
        → (any' ≡ true → any ≡ true) → TurnsAct over (i + 1) m' any' w1 s steps n
        → TurnsAct over i m any w s (first ++ steps) (item_steps db + n)
    unfolding body_of
    turn_then {over} m m' any any' {s} {s'} {w} {w1} {first} {steps} {n} runs left same grows more =
        record { acts = by over more.acts } where
          by : (over : Option ℕ) → TurnsActBy over (i + 1) m' any' w1 s steps n
              → TurnsActBy over i m any w s (first ++ steps) (item_steps db + n)
          by None more = record {
            last = more.last;
            mark = more.mark;
            mark_is = more.mark_is ∙ same;
            after = more.after;
            turns = within (omega arith) (for_once_more (on m w) runs
                (increment refl (counted_up p.width i (omega (arith, less, few_items known))))
                more.turns);
            leaves = left_then left more.leaves;
          }
          by (Some ending) more = record {
            any_is = grows more.any_is;
            after = more.after;
            stops = later (λ e s'. within (omega arith)) (later (λ e s'. turn (on m w))
                (later (λ e s'. turn_goes_on refl (λ j. tt) runs)
                (later (λ e s'. turn_ends
                (increment refl (counted_up p.width i (omega (arith, less, few_items known)))))
                more.stops)));
            shows = more.shows;
            past_is = more.past_is ∙ ap (λ past. past ++ steps) left.past_is
                ∙ append_assoc w.past first steps;
            over_is = more.over_is;
          }

  -- ---- an item that is taken

  module _ (i : ℕ) (item : Item) (rest : List Item) (left : drop i db.items ≡ item ∷ rest)
      (less : i < length db.items) (m : Bool) (s : State) (w : Stage)
      (stands : StandsFor db s typed w) (taken : is_taken t i item s ≡ true) (n : ℕ)
      (more : (s' : State) (w' : Stage) → StandsFor db s' typed w'
      → ItemsAct (i + 1) true w' (all_items t (in_style style db) typed (i + 1) rest s') n) where
    abbrev sought : Traced Step SearchOutcome
    sought = item_search style db typed t item s

    moved : (b : Bool) → NextLeaves known s typed w stands t d room i item rest left less b
        → ItemsAct i m w
        (after sought.events
        (all_moved b style t i item
        sought.value.state
        (all_items t (in_style style db) typed (i + 1) rest))) (item_steps db + n)
    unfolding body_of
    moved true x = record {
      acts = record {
        last = i;
        mark = true;
        mark_is = refl;
        after = x.after;
        turns = within (omega arith) (loop_breaks (on i less m w) refl (breaks (if_true
            (nonzero (call (argument (local refl) (argument (local refl)
            (called (can_take known s typed w stands t i (suc d) item rest less left)))))
            (bit_tells (is_taken t i item s) ∙ taken))
            (next (assign (set_variable number refl)) (breaks (if_true (nonzero (call (argument
            (local refl) (argument (local refl) (called x.does)))) refl) (breaks break)))))));
        leaves = subst (λ steps. StageLeft db
            sought.value.state typed
            (sought.events ++ steps) w
            x.after) (sym (append-nil (said_steps (text_in style TooMuch)))) x.leaves;
      };
    }
    moved false x =
        let r : Traced Step AllOutcome = all_items t (in_style style db) typed (i + 1) rest
        (transferred t i
        sought.value.state) in
        subst (λ steps. TurnsAct r.value.over i m true w r.value.state steps (item_steps db + n))
        (append_assoc sought.events
        (said_steps (shown item.text ++ text_of ItemDone)) r.events)
        (turn_then i less m true true r.value.any_taken (within (omega arith) (next (if_true
        (nonzero (call (argument (local refl) (argument (local refl)
        (called (can_take known s typed w stands t i (suc d) item rest less left)))))
        (bit_tells (is_taken t i item s) ∙ taken))
        (next (assign (set_variable number refl)) (next (if_false (nonzero (call (argument
        (local refl) (argument (local refl) (called x.does)))) refl) end) end))) end)) x.leaves
        (or_true r.value.any_taken) (λ h. refl) (more (transferred t i
        sought.value.state) x.after
        x.leaves.stands))

    taken_turn : ItemsAct i m w
        (all_item true t (in_style style db) typed i item s
        (all_items t (in_style style db) typed (i + 1) rest)) (item_steps db + n)
    unfolding body_of
    taken_turn = by sought.value.found
        (move_next known s typed w stands t d room i item rest left less
        (is_refused t db
        sought.value.state) refl) where
          by : (found : Found)
              → NextActs known s typed w stands t d room i item rest left less found
              (is_refused t db
              sought.value.state)
              → ItemsAct i m w
              (after sought.events
              (all_after found t (in_style style db) i item
              sought.value.state
              (all_items t (in_style style db) typed (i + 1) rest))) (item_steps db + n)
          by NoMatch x = moved (is_refused t db
              sought.value.state) x
          by Matched x = moved (is_refused t db
              sought.value.state) x
          by Done x = moved (is_refused t db
              sought.value.state) x
          by (Over ending) x = record {
            acts = record {
              any_is = refl;
              after = x.after;
              stops = later (λ e s'. within (omega arith)) (later (λ e s'. turn (on i less m w))
                  (handed_up (in_body refl) (handed_up in_block (later (λ e s'. if_true
                  (nonzero (call (argument (local refl) (argument (local refl)
                  (called (can_take known s typed w stands t i (suc d) item rest less left)))))
                  (bit_tells (is_taken t i item s) ∙ taken)))
                  (later (λ e s'. next (assign (set_variable number refl)))
                  (handed_up in_block (step_stops (handed_up in_if (handed_up in_nonzero
                  (handed_up in_call (later (λ e s'. argument (local refl))
                  (later (λ e s'. argument (local refl)) (called_stops x.stops)))))))))))));
              shows = x.shows;
              past_is = x.past_is ∙ ap (λ past. w.past ++ past) (sym (append-nil
                  sought.events));
              over_is = x.over_is;
            };
          }

  -- ---- all turns

  -- the loop over the items from one on gets or drops each as the rules do, in at most `item_steps`
  -- steps for each
  pub turns_from : (rest : List Item) (i : ℕ) (m : Bool) (s : State) (w : Stage)
      → StandsFor db s typed w → drop i db.items ≡ rest → i + length rest ≡ length db.items
      → ItemsAct i m w (all_items t (in_style style db) typed i rest s)
      (length rest * item_steps db + 1)
  unfolding body_of
  turns_from [] i m s w stands left all = record {
    acts = record {
      last = i;
      mark = m;
      mark_is = refl;
      after = w;
      turns = within (omega arith) (for_ends (compare (local refl)
          (valued (small_number p.width (omega (arith, few_items known))) number) over));
      leaves = nothing_left stands;
    };
  } where
    over : nat_lt i (length db.items) ≡ false
    over = grind (arith, all)
  turns_from (item ∷ rest) i m s w stands left all = by (is_taken t i item s) refl
      (λ m' s' w' stands'. turns_from rest (i + 1) m' s' w' stands' (after_rest db.items i left)
      (omega (arith, all))) where
        less : i < length db.items
        less = omega (arith, all)

        most : item_steps db + (length rest * item_steps db + 1)
            ≡ length (item ∷ rest) * item_steps db + 1
        most = omega arith

        by : (b : Bool) → is_taken t i item s ≡ b
            → ((m' : Bool) (s' : State) (w' : Stage) → StandsFor db s' typed w'
            → ItemsAct (i + 1) m' w' (all_items t (in_style style db) typed (i + 1) rest s')
            (length rest * item_steps db + 1))
            → ItemsAct i m w (all_item b t (in_style style db) typed i item s
            (all_items t (in_style style db) typed (i + 1) rest))
            (length (item ∷ rest) * item_steps db + 1)
        by true is more = subst (λ most. ItemsAct i m w (all_item true t (in_style style db) typed i
            item s (all_items t (in_style style db) typed (i + 1) rest)) most) most
            (taken_turn i item rest left less m s w stands is (length rest * item_steps db + 1)
            (more true))
        by false is more = subst (λ most. ItemsAct i m w
            (all_items t (in_style style db) typed (i + 1) rest s) most) most
            (turn_then i less m m _ _ (within (omega arith) (next (if_false (nonzero (call (argument
            (local refl) (argument (local refl)
            (called (can_take known s typed w stands t i (suc d) item rest less left)))))
            (bit_tells (is_taken t i item s) ∙ is)) end) end)) (nothing_left stands) refl
            (λ h. h) (more m s w stands))
