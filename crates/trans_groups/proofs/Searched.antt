-- The search meets its specification, where each group does.
use Rattle.std.proofs.Common.{◌≡◌, arith, ℕ, suc, ◌<◌, ◌≤◌, pos, Bool, true, false, List, [], ◌∷◌, codes, Option, refl, sym, subst}
use Rattle.std.specs.List.{AllByRecursion}
use Rattle.adv_io.specs.Steps.{Step, Traced}
use Rattle.inform_meaning.specs.Worlds.{Program, Scope}
use Rattle.inform_logic.specs.Stages.{Stage}
use Rattle.inform_logic.specs.Leading.{by_return}
use Rattle.inform_logic.specs.Holding.{Has}
use Rattle.inform_logic.specs.Stopping.{in_block}
use Rattle.inform_logic.proofs.Values.{local}
use Rattle.inform_logic.proofs.Statements.{next, returns, return, switch}
use Rattle.inform_logic.proofs.Holding.{has}
use Rattle.inform_logic.proofs.Routines.{does_within, routine}
use Rattle.inform_logic.proofs.Stops.{later, handed_up, routine_stops}
use Rattle.inform_tree.specs.Statements.{statements}
use Rattle.inform_tree.specs.declared.widths.Width.{Width}
use Rattle.scott_types.specs.declared.states.State.{State}
use Rattle.scott_types.specs.declared.endings.Found.{Found}
use Rattle.scott_types.specs.declared.endings.Found.TheVariants.{Over, Done, Matched, NoMatch}
use Rattle.scott_types.specs.Style.{Game, in_style}
use Rattle.scott_rules.specs.Groups.{groups}
use Rattle.scott_rules.specs.Search.{SearchOutcome, search_result}
use Rattle.trans_specs.specs.Tables.{or_zero}
use Rattle.trans_specs.specs.Standing.{StandsFor}
use Rattle.trans_specs.specs.Laws.{HasWords, NumbersAreTheirWords, LinesHaveWords}
use Rattle.trans_specs.specs.Calls.{CallLeaves}
use Rattle.trans_specs.specs.CommandSpecs.{SearchFinds, search_steps}
use Rattle.trans_specs.proofs.Room.{one_less}
use Rattle.trans_specs.proofs.Left.{nothing_left}
use Rattle.trans_specs.proofs.Acts.{stops_within}
use Rattle.trans_groups.specs.GroupSpecs.{group_room, GroupSpec}
use Rattle.trans_groups.specs.Search.{verb_tries, has_verb, search_routine}
use Rattle.trans_groups.specs.Laws.{SearchMeetsSpec}
use Rattle.trans_groups.proofs.Counted.{tries_steps, enough_steps}
use Rattle.trans_groups.proofs.Tried.{scope_at, TriesActBy, tries_do}
use Rattle.trans_groups.proofs.Chosen.{VerbsAreWords, verbs_are_words, chosen, none_chosen, none_found}

module _ (game : Game) (p : Program) (has : Has p (search_routine (groups game.db)))
    (meets : AllByRecursion (GroupSpec game p) (groups game.db))
    (words : VerbsAreWords p (groups game.db)) (verb : ℕ) (some : 0 < verb) (noun : Option ℕ)
    (s : State) (typed : List ℕ) (w : Stage) (d : ℕ) (stands : StandsFor game.db s typed w) where
  abbrev scope : ℕ → Scope
  scope m = scope_at has.at verb (or_zero noun) m

  abbrev Finds : Found → Traced Step SearchOutcome → Type 0
  Finds found r = SearchFinds found game p (suc d) (codes "search")
      (pos verb ∷ pos (or_zero noun) ∷ []) w typed r

  -- a head has the verb
  one_has : has_verb verb (groups game.db) ≡ true → (found : Found)
      (r : Traced Step SearchOutcome)
      → TriesActBy found game.db p d (statements (verb_tries verb (groups game.db))) scope 0 w typed
      r.value.state r.events (tries_steps game.db (groups game.db)) → Finds found r
  one_has there NoMatch r x = record {
    after = x.after;
    does = does_within (omega (arith, enough_steps game.db)) (routine has (next (switch (local refl)
        (chosen p d (scope 0) w (groups game.db) verb some _ _ _ _ (groups game.db) words there
        x.runs)) (returns (return (local refl)))) by_return);
    leaves = x.leaves;
  }
  one_has there Matched r x = record {
    after = x.after;
    does = does_within (omega (arith, enough_steps game.db)) (routine has (next (switch (local refl)
        (chosen p d (scope 0) w (groups game.db) verb some _ _ _ _ (groups game.db) words there
        x.runs)) (returns (return (local refl)))) by_return);
    leaves = x.leaves;
  }
  one_has there Done r x = record {
    after = x.after;
    does = does_within (omega (arith, enough_steps game.db)) (routine has (returns (switch
        (local refl) (chosen p d (scope 0) w (groups game.db) verb some _ _ _ _ (groups game.db)
        words
        there x.runs))) by_return);
    leaves = x.leaves;
  }
  one_has there (Over ending) r x = record {
    after = x.after;
    stops = stops_within (omega (arith, enough_steps game.db)) (routine_stops has
        (handed_up in_block (later (λ e s' run. switch (local refl) (chosen p d (scope 0) w
        (groups game.db) verb some _ _ _ _ (groups game.db) words there run)) x.stops)));
    shows = x.shows;
    past_is = x.past_is;
    over_is = x.over_is;
  }

  -- none has
  none_has : has_verb verb (groups game.db) ≡ false → CallLeaves p (suc d) (codes "search")
      (pos verb ∷ pos (or_zero noun) ∷ []) w (pos 0) game.db s typed [] (search_steps game.db)
  none_has none = record {
    after = w;
    does = does_within (omega (arith, enough_steps game.db)) (routine has (next (switch (local refl)
        (none_chosen p d (scope 0) w (groups game.db) verb some (groups game.db) words none))
        (returns (return (local refl)))) by_return);
    leaves = nothing_left stands;
  }

  pub finds : group_room ≤ d → (there : Bool) → has_verb verb (groups game.db) ≡ there
      → let r = search_result game typed verb noun (groups game.db) s in Finds r.value.found r
  finds room true there = let r = search_result game typed verb noun (groups game.db) s in
      one_has there r.value.found r (tries_do game p d room typed has.at verb noun (groups game.db)
      meets 0 s w stands).acts
  finds room false none = subst (λ r. Finds r.value.found r)
      (sym (none_found game typed verb noun (groups game.db) s none)) (none_has none)

-- where a program serves the search, it meets its specification if each group does
pub search_meets_spec : NumbersAreTheirWords → LinesHaveWords → SearchMeetsSpec
search_meets_spec their_words have_words style width db p translates serves meets verb noun s typed w d
    room some is_noun stands =
    let game = in_style style db in
    one_less (λ d. let r = search_result game typed verb noun (groups db) s in
    SearchFinds r.value.found game p d (codes "search") (pos verb ∷ pos (or_zero noun) ∷ []) w typed
    r) 124 d room
    (λ k few. finds game p (has p serves.holds.0
    (serves.notes_lines (codes "search") serves.holds.0.0)) meets
    (verbs_are_words p their_words 0 db.actions lines) verb some noun s typed w k stands
    (omega (arith, few)) (has_verb verb (groups db)) refl) where
      lines : AllByRecursion (HasWords p.width) db.actions
      lines = subst (λ (width : Width). AllByRecursion (HasWords width) db.actions)
          (sym serves.width_is) (have_words width db translates.none_wide)
