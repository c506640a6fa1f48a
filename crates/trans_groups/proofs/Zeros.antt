-- A line of zeros does nothing, and what a line that passes says of the lines after it.
use Rattle.std.proofs.Common.{◌≡◌, ◌∙◌, arith, ℕ, ◌/◌, ◌%◌, Bool, true, false, not, cond, ◌&&◌, ◌||◌, if◌then◌else◌, List, [], ◌∷◌, map, flat_map, Option, Some, None, refl, sym, ap, ap₂, subst}
use Rattle.std.specs.List.{list_all, list_any}
use Rattle.std.proofs.lemmas.Bool.{and_parts}
use Rattle.adv_io.specs.Steps.{Noted, after, as_steps, traced}
use Rattle.scott_types.specs.declared.parts.Action.{Action}
use Rattle.scott_types.specs.declared.states.State.{State}
use Rattle.scott_types.specs.declared.endings.Ran.TheVariants.{Passed}
use Rattle.scott_types.specs.Database.{Database, action_at}
use Rattle.scott_types.specs.Style.{Game}
use Rattle.scott_types.specs.Opcode.{opcode_of}
use Rattle.scott_types.specs.Action.{is_zero, is_zero_action, opcode_numbers, parameters}
use Rattle.scott_rules.specs.Progress.{goes_on, and_then}
use Rattle.scott_rules.specs.Opcodes.{run_opcodes}
use Rattle.scott_rules.specs.Actions.{condition_holds, passes, is_more, goes_on_after, ran_of, ran_to, performed, try_action}
use Rattle.scott_rules.specs.Groups.{outcome_of, tail_tried}
use Rattle.trans_groups.proofs.Heads.{tried_of}

zero_is : (n : ℕ) → is_zero n ≡ true → n ≡ 0
zero_is n h = grind (arith, h)

conditions_hold : (db : Database) (s : State) (cs : List ℕ) → list_all is_zero cs ≡ true
    → list_all (condition_holds db s) cs ≡ true
conditions_hold db s [] h = refl
conditions_hold db s (c ∷ cs) h = let parts = and_parts (is_zero c) (list_all is_zero cs) h in
    ap₂ ◌&&◌ (ap (condition_holds db s) (zero_is c parts.0)) (conditions_hold db s cs parts.1)

abbrev numbers_of : List ℕ → List ℕ
numbers_of pairs = flat_map (λ pair. pair / 150 ∷ pair % 150 ∷ []) pairs

no_more : (pairs : List ℕ) → list_all is_zero pairs ≡ true
    → list_any is_more (numbers_of pairs) ≡ false
no_more [] h = refl
no_more (pair ∷ pairs) h = let parts = and_parts (is_zero pair) (list_all is_zero pairs) h in
    ap₂ (λ n b. is_more (n / 150) || (is_more (n % 150) || b)) (zero_is pair parts.0)
    (no_more pairs parts.1)

module _ (game : Game) (noun : List ℕ) where
  nothing_done : (pairs : List ℕ) → list_all is_zero pairs ≡ true → (params : List ℕ) (s : State)
      → run_opcodes game noun (map opcode_of (numbers_of pairs)) params s ≡ traced [] (goes_on s)
  nothing_done [] h params s = refl
  nothing_done (pair ∷ pairs) h params s =
      let parts = and_parts (is_zero pair) (list_all is_zero pairs) h in
      subst (λ n. run_opcodes game noun (map opcode_of (n / 150 ∷ n % 150 ∷ numbers_of pairs))
      params
      s ≡ traced [] (goes_on s)) (sym (zero_is pair parts.0))
      (ap (λ t. after [] (after [] t)) (nothing_done pairs parts.1 _ s))

  -- a line of zeros passes, changes nothing, and isn't noted
  pub zero_line : (k : ℕ) (s : State) → is_zero_action (action_at game.db k) ≡ true
      → try_action game noun k s ≡ traced [] (record { state = s; ran = Passed false })
  zero_line k s h = let a = action_at game.db k in
      let parts = and_parts (is_zero a.vocab) _ h in
      let lists = and_parts (list_all is_zero a.conds) (list_all is_zero a.pairs) parts.1 in
      ap (λ (b : Bool). after (if b then [] else Noted k ∷ [])
      (as_steps (performed (passes game.db s a) game noun a s))) h
      ∙ ap (λ (b : Bool). after [] (as_steps (performed b game noun a s)))
      (conditions_hold game.db s a.conds lists.0)
      ∙ ap₂ (λ more t. after [] (as_steps (ran_to more t))) (no_more a.pairs lists.1)
      (nothing_done a.pairs lists.1 (parameters a) s)

  -- a tail of such lines does nothing
  pub zero_tail : (ks : List ℕ) → tried_of game.db ks ≡ [] → (s : State)
      → tail_tried game noun ks s ≡ traced [] (goes_on s)
  zero_tail [] h s = refl
  zero_tail (k ∷ ks) h s =
      by (is_zero_action (action_at game.db k)) refl h (zero_tail ks) where
        by : (zeros : Bool) → is_zero_action (action_at game.db k) ≡ zeros
            → cond (not zeros) (k ∷ tried_of game.db ks) (tried_of game.db ks) ≡ []
            → (tried_of game.db ks ≡ [] → (s : State)
            → tail_tried game noun ks s ≡ traced [] (goes_on s))
            → tail_tried game noun (k ∷ ks) s ≡ traced [] (goes_on s)
        by true own h more =
            ap (λ t. and_then (traced t.events (outcome_of t.value)) (tail_tried game noun ks))
            (zero_line k s own) ∙ ap (λ t. after [] t) (more h s)
        by false own h more = cc

  -- a line that passes goes on as it says
  pub passed_is : (k : ℕ) (s : State) (more : Bool)
      → (try_action game noun k s).value.ran ≡ Passed more
      → goes_on_after (action_at game.db k) ≡ more
  passed_is k s more h =
      by (action_at game.db k) (passes game.db s (action_at game.db k)) h where
        from : (b : Bool) (over : Option ℕ) → ran_of over b ≡ Passed more → b ≡ more
        from b None h = cc
        from b (Some ending) h = cc

        by : (a : Action) (b : Bool) → (performed b game noun a s).value.ran ≡ Passed more
            → goes_on_after a ≡ more
        by a true h = from (goes_on_after a)
            (run_opcodes game noun (map opcode_of (opcode_numbers a)) (parameters a) s).value.over h
        by a false h = cc
