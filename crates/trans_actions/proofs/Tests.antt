-- The routines of conditions meet their specifications.
use Rattle.std.proofs.Common.{◌≡◌, ◌∙◌, arith, ℕ, ◌<◌, ◌≤◌, ◌+◌, ◌*◌, pos, nat_eq, nat_lt, Bool, true, false, not, List, [], ◌∷◌, length, codes, Some, refl, sym, ap₂, subst}
use Rattle.std.specs.Fmt.{digits}
use Rattle.std.specs.List.{list_any}
use Rattle.inform_tree.specs.declared.conditions.Relation.TheVariants.{Eq, Lt, Ge}
use Rattle.inform_tree.specs.Values as v
use Rattle.inform_tree.specs.Conditions as c
use Rattle.inform_tree.specs.Conditions.{Condition}
use Rattle.inform_tree.specs.Statements.{Statements, NoStatements, MoreStatements, If, Rtrue, Rfalse}
use Rattle.inform_meaning.specs.Tables.{found}
use Rattle.inform_meaning.specs.Worlds.{Program, Scope}
use Rattle.inform_meaning.specs.Frames.{Returns}
use Rattle.inform_logic.specs.Stages.{Stage}
use Rattle.inform_logic.specs.Leading.{Does, Tests, Runs, by_return}
use Rattle.inform_logic.proofs.Words.{eq_is, ne_is, ge_is}
use Rattle.inform_logic.proofs.Values.{within, valued, number, local, global, entry, call, argument, called}
use Rattle.inform_logic.proofs.Words.{small_number}
use Rattle.inform_logic.proofs.Conditions.{compare, nonzero, negated, all_of, all_hold, one_holds, one_fails, any_of, none_holds, this_holds, this_fails}
use Rattle.inform_logic.proofs.Statements.{end, next, returns, return_true, return_false, if_true, if_false}
use Rattle.inform_logic.proofs.Routines.{does_within, routine}
use Rattle.inform_codes.specs.Grown.{body_of}
use Rattle.scott_types.specs.declared.states.State.{State}
use Rattle.scott_types.specs.declared.styles.Style.{Style}
use Rattle.scott_types.specs.Database.{Database}
use Rattle.scott_types.specs.Condition.{condition_of}
use Rattle.scott_types.specs.State.{place_of, is_near, flag_of, carried_count}
use Rattle.scott_rules.specs.Conditions.{start_place, holds}
use Rattle.trans_specs.specs.Tables.{bit}
use Rattle.trans_specs.specs.Steps.{share}
use Rattle.trans_specs.specs.Names.{condition_name}
use Rattle.trans_specs.specs.Standing.{StandsFor}
use Rattle.trans_specs.proofs.Room.{one_less}
use Rattle.trans_specs.proofs.Entries.{bit_tells, place_at}
use Rattle.trans_actions.specs.declared.table.Kind.TheVariants as kinds
use Rattle.trans_actions.specs.Names.{action_names}
use Rattle.trans_actions.specs.Helpers.{uses}
use Rattle.trans_actions.proofs.Known.{Known, condition_there}
use Rattle.trans_actions.proofs.ByNumber.{AllFrom}
use Rattle.trans_actions.proofs.Stored.{is_less, is_more, not_more, not_less, flag_at, flag_beyond, place_beyond, start_at, start_beyond, at_most_is, few_items}

-- ---- `if (..) rtrue; rfalse;`

abbrev telling : Condition → Statements
telling test = MoreStatements (If test (MoreStatements Rtrue NoStatements) NoStatements)
    (MoreStatements Rfalse NoStatements)

tells : {p : Program} {d : ℕ} {test : Condition} {scope : Scope} {w w' : Stage} {b : Bool} {n : ℕ}
    → Tests p d test scope w b w' n
    → Runs p d (telling test) scope w (Returns (pos (bit b))) scope w' (n + 3)
tells {b = true} t = within (omega arith) (returns (if_true t (returns return_true)))
tells {b = false} t = within (omega arith) (next (if_false t end) (returns return_false))

-- ---- each condition

-- so many calls may be opened where a helper of a line is called
abbrev pub helper_room : ℕ
helper_room = 110

abbrev pub condition_steps : Database → ℕ
condition_steps db = 4 * share db

-- where a line has the condition, its routine gives 1 where it holds and else 0
abbrev pub ConditionSpec : Database → Program → ℕ → Type 0
ConditionSpec db p code = list_any (uses kinds.Condition db) (code ∷ []) ≡ true → (a : ℕ) (s : State)
    (noun : List ℕ) (w : Stage) (d : ℕ) → helper_room ≤ d → StandsFor db s noun w
    → Does p d (condition_name code) (pos a ∷ []) w
    (pos (bit (holds db s a (condition_of code)))) w (condition_steps db)

module _ {style : Style} {db : Database} {p : Program} (known : Known style db p) where
  cond_1 : ConditionSpec db p 1
  unfolding body_of action_names digits
  cond_1 used a s noun w d room stands = one_less (λ d. Does p d (condition_name 1) (pos a ∷ [])
      w (pos (bit (holds db s a (condition_of 1)))) w (condition_steps db)) 109 d room
      (λ k few. does_within (omega arith) (routine (condition_there known 0 used) (tells
      (compare (call (argument (local refl) (called (known.helpers.places a s noun w k
      (omega (arith, few)) stands)))) number (eq_is (place_of s a) 255))) by_return))

  cond_2 : ConditionSpec db p 2
  unfolding body_of action_names digits
  cond_2 used a s noun w d room stands = one_less (λ d. Does p d (condition_name 2) (pos a ∷ [])
      w (pos (bit (holds db s a (condition_of 2)))) w (condition_steps db)) 109 d room
      (λ k few. does_within (omega arith) (routine (condition_there known 1 used) (tells
      (compare (call (argument (local refl) (called (known.helpers.places a s noun w k
      (omega (arith, few)) stands)))) (global refl stands.ready.shows.room_is)
      (eq_is (place_of s a) s.room))) by_return))

  cond_3 : ConditionSpec db p 3
  unfolding body_of action_names digits
  cond_3 used a s noun w d room stands = one_less (λ d. Does p d (condition_name 3) (pos a ∷ [])
      w (pos (bit (holds db s a (condition_of 3)))) w (condition_steps db)) 109 d room
      (λ k few. does_within (omega arith) (routine (condition_there known 2 used) (tells
      (nonzero (call (argument (local refl) (called (known.helpers.near_items a s noun w k
      (omega (arith, few)) stands)))) (bit_tells (is_near s a)))) by_return))

  cond_4 : ConditionSpec db p 4
  unfolding body_of action_names digits
  cond_4 used a s noun w d room stands = one_less (λ d. Does p d (condition_name 4) (pos a ∷ [])
      w (pos (bit (holds db s a (condition_of 4)))) w (condition_steps db)) 109 d room
      (λ k few. does_within (omega arith) (routine (condition_there known 3 used) (tells
      (compare (global refl stands.ready.shows.room_is) (local refl) (eq_is s.room a))) by_return))

  cond_5 : ConditionSpec db p 5
  unfolding body_of action_names digits
  cond_5 used a s noun w d room stands = one_less (λ d. Does p d (condition_name 5) (pos a ∷ [])
      w (pos (bit (holds db s a (condition_of 5)))) w (condition_steps db)) 109 d room
      (λ k few. does_within (omega arith) (routine (condition_there known 4 used) (tells
      (compare (call (argument (local refl) (called (known.helpers.places a s noun w k
      (omega (arith, few)) stands)))) (global refl stands.ready.shows.room_is)
      (ne_is (place_of s a) s.room))) by_return))

  cond_6 : ConditionSpec db p 6
  unfolding body_of action_names digits
  cond_6 used a s noun w d room stands = one_less (λ d. Does p d (condition_name 6) (pos a ∷ [])
      w (pos (bit (holds db s a (condition_of 6)))) w (condition_steps db)) 109 d room
      (λ k few. does_within (omega arith) (routine (condition_there known 5 used) (tells
      (compare (call (argument (local refl) (called (known.helpers.places a s noun w k
      (omega (arith, few)) stands)))) number (ne_is (place_of s a) 255))) by_return))

  cond_7 : ConditionSpec db p 7
  unfolding body_of action_names digits
  cond_7 used a s noun w d room stands = one_less (λ d. Does p d (condition_name 7) (pos a ∷ [])
      w (pos (bit (holds db s a (condition_of 7)))) w (condition_steps db)) 109 d room
      (λ k few. does_within (omega arith) (routine (condition_there known 6 used) (tells
      (compare (global refl stands.ready.shows.room_is) (local refl) (ne_is s.room a))) by_return))

  cond_10 : ConditionSpec db p 10
  unfolding body_of action_names digits
  cond_10 used a s noun w d room stands = one_less (λ d. Does p d (condition_name 10) (pos a ∷ [])
      w (pos (bit (holds db s a (condition_of 10)))) w (condition_steps db)) 109 d room
      (λ k few. does_within (omega arith) (routine (condition_there known 9 used) (tells
      (compare (call (called (known.helpers.carried_items s noun w k (omega (arith, few)) stands)))
      number refl)) by_return))

  cond_11 : ConditionSpec db p 11
  unfolding body_of action_names digits
  cond_11 used a s noun w d room stands = one_less (λ d. Does p d (condition_name 11) (pos a ∷ [])
      w (pos (bit (holds db s a (condition_of 11)))) w (condition_steps db)) 109 d room
      (λ k few. does_within (omega arith) (routine (condition_there known 10 used) (tells
      (compare (call (called (known.helpers.carried_items s noun w k (omega (arith, few)) stands)))
      number (eq_is (carried_count s) 0))) by_return))

  cond_12 : ConditionSpec db p 12
  unfolding body_of action_names digits
  cond_12 used a s noun w d room stands = one_less (λ d. Does p d (condition_name 12) (pos a ∷ [])
      w (pos (bit (holds db s a (condition_of 12)))) w (condition_steps db)) 109 d room
      (λ k few. does_within (omega arith) (routine (condition_there known 11 used) (tells
      (negated (nonzero (call (argument (local refl) (called
      (known.helpers.near_items a s noun w k (omega (arith, few)) stands))))
      (bit_tells (is_near s a))))) by_return))

  cond_13 : ConditionSpec db p 13
  unfolding body_of action_names digits
  cond_13 used a s noun w d room stands = one_less (λ d. Does p d (condition_name 13) (pos a ∷ [])
      w (pos (bit (holds db s a (condition_of 13)))) w (condition_steps db)) 109 d room
      (λ k few. does_within (omega arith) (routine (condition_there known 12 used) (tells
      (compare (call (argument (local refl) (called (known.helpers.places a s noun w k
      (omega (arith, few)) stands)))) number (ne_is (place_of s a) 0))) by_return))

  cond_14 : ConditionSpec db p 14
  unfolding body_of action_names digits
  cond_14 used a s noun w d room stands = one_less (λ d. Does p d (condition_name 14) (pos a ∷ [])
      w (pos (bit (holds db s a (condition_of 14)))) w (condition_steps db)) 109 d room
      (λ k few. does_within (omega arith) (routine (condition_there known 13 used) (tells
      (compare (call (argument (local refl) (called (known.helpers.places a s noun w k
      (omega (arith, few)) stands)))) number (eq_is (place_of s a) 0))) by_return))

  cond_15 : ConditionSpec db p 15
  unfolding body_of action_names digits
  cond_15 used a s noun w d room stands = one_less (λ d. Does p d (condition_name 15) (pos a ∷ [])
      w (pos (bit (holds db s a (condition_of 15)))) w (condition_steps db)) 109 d room
      (λ k few. does_within (omega arith) (routine (condition_there known 14 used) (tells
      (compare (global refl stands.ready.shows.counter_is) (local refl) (at_most_is s.counter a)))
      by_return))

  cond_16 : ConditionSpec db p 16
  unfolding body_of action_names digits
  cond_16 used a s noun w d room stands = one_less (λ d. Does p d (condition_name 16) (pos a ∷ [])
      w (pos (bit (holds db s a (condition_of 16)))) w (condition_steps db)) 109 d room
      (λ k few. does_within (omega arith) (routine (condition_there known 15 used) (tells
      (compare (global refl stands.ready.shows.counter_is) (local refl) refl)) by_return))

  cond_19 : ConditionSpec db p 19
  unfolding body_of action_names digits
  cond_19 used a s noun w d room stands = one_less (λ d. Does p d (condition_name 19) (pos a ∷ [])
      w (pos (bit (holds db s a (condition_of 19)))) w (condition_steps db)) 109 d room
      (λ k few. does_within (omega arith) (routine (condition_there known 18 used) (tells
      (compare (global refl stands.ready.shows.counter_is) (local refl) refl)) by_return))

  -- ---- flags, and where items began

  -- `(a < 32) && (flag-->a)`
  abbrev is_set : Condition
  is_set = c.All (c.MoreConditions (c.Compare Lt (v.Name (codes "a")) (v.Number 32))
      (c.MoreConditions (c.Nonzero (v.Entry (codes "flag") true (v.Name (codes "a"))))
      c.NoConditions))

  -- `(a >= items) || (item-->a == start-->a)`
  abbrev at_start : Condition
  at_start = c.Any (c.MoreConditions (c.Compare Ge (v.Name (codes "a"))
      (v.Number (length db.items))) (c.MoreConditions (c.Compare Eq
      (v.Entry (codes "item") true (v.Name (codes "a")))
      (v.Entry (codes "start") true (v.Name (codes "a")))) c.NoConditions))

  module _ (a : ℕ) (s : State) (noun : List ℕ) (w : Stage) (d : ℕ)
      (stands : StandsFor db s noun w) (scope : Scope)
      (argument_is : found (codes "a") scope.locals ≡ Some (pos a)) where
    flag_tested : Tests p d is_set scope w (flag_of s a) w 0
    flag_tested = by (nat_lt a 32) refl where
      by : (b : Bool) → nat_lt a 32 ≡ b → Tests p d is_set scope w (flag_of s a) w 0
      by true less = inner (flag_of s a) refl where
        there : a < length s.flags
        there = omega (arith, is_less a 32 less, stands.ready.fits.flags)

        inner : (b : Bool) → flag_of s a ≡ b → Tests p d is_set scope w b w 0
        inner true on = all_of (one_holds (compare (local argument_is) number less)
            (one_holds (nonzero (entry (local argument_is) stands.ready.shows.flags_are
            (flag_at s.flags a there)) (bit_tells (flag_of s a) ∙ on)) all_hold))
        inner false off = all_of (one_holds (compare (local argument_is) number less)
            (one_fails (nonzero (entry (local argument_is) stands.ready.shows.flags_are
            (flag_at s.flags a there)) (bit_tells (flag_of s a) ∙ off))))
      by false more = subst (λ b. Tests p d is_set scope w b w 0)
          (sym (flag_beyond s.flags a (omega (arith, is_more a 32 more, stands.ready.fits.flags))))
          (all_of (one_fails (compare (local argument_is) number more)))

    start_tested : Tests p d at_start scope w (nat_eq (place_of s a) (start_place db a)) w 0
    start_tested = by (not (nat_lt a (length db.items))) refl where
      by : (b : Bool) → not (nat_lt a (length db.items)) ≡ b
          → Tests p d at_start scope w (nat_eq (place_of s a) (start_place db a)) w 0
      by true more = subst (λ b. Tests p d at_start scope w b w 0) (sym both_zero)
          (any_of (this_holds (compare (local argument_is)
          (valued (small_number p.width (few_items db known.limits)) number)
          (ge_is a (length db.items) ∙ more)))) where
            beyond : length db.items ≤ a
            beyond = not_more a (length db.items) more

            both_zero : nat_eq (place_of s a) (start_place db a) ≡ true
            both_zero = ap₂ nat_eq (place_beyond s.places.items a
                (omega (arith, beyond, stands.ready.fits.places.count)))
                (start_beyond db a beyond)
      by false less = inner (nat_eq (place_of s a) (start_place db a)) refl where
        there : a < length db.items
        there = not_less a (length db.items) less

        inner : (b : Bool) → nat_eq (place_of s a) (start_place db a) ≡ b
            → Tests p d at_start scope w b w 0
        inner true is = any_of (this_fails (compare (local argument_is)
            (valued (small_number p.width (few_items db known.limits)) number)
            (ge_is a (length db.items) ∙ less))
            (this_holds (compare (entry (local argument_is) stands.ready.shows.places_are
            (place_at s.places.items stands.ready.shows.guard a
            (omega (arith, there, stands.ready.fits.places.count))))
            (entry (local argument_is) stands.ready.tables.start_is (start_at db a there))
            (eq_is (place_of s a) (start_place db a) ∙ is))))
        inner false is = any_of (this_fails (compare (local argument_is)
            (valued (small_number p.width (few_items db known.limits)) number)
            (ge_is a (length db.items) ∙ less))
            (this_fails (compare (entry (local argument_is) stands.ready.shows.places_are
            (place_at s.places.items stands.ready.shows.guard a
            (omega (arith, there, stands.ready.fits.places.count))))
            (entry (local argument_is) stands.ready.tables.start_is (start_at db a there))
            (eq_is (place_of s a) (start_place db a) ∙ is)) none_holds))

  cond_8 : ConditionSpec db p 8
  unfolding body_of action_names digits
  cond_8 used a s noun w d room stands = one_less (λ d. Does p d (condition_name 8) (pos a ∷ [])
      w (pos (bit (holds db s a (condition_of 8)))) w (condition_steps db)) 109 d room
      (λ k few. does_within (omega arith) (routine (condition_there known 7 used) (tells
      (flag_tested a s noun w k stands _ refl)) by_return))

  cond_9 : ConditionSpec db p 9
  unfolding body_of action_names digits
  cond_9 used a s noun w d room stands = one_less (λ d. Does p d (condition_name 9) (pos a ∷ [])
      w (pos (bit (holds db s a (condition_of 9)))) w (condition_steps db)) 109 d room
      (λ k few. does_within (omega arith) (routine (condition_there known 8 used) (tells
      (negated (flag_tested a s noun w k stands _ refl))) by_return))

  cond_17 : ConditionSpec db p 17
  unfolding body_of action_names digits
  cond_17 used a s noun w d room stands = one_less (λ d. Does p d (condition_name 17) (pos a ∷ [])
      w (pos (bit (holds db s a (condition_of 17)))) w (condition_steps db)) 109 d room
      (λ k few. does_within (omega arith) (routine (condition_there known 16 used) (tells
      (start_tested a s noun w k stands _ refl)) by_return))

  cond_18 : ConditionSpec db p 18
  unfolding body_of action_names digits
  cond_18 used a s noun w d room stands = one_less (λ d. Does p d (condition_name 18) (pos a ∷ [])
      w (pos (bit (holds db s a (condition_of 18)))) w (condition_steps db)) 109 d room
      (λ k few. does_within (omega arith) (routine (condition_there known 17 used) (tells
      (negated (start_tested a s noun w k stands _ refl))) by_return))

  -- ---- all of them, by their numbers

  -- the routine of each condition from 1 to 19 meets its specification
  pub condition_specs : AllFrom (ConditionSpec db p) 1 19
  condition_specs = (
    cond_1,
    (
      cond_2,
      (
        cond_3,
        (
          cond_4,
          (
            cond_5,
            (
              cond_6,
              (
                cond_7,
                (
                  cond_8,
                  (
                    cond_9,
                    (
                      cond_10,
                      (
                        cond_11,
                        (
                          cond_12,
                          (
                            cond_13,
                            (
                              cond_14,
                              (
                                cond_15,
                                (
                                  cond_16,
                                  (
                                    cond_17,
                                    (cond_18, (cond_19, tt)),
                                  ),
                                ),
                              ),
                            ),
                          ),
                        ),
                      ),
                    ),
                  ),
                ),
              ),
            ),
          ),
        ),
      ),
    ),
  )
