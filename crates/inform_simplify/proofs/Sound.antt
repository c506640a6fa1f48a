-- What a program shortens to is accepted and well formed where the program is.
use Rattle.std.proofs.Common.{◌≡◌, arith, ℕ, ◌+◌, ◌≤◌, Bool, true, false, List, Option, Some, None, refl, sym, subst}
use Rattle.std.specs.Prelude.{nat_lt, nat_le, map}
use Rattle.std.specs.Option.{option_or}
use Rattle.std.specs.Cmp.Derive.{both_true}
use Rattle.std.proofs.lemmas.Bool.Decides.{nat_tests}
use Rattle.inform_tree.specs.declared.widths.Width.{Width}
use Rattle.inform_tree.specs.declared.formed_programs.TheConstants.{DEPTH_LIMIT}
use Rattle.inform_tree.specs.Statements.{Statement, Statements, Cases, Default}
use Rattle.inform_tree.specs.Programs.{DirectiveTree}
use Rattle.inform_tree.specs.Depths.{statement_depth, statements_depth, cases_depth, default_depth}
use Rattle.inform_tree.specs.Formed.{is_formed_statement, are_formed_statements, are_formed_cases, is_formed_default, is_formed_directive, is_well_formed}
use Rattle.inform_names.specs.declared.enclosures.Enclosure.{Enclosure}
use Rattle.inform_names.specs.declared.limits.TheConstants.{DEEPEST}
use Rattle.inform_names.specs.Demands as q
use Rattle.inform_names.specs.Demands.{Demands, a_loop, no_loop, switch_in, statement_demands, statements_demands, cases_demands, default_demands}
use Rattle.inform_names.specs.Faults.{Fault, fault_if, too_deep}
use Rattle.inform_names.specs.Places.{Scope, first_fault, IsFine}
use Rattle.inform_names.specs.Meanings.{Known, meanings, directive_entries}
use Rattle.inform_names.specs.Acceptance.{routine_scope, directive_fault, directives_fault, main_fault}
use Rattle.inform_names.specs.Laws.{FaultlessPlacesAreFine}
use Rattle.inform_simplify.specs.Simplifying.{Shortens, nothing, each, cut, dropped, Becomes, leaf, in_block, if_true, if_false, if_either, if_open, in_while, in_do, in_for, in_switch, CasesShorten, no_cases, each_case, DefaultShortens, no_default, some_default, DirectiveShortens, constant, global, array, routine, ProgramShortens, no_directives, each_directive}
use Rattle.inform_simplify.specs.Laws.{but_for_body, ShortenedStaysSound}
use Rattle.inform_simplify.proofs.Plain.{both}
use Rattle.inform_simplify.proofs.Programs.{same_meanings}

module _ (width : Width) where
  -- ---- depths

  -- nothing gets deeper
  mutual
    shortens-depth : {xs xs' : Statements} → Shortens width xs xs'
        → statements_depth xs' ≤ statements_depth xs
    shortens-depth nothing = omega arith
    shortens-depth (each x x' xs xs' goes_on h k) = let here = becomes-depth h in
        let rest = shortens-depth k in omega (arith, here, rest)
    shortens-depth (cut x xs is) = omega arith
    shortens-depth (dropped x body xs xs' is k) = let rest = shortens-depth k in omega (arith, rest)

    becomes-depth : {x x' : Statement} → Becomes width x x'
        → statement_depth x' ≤ statement_depth x
    becomes-depth (leaf x is) = omega arith
    becomes-depth (in_block body body' h) = let inside = shortens-depth h in omega (arith, inside)
    becomes-depth (if_true x body other body' is h) = let inside = shortens-depth h in
        omega (arith, inside)
    becomes-depth (if_false x body other other' is h) = let inside = shortens-depth h in
        omega (arith, inside)
    becomes-depth (if_either x body other both is h k) = let inside = shortens-depth h in
        omega (arith, inside)
    becomes-depth (if_open x body other body' other' unknown h k) =
        let inside = shortens-depth h in let second = shortens-depth k in
        omega (arith, inside, second)
    becomes-depth (in_while x body body' entered h) = let inside = shortens-depth h in
        omega (arith, inside)
    becomes-depth (in_do body body' x h) = let inside = shortens-depth h in omega (arith, inside)
    becomes-depth (in_for first x change body body' h) = let inside = shortens-depth h in
        omega (arith, inside)
    becomes-depth (in_switch x xs xs' rest rest' h k) = let inside = cases-depth h in
        let last = default-depth k in omega (arith, inside, last)

    cases-depth : {xs xs' : Cases} → CasesShorten width xs xs' → cases_depth xs' ≤ cases_depth xs
    cases-depth no_cases = omega arith
    cases-depth (each_case choices body body' xs xs' h k) = let inside = shortens-depth h in
        let rest = cases-depth k in omega (arith, inside, rest)

    default-depth : {x x' : Default} → DefaultShortens width x x'
        → default_depth x' ≤ default_depth x
    default-depth no_default = omega arith
    default-depth (some_default body body' h) = shortens-depth h

  -- ---- places

  module _ (scope : Scope) where
    -- each place of what is left was a place of the program, with the same loops round it
    mutual
      shortens-fine : (e : Enclosure) {xs xs' : Statements} → Shortens width xs xs'
          → IsFine scope (statements_demands e xs) → IsFine scope (statements_demands e xs')
      shortens-fine e nothing fine = tt
      shortens-fine e (each x x' xs xs' goes_on h k) fine =
          (becomes-fine e h fine.0, shortens-fine e k fine.1)
      shortens-fine e (cut x xs is) fine = (fine.0, tt)
      shortens-fine e (dropped x body xs xs' is k) fine = shortens-fine e k fine.1

      becomes-fine : (e : Enclosure) {x x' : Statement} → Becomes width x x'
          → IsFine scope (statement_demands e x) → IsFine scope (statement_demands e x')
      becomes-fine e (leaf x is) fine = fine
      becomes-fine e (in_block body body' h) fine = shortens-fine e h fine
      becomes-fine e (if_true x body other body' is h) fine = shortens-fine e h fine.1.0
      becomes-fine e (if_false x body other other' is h) fine = shortens-fine e h fine.1.1
      becomes-fine e (if_either x body other both is h k) fine = shortens-fine e h fine.1.0
      becomes-fine e (if_open x body other body' other' unknown h k) fine =
          (fine.0, (shortens-fine e h fine.1.0, shortens-fine e k fine.1.1))
      becomes-fine e (in_while x body body' entered h) fine =
          (fine.0, shortens-fine a_loop h fine.1)
      becomes-fine e (in_do body body' x h) fine = (shortens-fine a_loop h fine.0, fine.1)
      becomes-fine e (in_for first x change body body' h) fine =
          (fine.0, shortens-fine a_loop h fine.1)
      becomes-fine e (in_switch x xs xs' rest rest' h k) fine =
          (fine.0, (cases-fine (switch_in e) h fine.1.0, default-fine (switch_in e) k fine.1.1))

      cases-fine : (e : Enclosure) {xs xs' : Cases} → CasesShorten width xs xs'
          → IsFine scope (cases_demands e xs) → IsFine scope (cases_demands e xs')
      cases-fine e no_cases fine = tt
      cases-fine e (each_case choices body body' xs xs' h k) fine =
          (fine.0, (shortens-fine e h fine.1.0, cases-fine e k fine.1.1))

      default-fine : (e : Enclosure) {x x' : Default} → DefaultShortens width x x'
          → IsFine scope (default_demands e x) → IsFine scope (default_demands e x')
      default-fine e no_default fine = tt
      default-fine e (some_default body body' h) fine = shortens-fine e h fine

  -- ---- forms

  -- and each part was a part of it
  mutual
    shortens-formed : {xs xs' : Statements} → Shortens width xs xs'
        → are_formed_statements xs ≡ true → are_formed_statements xs' ≡ true
    shortens-formed nothing is = refl
    shortens-formed (each x x' xs xs' goes_on h k) is = let parts = both _ _ is in
        both_true (becomes-formed h parts.0) (shortens-formed k parts.1)
    shortens-formed (cut x xs leaves) is = let parts = both _ _ is in both_true parts.0 refl
    shortens-formed (dropped x body xs xs' false_test k) is = let parts = both _ _ is in
        shortens-formed k parts.1

    becomes-formed : {x x' : Statement} → Becomes width x x'
        → is_formed_statement x ≡ true → is_formed_statement x' ≡ true
    becomes-formed (leaf x alone) is = is
    becomes-formed (in_block body body' h) is = shortens-formed h is
    becomes-formed (if_true x body other body' known h) is = let parts = both _ _ is in
        let lists = both _ _ parts.1 in shortens-formed h lists.0
    becomes-formed (if_false x body other other' known h) is = let parts = both _ _ is in
        let lists = both _ _ parts.1 in shortens-formed h lists.1
    becomes-formed (if_either x body other one plain h k) is = let parts = both _ _ is in
        let lists = both _ _ parts.1 in shortens-formed h lists.0
    becomes-formed (if_open x body other body' other' unknown h k) is = let parts = both _ _ is in
        let lists = both _ _ parts.1 in
        both_true parts.0 (both_true (shortens-formed h lists.0) (shortens-formed k lists.1))
    becomes-formed (in_while x body body' entered h) is = let parts = both _ _ is in
        both_true parts.0 (shortens-formed h parts.1)
    becomes-formed (in_do body body' x h) is = let parts = both _ _ is in
        both_true (shortens-formed h parts.0) parts.1
    becomes-formed (in_for first x change body body' h) is = let parts = both _ _ is in
        both_true parts.0 (shortens-formed h parts.1)
    becomes-formed (in_switch x xs xs' rest rest' h k) is = let parts = both _ _ is in
        let lists = both _ _ parts.1 in
        both_true parts.0 (both_true (cases-formed h lists.0) (default-formed k lists.1))

    cases-formed : {xs xs' : Cases} → CasesShorten width xs xs' → are_formed_cases xs ≡ true
        → are_formed_cases xs' ≡ true
    cases-formed no_cases is = refl
    cases-formed (each_case choices body body' xs xs' h k) is = let parts = both _ _ is in
        let lists = both _ _ parts.1 in
        both_true parts.0 (both_true (shortens-formed h lists.0) (cases-formed k lists.1))

    default-formed : {x x' : Default} → DefaultShortens width x x' → is_formed_default x ≡ true
        → is_formed_default x' ≡ true
    default-formed no_default is = refl
    default-formed (some_default body body' h) is = shortens-formed h is

  -- ---- directives

  shallow : (n n' limit : ℕ) → n' ≤ n → nat_le n limit ≡ true → nat_le n' limit ≡ true
  shallow n n' limit less is = grind (arith, nat_tests, less, is)

  directive-formed : {x x' : DirectiveTree} → DirectiveShortens width x x'
      → is_formed_directive x ≡ true → is_formed_directive x' ≡ true
  directive-formed (constant name value) is = is
  directive-formed (global name value) is = is
  directive-formed (array name words entries) is = is
  directive-formed (routine r body h) is = let parts = both _ _ is in
      let more = both _ _ parts.1 in let last = both _ _ more.1 in
      both_true parts.0 (both_true more.0 (both_true (shallow (statements_depth r.body)
      (statements_depth body) DEPTH_LIMIT (shortens-depth h) last.0)
      (shortens-formed h last.1)))

  program-formed : {xs xs' : List DirectiveTree} → ProgramShortens width xs xs'
      → is_well_formed xs ≡ true → is_well_formed xs' ≡ true
  program-formed no_directives is = refl
  program-formed (each_directive x x' xs xs' h k) is = let parts = both _ _ is in
      both_true (directive-formed h parts.0) (program-formed k parts.1)

  same_directives : {xs xs' : List DirectiveTree} → ProgramShortens width xs xs'
      → map but_for_body xs' ≡ map but_for_body xs
  same_directives no_directives = refl
  same_directives (each_directive x x' xs xs' h k) = rw (same h, same_directives k) where
    same : {x x' : DirectiveTree} → DirectiveShortens width x x'
        → but_for_body x' ≡ but_for_body x
    same (constant name value) = refl
    same (global name value) = refl
    same (array name words entries) = refl
    same (routine r body h) = refl

-- ---- faults

-- neither of two has a fault
neither : (x y : Option Fault) → option_or x y ≡ None → (x ≡ None) × (y ≡ None)
neither None y is = (refl, is)
neither (Some x) y is = absurd (cc)

nor : {x y : Option Fault} → x ≡ None → y ≡ None → option_or x y ≡ None
nor none is = rw (none, is)

faultless : (scope : Scope) (demands : Demands) → IsFine scope demands
    → first_fault scope demands ≡ None
faultless scope q.Nothing fine = refl
faultless scope (q.One demand) fine = fine
faultless scope (q.Both first rest) fine =
    nor (faultless scope first fine.0) (faultless scope rest fine.1)

not_deeper : (n n' : ℕ) (fault : Fault) → n' ≤ n → fault_if (nat_lt DEEPEST n) fault ≡ None
    → fault_if (nat_lt DEEPEST n') fault ≡ None
not_deeper n n' fault less is = by (nat_lt DEEPEST n) refl is where
  by : (deep : Bool) → nat_lt DEEPEST n ≡ deep → fault_if deep fault ≡ None
      → fault_if (nat_lt DEEPEST n') fault ≡ None
  by true deep is = absurd (cc)
  by false deep is = let shallow : nat_lt DEEPEST n' ≡ false = grind (arith, nat_tests, less, deep)
      in rw shallow

module _ (fine : FaultlessPlacesAreFine) (width : Width) (known : Known) where
  -- a routine has the same name and locals, and a body that is no deeper
  directive-faultless : (at total : ℕ) {x x' : DirectiveTree} → DirectiveShortens width x x'
      → directive_fault width known at total x ≡ None
      → directive_fault width known at total x' ≡ None
  directive-faultless at total (constant name value) none = none
  directive-faultless at total (global name value) none = none
  directive-faultless at total (array name words entries) none = none
  directive-faultless at total (routine r body h) none = let once = neither _ _ none in
      let inside = neither _ _ once.1 in let deep = neither _ _ inside.0 in
      let locals = neither _ _ deep.1 in let names = neither _ _ locals.1 in
      let places = neither _ _ names.1 in let scope = routine_scope width known r in
      nor once.0 (nor (nor (not_deeper (statements_depth r.body) (statements_depth body)
      (too_deep r.name) (shortens-depth width h) deep.0) (nor locals.0 (nor names.0
      (nor (faultless scope (statements_demands no_loop body)
      (shortens-fine width scope no_loop h
      (fine scope (statements_demands no_loop r.body) places.0))) refl)))) refl)

  same_entries : {x x' : DirectiveTree} → DirectiveShortens width x x'
      → directive_entries width known x' ≡ directive_entries width known x
  same_entries (constant name value) = refl
  same_entries (global name value) = refl
  same_entries (array name words entries) = refl
  same_entries (routine r body h) = refl

  directives-faultless : (at total : ℕ) {xs xs' : List DirectiveTree}
      → ProgramShortens width xs xs' → directives_fault width known at total xs ≡ None
      → directives_fault width known at total xs' ≡ None
  directives-faultless at total no_directives none = refl
  directives-faultless at total (each_directive x x' xs xs' h k) none =
      let parts = neither _ _ none in
      nor (directive-faultless at total h parts.0)
      (subst (λ n. directives_fault width known (at + 1) (total + n) xs' ≡ None)
      (sym (same_entries h))
      (directives-faultless (at + 1) (total + directive_entries width known x) k parts.1))

pub shortened_stays_sound : FaultlessPlacesAreFine → ShortenedStaysSound
shortened_stays_sound fine width old new h = record {
  accepted = λ none. let parts = neither _ _ none in
      subst (λ known. option_or (directives_fault width known 0 0 new) (main_fault known) ≡ None)
      (sym (same_meanings width old new h))
      (nor (directives-faultless fine width (meanings width old) 0 0 h parts.0) parts.1);
  formed = program-formed width h;
  directives = same_directives width h;
}
