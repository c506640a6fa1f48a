-- What holds of the routines of conditions and opcodes that are there.
use Rattle.std.proofs.Common.{◌≡◌, ◌≢◌, ◌∙◌, ◌&&◌, ℕ, ℤ, pos, negsuc, Bool, true, false, not, cond, List, [], ◌∷◌, ◌++◌, map, filter, bytes_eq, refl, sym, ap, subst, true≢false}
use Rattle.std.specs.List.{AllByRecursion, list_all, list_any}
use Rattle.std.proofs.lemmas.Bool.{and_parts}
use Rattle.std.proofs.lemmas.List.{map-append}
use Rattle.std.proofs.lemmas.Slice.Eq.{bytes_eq-Decides}
use Rattle.inform_tree.specs.Programs.{DirectiveTree, Routine}
use Rattle.inform_names.specs.Meanings.{name_of}
use Rattle.inform_logic.specs.Holding.{Distinct}
use Rattle.inform_codes.specs.Codes.{name_in}
use Rattle.inform_codes.specs.Routines.{Row, row_routine, rows_directives}
use Rattle.scott_types.specs.declared.styles.Style.{Style}
use Rattle.scott_types.specs.Database.{Database}
use Rattle.trans_specs.proofs.Lists.{of_both}
use Rattle.trans_actions.specs.declared.table.Kind.TheVariants.{Condition, Opcode}
use Rattle.trans_actions.specs.Names.{action_names, numbers}
use Rattle.trans_actions.specs.Helpers.{Helper, conditions, opcodes, refill, uses, used_rows, helper_directives}

-- ---- those of a table that are used

module _ (names : List (List ℕ)) (given : List ℕ) (P : DirectiveTree → Type 0) where
  -- what holds of each that is used
  abbrev pub OfUsed : (ℕ → Bool) → Helper → Type 0
  OfUsed test h = list_any test h.0 ≡ true → P (Routine (row_routine names given h.1))

  pub each_used : (test : ℕ → Bool) (hs : List Helper) → AllByRecursion (OfUsed test) hs
      → AllByRecursion P (rows_directives names given (used_rows test hs))
  each_used test [] all = tt
  each_used test (h ∷ hs) all = by (list_any test h.0) refl (each_used test hs all.1) where
    by : (b : Bool) → list_any test h.0 ≡ b
        → AllByRecursion P (rows_directives names given (used_rows test hs))
        → AllByRecursion P (rows_directives names given (map (λ h. h.1)
        (cond b (h ∷ filter (λ h. list_any test h.0) hs) (filter (λ h. list_any test h.0) hs))))
    by true is more = (all.0 is, more)
    by false is more = more

  -- and back: what holds of all that are there holds of each that is used
  pub of_used : (test : ℕ → Bool) (hs : List Helper)
      → AllByRecursion P (rows_directives names given (used_rows test hs))
      → AllByRecursion (OfUsed test) hs
  of_used test [] all = tt
  of_used test (h ∷ hs) all = by (list_any test h.0) refl all (of_used test hs) where
    by : (b : Bool) → list_any test h.0 ≡ b
        → AllByRecursion P (rows_directives names given (map (λ h. h.1)
        (cond b (h ∷ filter (λ h. list_any test h.0) hs) (filter (λ h. list_any test h.0) hs))))
        → (AllByRecursion P (rows_directives names given (used_rows test hs))
        → AllByRecursion (OfUsed test) hs)
        → AllByRecursion (OfUsed test) (h ∷ hs)
    by true is all more = (λ used. all.0, more all.1)
    by false is all more = (λ used. absurd (true≢false (sym used ∙ is)), more all)

  pub both_rows : (xs ys : List Row) → AllByRecursion P (rows_directives names given xs)
      → AllByRecursion P (rows_directives names given ys)
      → AllByRecursion P (rows_directives names given (xs ++ ys))
  both_rows [] ys h k = k
  both_rows (x ∷ xs) ys h k = (h.0, both_rows xs ys h.1 k)

  pub first_rows : (xs ys : List Row) → AllByRecursion P (rows_directives names given (xs ++ ys))
      → AllByRecursion P (rows_directives names given xs)
  first_rows [] ys h = tt
  first_rows (x ∷ xs) ys h = (h.0, first_rows xs ys h.1)

  pub last_rows : (xs ys : List Row) → AllByRecursion P (rows_directives names given (xs ++ ys))
      → AllByRecursion P (rows_directives names given ys)
  last_rows [] ys h = h
  last_rows (x ∷ xs) ys h = last_rows xs ys h.1

-- ---- all that are there

module _ (style : Style) (db : Database) (P : DirectiveTree → Type 0) where
  abbrev pub OfKind : (ℕ → Bool) → Helper → Type 0
  OfKind = OfUsed (action_names style) (numbers db) P

  -- what holds of each that is used
  pub record EachUsed : Type 0 where
    pub conditions : AllByRecursion (OfKind (uses Condition db)) conditions
    pub opcodes : AllByRecursion (OfKind (uses Opcode db)) opcodes
    pub refill : AllByRecursion (OfKind (uses Opcode db)) (refill db.header.light)

  abbrev used_conditions : List Row
  used_conditions = used_rows (uses Condition db) conditions

  abbrev used_opcodes : List Row
  used_opcodes = used_rows (uses Opcode db) opcodes

  abbrev used_refill : List Row
  used_refill = used_rows (uses Opcode db) (refill db.header.light)

  pub each_helper : EachUsed → AllByRecursion P (helper_directives style db)
  each_helper h = let names = action_names style in let given = numbers db in
      both_rows names given P used_conditions (used_opcodes ++ used_refill)
      (each_used names given P (uses Condition db) conditions h.conditions)
      (both_rows names given P used_opcodes used_refill
      (each_used names given P (uses Opcode db) opcodes h.opcodes)
      (each_used names given P (uses Opcode db) (refill db.header.light) h.refill))

  -- what holds of all these directives holds of each routine of a table that is used
  pub of_helpers : AllByRecursion P (helper_directives style db) → EachUsed
  of_helpers h = let names = action_names style in let given = numbers db in
      let others = last_rows names given P used_conditions
      (used_opcodes ++ used_refill) h in record {
        conditions = of_used names given P (uses Condition db) conditions
            (first_rows names given P used_conditions (used_opcodes ++ used_refill) h);
        opcodes = of_used names given P (uses Opcode db) opcodes
            (first_rows names given P used_opcodes used_refill others);
        refill = of_used names given P (uses Opcode db) (refill db.header.light)
            (last_rows names given P used_opcodes used_refill others);
      }

-- ---- by a test of each of a table

-- the name of the routine
abbrev pub named : Style → Helper → List ℕ
named style h = name_in (action_names style) h.1.0

pub each_by : (style : Style) (db : Database) (P : DirectiveTree → Type 0) (test : ℕ → Bool)
    (passes : Helper → Bool) → ((h : Helper) → passes h ≡ true
    → P (Routine (row_routine (action_names style) (numbers db) h.1))) → (hs : List Helper)
    → list_all passes hs ≡ true → AllByRecursion (OfKind style db P test) hs
each_by style db P test passes by [] all = tt
each_by style db P test passes by (h ∷ hs) all = (
  λ used. by h (and_parts (passes h) (list_all passes hs) all).0,
  each_by style db P test passes by hs (and_parts (passes h) (list_all passes hs) all).1,
)

-- ---- no two of one name

-- another name than this
abbrev pub is_other : List ℕ → List ℕ → Bool
is_other name other = not (bytes_eq name other)

other_name : (name other : List ℕ) → is_other name other ≡ true → name ≢ other
other_name name other h same =
    true≢false (sym h ∙ ap not ((bytes_eq-Decides name other).1 same))

module _ (style : Style) (db : Database) where
  abbrev apart_from : List ℕ → List Helper → Bool
  apart_from name hs = list_all (λ h. is_other name (named style h)) hs

  abbrev are_apart : List Helper → Bool
  are_apart [] = true
  are_apart (h ∷ hs) = apart_from (named style h) hs && are_apart hs

  module _ (test : ℕ → Bool) where
    abbrev directives : List Helper → List DirectiveTree
    directives hs = rows_directives (action_names style) (numbers db) (used_rows test hs)

    -- those that are there have other names than this
    others : (name : List ℕ) (hs : List Helper) → apart_from name hs ≡ true
        → AllByRecursion (λ y. name ≢ name_of y) (directives hs)
    others name hs apart = each_used (action_names style) (numbers db) (λ y. name ≢ name_of y) test
        hs (each_by style db (λ y. name ≢ name_of y) test (λ h. is_other name (named style h))
        (λ h is. other_name name (named style h) is) hs apart)

    distinct_used : (hs : List Helper) → are_apart hs ≡ true → Distinct (directives hs)
    distinct_used [] apart = tt
    distinct_used (h ∷ hs) apart = by (list_any test h.0) parts.0 (distinct_used hs parts.1) where
      parts : (apart_from (named style h) hs ≡ true) × (are_apart hs ≡ true)
      parts = and_parts (apart_from (named style h) hs) (are_apart hs) apart

      by : (b : Bool) → apart_from (named style h) hs ≡ true → Distinct (directives hs)
          → Distinct (rows_directives (action_names style) (numbers db) (map (λ h. h.1)
          (cond b (h ∷ filter (λ h. list_any test h.0) hs)
          (filter (λ h. list_any test h.0) hs))))
      by true own more = (others (named style h) hs own, more)
      by false own more = more

  -- two lists of which no two have one name
  pub joined_distinct : (xs ys : List DirectiveTree)
      → AllByRecursion (λ x. AllByRecursion (λ y. name_of x ≢ name_of y) ys) xs → Distinct xs
      → Distinct ys → Distinct (xs ++ ys)
  joined_distinct [] ys apart own rest = rest
  joined_distinct (x ∷ xs) ys apart own rest = (
    of_both (λ y. name_of x ≢ name_of y) xs ys own.0 apart.0,
    joined_distinct xs ys apart.1 own.1 rest,
  )

  -- each of one table has another name than each of another
  abbrev tables_apart : List Helper → List Helper → Bool
  tables_apart hs ks = list_all (λ h. apart_from (named style h) ks) hs

  between : (test other : ℕ → Bool) (hs ks : List Helper) → tables_apart hs ks ≡ true
      → AllByRecursion (λ x. AllByRecursion (λ y. name_of x ≢ name_of y) (directives other ks))
      (directives test hs)
  between test other hs ks apart = let
      P : DirectiveTree → Type 0 =
      λ x. AllByRecursion (λ y. name_of x ≢ name_of y) (directives other ks) in
      each_used (action_names style) (numbers db) P test hs (each_by style db P test
      (λ h. apart_from (named style h) ks) (λ h is. others other (named style h) ks is) hs apart)

-- ---- of these tables

conditions_apart : (style : Style) (db : Database) → are_apart style db conditions ≡ true
unfolding action_names
conditions_apart style db = refl

opcodes_apart : (style : Style) (db : Database) → are_apart style db opcodes ≡ true
unfolding action_names
opcodes_apart style db = refl

refill_apart : (style : Style) (db : Database) (light : ℤ)
    → are_apart style db (refill light) ≡ true
unfolding action_names
refill_apart style db (pos n) = refl
refill_apart style db (negsuc n) = refl

conditions_others : (style : Style) (db : Database)
    → tables_apart style db conditions opcodes ≡ true
unfolding action_names
conditions_others style db = refl

conditions_refill : (style : Style) (db : Database) (light : ℤ)
    → tables_apart style db conditions (refill light) ≡ true
unfolding action_names
conditions_refill style db (pos n) = refl
conditions_refill style db (negsuc n) = refl

opcodes_refill : (style : Style) (db : Database) (light : ℤ)
    → tables_apart style db opcodes (refill light) ≡ true
unfolding action_names
opcodes_refill style db (pos n) = refl
opcodes_refill style db (negsuc n) = refl

-- the routines of conditions and opcodes have distinct names
pub helpers_distinct : (style : Style) (db : Database) → Distinct (helper_directives style db)
helpers_distinct style db = subst Distinct (sym all_are) (joined_distinct style db first
    (second ++ third)
    (both_apart first second third (between style db (uses Condition db) (uses Opcode db) conditions
    opcodes (conditions_others style db)) (between style db (uses Condition db) (uses Opcode db)
    conditions (refill light) (conditions_refill style db light)))
    (distinct_used style db (uses Condition db) conditions (conditions_apart style db))
    (joined_distinct style db second third (between style db (uses Opcode db) (uses Opcode db)
    opcodes (refill light) (opcodes_refill style db light))
    (distinct_used style db (uses Opcode db) opcodes (opcodes_apart style db))
    (distinct_used style db (uses Opcode db) (refill light) (refill_apart style db light)))) where
      light : ℤ
      light = db.header.light

      first : List DirectiveTree
      first = directives style db (uses Condition db) conditions

      second : List DirectiveTree
      second = directives style db (uses Opcode db) opcodes

      third : List DirectiveTree
      third = directives style db (uses Opcode db) (refill db.header.light)

      all_are : helper_directives style db
          ≡ directives style db (uses Condition db) conditions
          ++ (directives style db (uses Opcode db) opcodes
          ++ directives style db (uses Opcode db) (refill db.header.light))
      all_are = map-append (λ row. Routine (row_routine (action_names style) (numbers db) row))
          (used_rows (uses Condition db) conditions)
          (used_rows (uses Opcode db) opcodes ++ used_rows (uses Opcode db)
          (refill db.header.light))
          ∙ ap (λ rest. directives style db (uses Condition db) conditions ++ rest)
          (map-append (λ row. Routine (row_routine (action_names style) (numbers db) row))
          (used_rows (uses Opcode db) opcodes)
          (used_rows (uses Opcode db) (refill db.header.light)))

      both_apart : (xs ys zs : List DirectiveTree)
          → AllByRecursion (λ x. AllByRecursion (λ y. name_of x ≢ name_of y) ys) xs
          → AllByRecursion (λ x. AllByRecursion (λ y. name_of x ≢ name_of y) zs) xs
          → AllByRecursion (λ x. AllByRecursion (λ y. name_of x ≢ name_of y) (ys ++ zs)) xs
      both_apart [] ys zs h k = tt
      both_apart (x ∷ xs) ys zs h k =
          (of_both (λ y. name_of x ≢ name_of y) ys zs h.0 k.0, both_apart xs ys zs h.1 k.1)
