-- The names of the routines of lines, and the lines among them.
use Rattle.std.proofs.Common.{◌≡◌, ◌≢◌, ◌∙◌, arith, ℕ, ℤ, pos, negsuc, nat_eq, Bool, true, not, ◌&&◌, List, ◌++◌, codes, refl, sym, ap, true≢false}
use Rattle.std.specs.List.{AllByRecursion, list_all, starts_with}
use Rattle.std.proofs.lemmas.Bool.{and_parts}
use Rattle.inform_tree.specs.Programs as d
use Rattle.inform_tree.specs.Programs.{DirectiveTree, Routine}
use Rattle.inform_names.specs.Meanings.{name_of}
use Rattle.inform_signature.proofs.Elements.{one_in, in_second}
use Rattle.scott_types.specs.declared.styles.Style.{Style}
use Rattle.scott_types.specs.Database.{Database}
use Rattle.trans_specs.specs.Names.{line_name}
use Rattle.trans_specs.specs.Shaped.{IsLine}
use Rattle.trans_specs.proofs.Lengths.{few}
use Rattle.trans_specs.proofs.Lists.{of_both, each_with}
use Rattle.trans_actions.specs.declared.table.Kind.TheVariants.{Condition, Opcode}
use Rattle.trans_actions.specs.Names.{action_names}
use Rattle.trans_actions.specs.Helpers.{conditions, opcodes, refill, uses, helper_directives}
use Rattle.trans_actions.specs.Directives.{line_directives}
use Rattle.trans_actions.specs.Parts.{is_action_name, ActionsAreNamed, ActionsAreDistinct, LinesAreThere, LinesAlone}
use Rattle.trans_actions.proofs.LinesIn.{line_is_in, each_line, lines_distinct}
use Rattle.trans_actions.proofs.UsedRows.{named, each_helper, each_by, joined_distinct, helpers_distinct}

-- ---- the names

abbrev is_line_name : List ℕ → Bool
is_line_name name = starts_with nat_eq name (codes "line_")

-- a name of these routines, but none of a line
abbrev is_helper_name : List ℕ → Bool
is_helper_name name = not (is_line_name name) && is_action_name name

conditions_named : (style : Style)
    → list_all (λ h. is_helper_name (named style h)) conditions ≡ true
unfolding action_names
conditions_named style = refl

opcodes_named : (style : Style) → list_all (λ h. is_helper_name (named style h)) opcodes ≡ true
unfolding action_names
opcodes_named style = refl

refill_named : (style : Style) (light : ℤ)
    → list_all (λ h. is_helper_name (named style h)) (refill light) ≡ true
unfolding action_names
refill_named style (pos n) = refl
refill_named style (negsuc n) = refl

abbrev HelperNamed : DirectiveTree → Type 0
HelperNamed x = is_helper_name (name_of x) ≡ true

-- each routine of a condition or an opcode has a name of these routines, but none of a line
helpers_named : (style : Style) (db : Database)
    → AllByRecursion HelperNamed (helper_directives style db)
helpers_named style db = each_helper style db HelperNamed (record {
  conditions = each_by style db HelperNamed (uses Condition db)
      (λ h. is_helper_name (named style h))
      (λ h is. is) conditions (conditions_named style);
  opcodes = each_by style db HelperNamed (uses Opcode db) (λ h. is_helper_name (named style h))
      (λ h is. is) opcodes (opcodes_named style);
  refill = each_by style db HelperNamed (uses Opcode db) (λ h. is_helper_name (named style h))
      (λ h is. is) (refill db.header.light) (refill_named style db.header.light);
})

is_own : (name : List ℕ) → is_helper_name name ≡ true → is_action_name name ≡ true
is_own name h = (and_parts (not (is_line_name name)) (is_action_name name) h).1

no_line : (name : List ℕ) → is_helper_name name ≡ true → not (is_line_name name) ≡ true
no_line name h = (and_parts (not (is_line_name name)) (is_action_name name) h).0

pub actions_are_named : ActionsAreNamed
actions_are_named style db = of_both (λ x. is_action_name (name_of x) ≡ true)
    (helper_directives style db) (line_directives db)
    (each_with HelperNamed (λ x. is_action_name (name_of x) ≡ true)
    (λ x h. is_own (name_of x) h) (helper_directives style db) (helpers_named style db))
    (each_line db (λ x. is_action_name (name_of x) ≡ true) (λ k has. refl))

-- ---- no two of one name

-- a name that is none of a line, and one that is
told_apart : (name other : List ℕ) → not (is_line_name name) ≡ true → is_line_name other ≡ true
    → name ≢ other
told_apart name other plain is same =
    true≢false (sym plain ∙ ap (λ n. not (is_line_name n)) same ∙ ap not is)

pub actions_are_distinct : ActionsAreDistinct
actions_are_distinct style db limits = joined_distinct style db (helper_directives style db)
    (line_directives db)
    (each_with HelperNamed
    (λ x. AllByRecursion (λ y. name_of x ≢ name_of y) (line_directives db))
    (λ x h. each_line db (λ y. name_of x ≢ name_of y)
    (λ k has. told_apart (name_of x) (line_name k) (no_line (name_of x) h) refl))
    (helper_directives style db) (helpers_named style db)) (helpers_distinct style db)
    (lines_distinct db 0 db.actions (omega (arith, few 5000 db.actions limits.sizes.actions)))

-- ---- lines

pub lines_are_there : LinesAreThere
lines_are_there style db k has = let there = line_is_in db k has in
    in_second (helper_directives style db) (line_directives db) there.0 there.1

-- where it is named as a line, it is the routine of a line
abbrev IsLineByName : Database → DirectiveTree → Type 0
IsLineByName db (d.Routine r) = is_line_name r.name ≡ true → IsLine db r
IsLineByName db other = Unit {0}

helper_is_none : (db : Database) (x : DirectiveTree) → is_helper_name (name_of x) ≡ true
    → IsLineByName db x
helper_is_none db (d.Constant name value) h = tt
helper_is_none db (d.Global name value) h = tt
helper_is_none db (d.Array name words entries) h = tt
helper_is_none db (d.Routine r) h =
    λ is. absurd (true≢false (sym (no_line r.name h) ∙ ap not is))

pub lines_alone : LinesAlone
lines_alone style db k r there is = one_in (IsLineByName db)
    (helper_directives style db ++ line_directives db) there.0
    (of_both (IsLineByName db) (helper_directives style db) (line_directives db)
    (each_with HelperNamed (IsLineByName db) (helper_is_none db)
    (helper_directives style db) (helpers_named style db))
    (each_line db (IsLineByName db) (λ k has is. (k, has, refl)))) there.1 (ap is_line_name is)
