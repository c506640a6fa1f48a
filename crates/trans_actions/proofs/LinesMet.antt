-- The routines of lines meet their specifications.
use Rattle.std.proofs.Common.{◌≡◌, ℕ, ℤ, pos, negsuc, true, List, ◌++◌, refl, sym, subst}
use Rattle.std.specs.List.{AllByRecursion, list_all}
use Rattle.std.proofs.lemmas.List.{map-append}
use Rattle.inform_tree.specs.declared.widths.Width.{Width}
use Rattle.inform_tree.specs.Programs.{DirectiveTree, Routine}
use Rattle.inform_meaning.specs.Worlds.{Program}
use Rattle.inform_logic.specs.Holding.{Holds}
use Rattle.inform_logic.proofs.Holding.{holds_first, holds_rest}
use Rattle.inform_codes.specs.Routines.{Row, row_routine, rows_directives}
use Rattle.scott_types.specs.declared.styles.Style.{Style}
use Rattle.trans_specs.specs.Wide.{is_word_of}
use Rattle.trans_specs.specs.Laws.{LinesAreNumbered, HasWords}
use Rattle.trans_actions.specs.declared.table.Kind.TheVariants.{Condition, Opcode}
use Rattle.trans_actions.specs.Names.{action_names, numbers}
use Rattle.trans_actions.specs.Helpers.{uses, conditions, opcodes, refill, used_rows, helper_directives}
use Rattle.trans_actions.specs.Directives.{line_directives}
use Rattle.trans_actions.specs.Laws.{LinesMeetSpecs}
use Rattle.trans_actions.proofs.Known.{Laws, is_unnoted, own_rows}
use Rattle.trans_actions.proofs.Light.{light_word}
use Rattle.trans_actions.proofs.LineRuns.{line_spec}

-- no helper is named as a line
conditions_unnoted : (style : Style) → list_all (is_unnoted style) conditions ≡ true
unfolding action_names
conditions_unnoted style = refl

opcodes_unnoted : (style : Style) → list_all (is_unnoted style) opcodes ≡ true
unfolding action_names
opcodes_unnoted style = refl

refill_unnoted : (style : Style) (light : ℤ) → list_all (is_unnoted style) (refill light) ≡ true
unfolding action_names
refill_unnoted style (pos n) = refl
refill_unnoted style (negsuc n) = refl

-- rows one after the other
rows_held : (p : Program) (names : List (List ℕ)) (given : List ℕ) (xs ys : List Row)
    → Holds p (rows_directives names given (xs ++ ys))
    → Holds p (rows_directives names given xs ++ rows_directives names given ys)
rows_held p names given xs ys h =
    subst (Holds p) (map-append (λ row. Routine (row_routine names given row)) xs ys) h

-- where a program serves the routines of lines, those that they call meet their specifications, and
-- messages are said, each line meets its specification
pub lines_meet_specs : Laws → LinesAreNumbered → LinesMeetSpecs
lines_meet_specs laws numbered style width db p translates serves helpers texts messages =
    line_spec (record {
      limits = translates.limits;
      laws = laws;
      light_word = subst (λ (width : Width). is_word_of width db.header.light ≡ true)
          (sym serves.width_is) (light_word width db translates.none_wide);
      helpers = helpers;
      texts = texts;
      messages = messages;
      conditions = own_rows style db p serves.notes_lines (uses Condition db) conditions
          (conditions_unnoted style) (holds_first p (directives
          (used_rows (uses Condition db) conditions))
          (directives others) split);
      opcodes = own_rows style db p serves.notes_lines (uses Opcode db) opcodes
          (opcodes_unnoted style) (holds_first p (directives (used_rows (uses Opcode db) opcodes))
          (directives (used_rows (uses Opcode db) (refill db.header.light))) split_others);
      refill = own_rows style db p serves.notes_lines (uses Opcode db) (refill db.header.light)
          (refill_unnoted style db.header.light)
          (holds_rest p (directives (used_rows (uses Opcode db) opcodes))
          (directives (used_rows (uses Opcode db) (refill db.header.light))) split_others);
    }) have_words serves.notes_lines numbered
    (holds_rest p (helper_directives style db) (line_directives db) serves.holds) where
      directives : List Row → List DirectiveTree
      directives rows = rows_directives (action_names style) (numbers db) rows

      others : List Row
      others = used_rows (uses Opcode db) opcodes ++ used_rows (uses Opcode db)
          (refill db.header.light)

      split : Holds p (directives (used_rows (uses Condition db) conditions) ++ directives others)
      split = rows_held p (action_names style) (numbers db)
          (used_rows (uses Condition db) conditions)
          others (holds_first p (helper_directives style db) (line_directives db) serves.holds)

      split_others : Holds p (directives (used_rows (uses Opcode db) opcodes)
          ++ directives (used_rows (uses Opcode db) (refill db.header.light)))
      split_others = rows_held p (action_names style) (numbers db)
          (used_rows (uses Opcode db) opcodes) (used_rows (uses Opcode db) (refill db.header.light))
          (holds_rest p (directives (used_rows (uses Condition db) conditions)) (directives others)
          split)

      have_words : AllByRecursion (HasWords p.width) db.actions
      have_words = subst (λ (width : Width). AllByRecursion (HasWords width) db.actions)
          (sym serves.width_is) (laws.have_words width db translates.none_wide)
