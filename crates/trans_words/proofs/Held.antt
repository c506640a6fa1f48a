-- A program that has the directives has each of the routines.
use Rattle.std.proofs.Common.{◌≡◌, ◌∙◌, ℕ, ◌+◌, List, ◌++◌, length, codes, None, refl}
use Rattle.inform_tree.specs.declared.widths.Width.{Width}
use Rattle.inform_tree.specs.declared.conditions.Relation.TheVariants.{Eq, Ne}
use Rattle.inform_tree.specs.Programs.{RoutineTree, DirectiveTree, Routine}
use Rattle.inform_codes.specs.Grown.{body_of}
use Rattle.inform_codes.specs.Codes.{given_in}
use Rattle.inform_meaning.specs.Worlds.{Program}
use Rattle.inform_logic.specs.Holding.{Held, Holds, Has}
use Rattle.scott_types.specs.declared.commands.Column.{Column}
use Rattle.scott_types.specs.declared.commands.Column.TheVariants.{Verbs, Nouns}
use Rattle.scott_types.specs.Database.{Database}
use Rattle.trans_specs.specs.Names.{line_number}
use Rattle.trans_specs.specs.Programs.{Serves}
use Rattle.trans_words.specs.Directives.{numbers, column_directives, word_directives}
use Rattle.trans_words.proofs.Trees.{after_routine, find_routine, first_routine, heard_verb_routine, heard_noun_routine, hear_routine}

-- what each of the seven words names
abbrev pub word_number : Database → Column → ℕ → ℕ
word_number db column i = given_in (numbers db column) (2 + i)

-- all that the reader calls
pub record HasReader (db : Database) (p : Program) : Type 0 where
  pub after_spaces : Has p (after_routine (codes "after_spaces") Eq)
  pub after_word : Has p (after_routine (codes "after_word") Ne)
  pub heard_verb : Has p heard_verb_routine
  pub heard_noun : Has p heard_noun_routine
  pub hear : Has p hear_routine
  pub find : (column : Column)
      → Has p (find_routine column db.header.length (length db.words))
  pub first : (column : Column) → Has p (first_routine column (word_number db column))

-- one of the directives of a program that notes its lines alone
held : {p : Program} {width : Width} {ds : List DirectiveTree} → Serves width ds p
    → (r : RoutineTree) → line_number r.name ≡ None → Held p (Routine r) → Has p r
held serves r other h = record {
  at = h.0;
  there = h.1;
  unseen = serves.notes_lines r.name h.0 ∙ other;
}

-- a program that serves the directives of words has each routine of the reader
pub has_reader : (width : Width) (db : Database) (p : Program)
    → Serves width (word_directives db) p → HasReader db p
unfolding body_of
has_reader width db p serves = record {
  after_spaces = held serves (after_routine (codes "after_spaces") Eq) refl h.0;
  after_word = held serves (after_routine (codes "after_word") Ne) refl h.1.0;
  heard_verb = held serves heard_verb_routine refl h.1.1.0;
  heard_noun = held serves heard_noun_routine refl h.1.1.1.0;
  hear = held serves hear_routine refl h.1.1.1.1.0;
  find = find;
  first = first;
} where
  h : Holds p (word_directives db)
  h = serves.holds

  of_columns : Holds p (column_directives db Verbs ++ column_directives db Nouns)
  of_columns = h.1.1.1.1.1

  find : (column : Column) → Has p (find_routine column db.header.length (length db.words))
  find Verbs = held serves (find_routine Verbs db.header.length (length db.words)) refl of_columns.0
  find Nouns =
      held serves (find_routine Nouns db.header.length (length db.words)) refl of_columns.1.1.0

  first : (column : Column) → Has p (first_routine column (word_number db column))
  first Verbs = held serves (first_routine Verbs (word_number db Verbs)) refl of_columns.1.0
  first Nouns = held serves (first_routine Nouns (word_number db Nouns)) refl of_columns.1.1.1.0
