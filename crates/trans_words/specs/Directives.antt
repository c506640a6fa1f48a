-- The directives of the word reader.
use Rattle.std.specs.Prelude.{ℕ, List, [], ◌∷◌, ◌++◌, map, length, codes}
use Rattle.inform_tree.specs.Programs.{DirectiveTree}
use Rattle.inform_codes.specs.Routines.{Row, rows_directives}
use Rattle.scott_types.specs.declared.commands.Column.{Column}
use Rattle.scott_types.specs.declared.commands.Column.TheVariants.{Verbs, Nouns}
use Rattle.scott_types.specs.Database.{Database}
use Rattle.scott_rules.specs.Words.{which}
use Rattle.trans_specs.specs.Tables.{or_zero}
use Rattle.trans_words.specs.declared.lines.TheConstants.{NAMES, ROUTINES as LINE_ROUTINES}
use Rattle.trans_words.specs.declared.columns.TheConstants.{VERB_NAMES, NOUN_NAMES, ROUTINES as COLUMN_ROUTINES}

-- ---- of a line and its words

abbrev pub line_names : List (List ℕ)
line_names = map (λ name. name.now) NAMES

abbrev pub line_rows : List Row
line_rows = map (λ row. (row.0, row.1.now, row.2.now)) LINE_ROUTINES

abbrev pub line_directives : List DirectiveTree
line_directives = rows_directives line_names [] line_rows

-- ---- of the words of a column

abbrev pub column_names : Column → List (List ℕ)
column_names Verbs = map (λ name. name.now) VERB_NAMES
column_names Nouns = map (λ name. name.now) NOUN_NAMES

abbrev pub column_rows : List Row
column_rows = map (λ row. (row.0, row.1.now, row.2.now)) COLUMN_ROUTINES

-- the words for which a letter alone stands
abbrev pub whole_words : List (List ℕ)
whole_words = codes "north" ∷ codes "south" ∷ codes "east" ∷ codes "west" ∷ codes "up"
    ∷ codes "down" ∷ codes "inventory" ∷ []

-- how many bytes of a word count, how many entries there are, and what each of those words names
abbrev pub numbers : Database → Column → List ℕ
numbers db column = db.header.length ∷ length db.words
    ∷ map (λ word. or_zero (which db column word)) whole_words

abbrev pub column_directives : Database → Column → List DirectiveTree
column_directives db column =
    rows_directives (column_names column) (numbers db column) column_rows

-- ---- all of them

abbrev pub word_directives : Database → List DirectiveTree
word_directives db =
    line_directives ++ (column_directives db Verbs ++ column_directives db Nouns)
