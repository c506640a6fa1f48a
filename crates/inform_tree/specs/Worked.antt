-- Worked examples: tables, limits, names, depths and shapes that were judged by hand.
use Rattle.std.specs.Prelude.{ℕ, ◌≡◌, true, false, List, [], ◌∷◌, codes, replicate, map}
use Rattle.inform_tree.specs.declared.words.TheConstants.{RESERVED, NAME_LIMIT, SPECIAL}
use Rattle.inform_tree.specs.declared.formed_programs.TheConstants.{DEPTH_LIMIT}
use Rattle.inform_tree.specs.declared.values.SumOp.TheVariants.{Add}
use Rattle.inform_tree.specs.declared.values.Const.TheVariants as k
use Rattle.inform_tree.specs.Values as v
use Rattle.inform_tree.specs.Conditions as c
use Rattle.inform_tree.specs.Statements as s
use Rattle.inform_tree.specs.Statements.{Statement, statements}
use Rattle.inform_tree.specs.Programs as d
use Rattle.inform_tree.specs.Programs.{DirectiveTree}
use Rattle.inform_tree.specs.Depths.{statement_depth}
use Rattle.inform_tree.specs.Words.{is_name, is_character}
use Rattle.inform_tree.specs.Formed.{is_formed_expression, is_formed_statement, is_well_formed}

-- ---- the tables and limits that the definitions read

-- the words of the grammar, and those that Inform has beside them
abbrev pub reserved_words : List (List ℕ)
reserved_words =
    codes "array" ∷ codes "attribute" ∷ codes "box" ∷ codes "break" ∷ codes "buffer" ∷
    codes "char" ∷ codes "class" ∷ codes "constant" ∷ codes "continue" ∷ codes "default" ∷
    codes "do" ∷ codes "else" ∷ codes "extend" ∷ codes "font" ∷ codes "for" ∷ codes "give" ∷
    codes "global" ∷ codes "has" ∷ codes "hasnt" ∷ codes "if" ∷ codes "in" ∷ codes "include" ∷
    codes "inversion" ∷ codes "jump" ∷ codes "move" ∷ codes "new_line" ∷ codes "notin" ∷
    codes "object" ∷ codes "objectloop" ∷ codes "ofclass" ∷ codes "or" ∷ codes "print" ∷
    codes "print_ret" ∷ codes "property" ∷ codes "provides" ∷ codes "quit" ∷ codes "random" ∷
    codes "read" ∷ codes "remove" ∷ codes "restore" ∷ codes "return" ∷ codes "rfalse" ∷
    codes "rtrue" ∷ codes "save" ∷ codes "self" ∷ codes "sender" ∷ codes "spaces" ∷
    codes "string" ∷ codes "style" ∷ codes "switch" ∷ codes "table" ∷ codes "to" ∷
    codes "until" ∷ codes "verb" ∷ codes "while" ∷ []

-- these words are reserved, and no others
abbrev pub ReservedWordsListed : Type 0
ReservedWordsListed = map (λ word. word.now) RESERVED ≡ reserved_words

-- `'`, `"`, `\`, `@`, `^` and `~`
abbrev pub SpecialBytesListed : Type 0
SpecialBytesListed = SPECIAL ≡ 39 ∷ 34 ∷ 92 ∷ 64 ∷ 94 ∷ 126 ∷ []

-- the bytes of a name, and the depth of a routine
abbrev pub LimitsListed : Type 0
LimitsListed = (NAME_LIMIT ≡ 32) × (DEPTH_LIMIT ≡ 64)

-- ---- names and characters

abbrev pub NamesJudged : Type 0
NamesJudged = (is_name (codes "main") ≡ true)
    × (is_name (codes "_x9") ≡ true)
    × (is_name (codes "9x") ≡ false)
    × (is_name (codes "Main") ≡ false)
    × (is_name (codes "while") ≡ false)
    × (is_name (codes "whiles") ≡ true)
    × (is_name [] ≡ false)

-- 32 bytes are a name, and 33 are none
abbrev pub LongNamesJudged : Type 0
LongNamesJudged = (is_name (replicate 32 97) ≡ true) × (is_name (replicate 33 97) ≡ false)

abbrev pub CharactersJudged : Type 0
CharactersJudged = (is_character 32 ≡ true)
    × (is_character 126 ≡ false)
    × (is_character 39 ≡ false)
    × (is_character 94 ≡ false)
    × (is_character 97 ≡ true)
    × (is_character 200 ≡ false)

-- ---- depths

-- `if (1) ;`: the statement, its condition and the value in it
abbrev pub TestCounts : Type 0
TestCounts =
    statement_depth (s.If (c.Nonzero (v.Number 1)) (statements (s.Empty ∷ [])) s.NoStatements) ≡ 3

-- `x++;` has no value in it, `x = 1 + y;` a sum with its parts, and `print "a", 1;` a value
abbrev pub ChangesCountNothing : Type 0
ChangesCountNothing = (statement_depth (s.Assign (s.Inc (codes "x"))) ≡ 1)
    × (statement_depth
    (s.Assign
    (s.Set (codes "x")
    (v.Sum (v.Number 1) (v.MoreTerms Add (v.Name (codes "y")) v.NoTerms)))) ≡ 3)
    × (statement_depth (s.Print (s.Text (codes "a") ∷ s.Value (v.Number 1) ∷ [])) ≡ 2)

-- blocks, one in another
abbrev blocks : List ℕ → Statement
blocks [] = s.Empty
blocks (x ∷ xs) = s.Block (s.MoreStatements (blocks xs) s.NoStatements)

-- `[ main; .. ];` with a statement as deep as that, and so many blocks round an empty one
abbrev nested : ℕ → List DirectiveTree
nested n =
    d.Routine
    (record {
      name = codes "main";
      locals = [];
      body = statements (blocks (replicate n 0) ∷ []);
    }) ∷ []

-- 63 blocks round a `;` have depth 64
abbrev pub DepthLimitJudged : Type 0
DepthLimitJudged = (is_well_formed (nested 63) ≡ true) × (is_well_formed (nested 64) ≡ false)

-- ---- shapes

-- one condition is no chain, and two are
abbrev pub ChainsJudged : Type 0
ChainsJudged =
    (is_formed_statement
    (s.While (c.All (c.MoreConditions (c.Nonzero (v.Number 1)) c.NoConditions)) s.NoStatements)
    ≡ false)
    × (is_formed_statement
    (s.While (c.All
    (c.MoreConditions (c.Nonzero (v.Number 1))
    (c.MoreConditions (c.Nonzero (v.Number 2)) c.NoConditions))) s.NoStatements) ≡ true)
    × (is_formed_expression (v.Sum (v.Number 1) v.NoTerms) ≡ false)

-- an array without an entry, a `print` without an item and a case without a choice
abbrev pub EmptyListsRefused : Type 0
EmptyListsRefused = (is_well_formed (d.Array (codes "a") true [] ∷ []) ≡ false)
    × (is_well_formed (d.Array (codes "a") true (k.Number 0 ∷ []) ∷ []) ≡ true)
    × (is_formed_statement (s.Print []) ≡ false)
    × (is_formed_statement
    (s.Switch (v.Number 1) (s.MoreCases [] s.NoStatements s.NoCases) s.NoDefault) ≡ false)
