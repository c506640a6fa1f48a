-- The routines as trees, spelled out.
use Rattle.std.specs.Prelude.{ℕ, true, false, List, [], ◌∷◌, codes, Some, None}
use Rattle.inform_tree.specs.declared.values.Const.TheVariants as k
use Rattle.inform_tree.specs.declared.values.SumOp.TheVariants.{Add, Sub}
use Rattle.inform_tree.specs.declared.values.ProdOp.TheVariants.{Mul}
use Rattle.inform_tree.specs.declared.conditions.Relation.{Relation}
use Rattle.inform_tree.specs.declared.conditions.Relation.TheVariants.{Eq, Ne, Lt, Le}
use Rattle.inform_tree.specs.Values as v
use Rattle.inform_tree.specs.Values.{Expression}
use Rattle.inform_tree.specs.Conditions as c
use Rattle.inform_tree.specs.Conditions.{Condition}
use Rattle.inform_tree.specs.Statements as s
use Rattle.inform_tree.specs.Statements.{Statement, Cases, statements}
use Rattle.inform_tree.specs.Programs.{RoutineTree}
use Rattle.inform_meaning.specs.Frames.{Loop}
use Rattle.inform_meaning.specs.Statements.{while_loop, for_loop}
use Rattle.scott_types.specs.declared.commands.Column.{Column}
use Rattle.scott_types.specs.declared.commands.Column.TheVariants.{Verbs, Nouns}

-- ---- short words

abbrev pub routine : List ℕ → List (List ℕ) → List Statement → RoutineTree
routine name locals body = record { name = name; locals = locals; body = statements body }

abbrev pub name : List ℕ → Expression
name x = v.Name x

abbrev pub byte : List ℕ → Expression → Expression
byte a x = v.Entry a false x

abbrev pub sum : Expression → Expression → Expression
sum x y = v.Sum x (v.terms ((Add, y) ∷ []))

abbrev pub difference : Expression → Expression → Expression
difference x y = v.Sum x (v.terms ((Sub, y) ∷ []))

abbrev pub product : Expression → Expression → Expression
product x y = v.Product x (v.factors ((Mul, y) ∷ []))

abbrev pub call : List ℕ → List Expression → Expression
call f xs = v.Call f (v.arguments xs)

abbrev pub both : Condition → Condition → Condition
both x y = c.All (c.conditions (x ∷ y ∷ []))

abbrev pub either : Condition → Condition → Condition
either x y = c.Any (c.conditions (x ∷ y ∷ []))

abbrev pub if_only : Condition → List Statement → Statement
if_only x body = s.If x (statements body) s.NoStatements

abbrev pub set : List ℕ → Expression → Statement
set x y = s.Assign (s.Set x y)

abbrev pub return : Expression → Statement
return x = s.Return (Some x)

-- ---- the end of spaces, and of a word

abbrev pub below_end : Condition
below_end = c.Compare Lt (name (codes "i")) (name (codes "e"))

abbrev pub is_space : Relation → Condition
is_space op = c.Compare op (byte (codes "buf") (name (codes "i"))) (v.Number 32)

abbrev pub after_loop : Relation → Loop
after_loop op =
    while_loop (both below_end (is_space op)) (statements (s.Assign (s.Inc (codes "i")) ∷ []))

abbrev pub after_routine : List ℕ → Relation → RoutineTree
after_routine f op = routine f (codes "i" ∷ codes "e" ∷ [])
    (s.While (both below_end (is_space op)) (after_loop op).body ∷ return (name (codes "i")) ∷ [])

-- ---- the names of a column

abbrev pub find_name : Column → List ℕ
find_name Verbs = codes "find_verb"
find_name Nouns = codes "find_noun"

abbrev pub first_name : Column → List ℕ
first_name Verbs = codes "first_verb"
first_name Nouns = codes "first_noun"

abbrev pub word_array : Column → List ℕ
word_array Verbs = codes "vword"
word_array Nouns = codes "nword"

abbrev pub base_array : Column → List ℕ
base_array Verbs = codes "vroot"
base_array Nouns = codes "nroot"

-- ---- the entry that a word names

abbrev pub base_of : Column → Expression
base_of column = v.Entry (base_array column) true (name (codes "k"))

abbrev pub has_base : Column → Condition
has_base column = c.Compare Ne (base_of column) (v.Number 0)

-- letter i of entry k
abbrev pub entry_letter : Column → ℕ → Expression
entry_letter column size = byte (word_array column)
    (sum (product (v.Number size) (name (codes "k"))) (name (codes "i")))

abbrev pub below_size : ℕ → Condition
below_size size = c.Compare Lt (name (codes "i")) (v.Number size)

abbrev pub below_length : Condition
below_length = c.Compare Lt (name (codes "i")) (name (codes "n"))

abbrev pub same_letter : Column → ℕ → Condition
same_letter column size = c.Compare Eq
    (byte (codes "buf") (sum (name (codes "a")) (name (codes "i")))) (entry_letter column size)

abbrev pub goes_on : Column → ℕ → Condition
goes_on column size =
    both (has_base column) (both (below_size size) (both below_length (same_letter column size)))

abbrev pub letters_loop : Column → ℕ → Loop
letters_loop column size =
    for_loop (Some (goes_on column size)) (Some (s.Inc (codes "i"))) s.NoStatements

-- whether i letters that are the same are all that count
abbrev pub at_size : ℕ → Condition
at_size size = c.Compare Eq (name (codes "i")) (v.Number size)

abbrev pub at_length : Condition
at_length = c.Compare Eq (name (codes "i")) (name (codes "n"))

abbrev pub no_letter : Column → ℕ → Condition
no_letter column size = c.Compare Eq (entry_letter column size) (v.Number 0)

abbrev pub is_same : Column → ℕ → Condition
is_same column size = either (at_size size) (both at_length (no_letter column size))

abbrev pub below_entries : ℕ → Condition
below_entries entries = c.Compare Lt (name (codes "k")) (v.Number entries)

abbrev pub find_loop : Column → ℕ → ℕ → Loop
find_loop column size entries =
    for_loop (Some (below_entries entries)) (Some (s.Inc (codes "k")))
    (statements (s.For (Some (s.Set (codes "i") (v.Number 0))) (Some (goes_on column size))
    (Some (s.Inc (codes "i"))) s.NoStatements
    ∷ if_only (is_same column size) (return (base_of column) ∷ []) ∷ []))

abbrev pub find_routine : Column → ℕ → ℕ → RoutineTree
find_routine column size entries =
    routine (find_name column) (codes "a" ∷ codes "n" ∷ codes "k" ∷ codes "i" ∷ [])
    (if_only (c.Compare Eq (name (codes "n")) (v.Number 0)) (return (v.Number 0) ∷ [])
    ∷ s.For (Some (s.Set (codes "k") (v.Number 1))) (Some (below_entries entries))
    (Some (s.Inc (codes "k"))) (find_loop column size entries).body
    ∷ return (v.Number 0) ∷ [])

-- ---- the entry that a first word names

abbrev pub letter_case : ℕ → ℕ → Cases → Cases
letter_case letter number others =
    s.MoreCases ((k.Number letter, None) ∷ []) (statements (return (v.Number number) ∷ [])) others

-- the seven letters, each with the entry that its whole word names
abbrev pub letter_cases : (ℕ → ℕ) → Cases
letter_cases number = letter_case 110 (number 0) (letter_case 115 (number 1)
    (letter_case 101 (number 2) (letter_case 119 (number 3) (letter_case 117 (number 4)
    (letter_case 100 (number 5) (letter_case 105 (number 6) s.NoCases))))))

abbrev pub is_letter : Condition
is_letter = both (c.Compare Eq (name (codes "n")) (v.Number 1))
    (c.Compare Eq (name (codes "m")) (v.Number 0))

abbrev pub found : Column → Expression
found column = call (find_name column) (name (codes "a") ∷ name (codes "n") ∷ [])

abbrev pub first_routine : Column → (ℕ → ℕ) → RoutineTree
first_routine column number = routine (first_name column) (codes "a" ∷ codes "n" ∷ codes "m" ∷ [])
    (if_only is_letter
    (s.Switch (byte (codes "buf") (name (codes "a"))) (letter_cases number) s.NoDefault ∷ [])
    ∷ return (found column) ∷ [])

-- ---- what a line means

abbrev pub is_way : Condition
is_way = both (c.Compare Lt (v.Number 0) (name (codes "x")))
    (c.Compare Le (name (codes "x")) (v.Number 6))

abbrev pub heard_verb_routine : RoutineTree
heard_verb_routine = routine (codes "heard_verb")
    (codes "x" ∷ codes "a" ∷ codes "n" ∷ codes "m" ∷ [])
    (if_only is_way (return (v.Number 1) ∷ [])
    ∷ return (call (codes "first_verb")
    (name (codes "a") ∷ name (codes "n") ∷ name (codes "m") ∷ [])) ∷ [])

abbrev pub heard_noun_routine : RoutineTree
heard_noun_routine = routine (codes "heard_noun")
    (codes "x" ∷ codes "v" ∷ codes "a" ∷ codes "n" ∷ [])
    (if_only (c.Compare Eq (name (codes "v")) (v.Number 0)) (return (v.Number 0) ∷ [])
    ∷ if_only is_way (return (name (codes "x")) ∷ [])
    ∷ return (call (codes "find_noun") (name (codes "a") ∷ name (codes "n") ∷ [])) ∷ [])

abbrev pub after : List ℕ → Expression → Expression
after f x = call f (x ∷ name (codes "e") ∷ [])

-- `hear`: where the two words of the line stand, and what they name
abbrev pub hear_routine : RoutineTree
hear_routine = routine (codes "hear") (codes "e" ∷ codes "i" ∷ codes "x" ∷ [])
    (set (codes "e") (sum (byte (codes "buf") (v.Number 1)) (v.Number 2))
    ∷ set (codes "wa") (after (codes "after_spaces") (v.Number 2))
    ∷ set (codes "i") (after (codes "after_word") (name (codes "wa")))
    ∷ set (codes "na") (difference (name (codes "i")) (name (codes "wa")))
    ∷ set (codes "wb") (after (codes "after_spaces") (name (codes "i")))
    ∷ set (codes "nb")
    (difference (after (codes "after_word") (name (codes "wb"))) (name (codes "wb")))
    ∷ set (codes "x") (call (codes "first_noun")
    (name (codes "wa") ∷ name (codes "na") ∷ name (codes "nb") ∷ []))
    ∷ set (codes "vnum") (call (codes "heard_verb")
    (name (codes "x") ∷ name (codes "wa") ∷ name (codes "na") ∷ name (codes "nb") ∷ []))
    ∷ set (codes "nnum") (call (codes "heard_noun")
    (name (codes "x") ∷ name (codes "vnum") ∷ name (codes "wb") ∷ name (codes "nb") ∷ []))
    ∷ [])
