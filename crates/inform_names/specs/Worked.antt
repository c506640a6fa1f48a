-- Worked examples: limits, words and programs that were judged by hand.
use Rattle.std.specs.Prelude.{ℕ, ◌≡◌, pos, negsuc, true, false, List, [], ◌∷◌, ◌++◌, codes, replicate, Option, Some, None}
use Rattle.inform_tree.specs.declared.widths.Width.TheVariants.{W16, W32}
use Rattle.inform_tree.specs.declared.values.Const.{Const}
use Rattle.inform_tree.specs.declared.values.Const.TheVariants as k
use Rattle.inform_tree.specs.Values as v
use Rattle.inform_tree.specs.Values.{Expression, arguments}
use Rattle.inform_tree.specs.Conditions as c
use Rattle.inform_tree.specs.Statements as s
use Rattle.inform_tree.specs.Statements.{Statement, statements}
use Rattle.inform_tree.specs.Programs as d
use Rattle.inform_tree.specs.Programs.{DirectiveTree}
use Rattle.inform_names.specs.declared.limits.TheConstants.{LOCAL_LIMIT, ARGUMENT_LIMIT, LENGTH_LIMIT, ENTRY_LIMIT, DEEPEST}
use Rattle.inform_names.specs.Words.{word, minus_word}
use Rattle.inform_names.specs.Faults.{Fault, twice, missing, wrong_kind, too_many_locals, too_many_arguments, wide_number, wrong_size, outside, too_deep, main_locals, no_main}
use Rattle.inform_names.specs.Acceptance.{main, has_wrong_size, name_fault}

-- ---- the limits that the definitions read

-- the locals of a routine, the arguments of a call, the entries of an array and of all of them, and
-- the depth of a routine
abbrev pub LimitsListed : Type 0
LimitsListed = (LOCAL_LIMIT ≡ 15)
    × (ARGUMENT_LIMIT ≡ 7)
    × (LENGTH_LIMIT ≡ 32767)
    × (ENTRY_LIMIT ≡ 4000000)
    × (DEEPEST ≡ 64)

-- ---- words

abbrev pub WordsJudged : Type 0
WordsJudged = (word W16 32767 ≡ pos 32767)
    × (word W16 32768 ≡ negsuc 32767)
    × (word W16 65537 ≡ pos 1)
    × (word W32 65537 ≡ pos 65537)
    × (word W32 4294967295 ≡ negsuc 0)
    × (minus_word W16 65535 ≡ pos 1)
    × (minus_word W16 32768 ≡ negsuc 32767)
    × (minus_word W32 65535 ≡ negsuc 65534)
    × (minus_word W32 0 ≡ pos 0)

-- ---- programs

abbrev routine : List ℕ → List (List ℕ) → List Statement → DirectiveTree
routine name locals body =
    d.Routine (record { name = name; locals = locals; body = statements body })

abbrev a : List ℕ
a = codes "a"

abbrev b : List ℕ
b = codes "b"

abbrev f : List ℕ
f = codes "f"

-- `Array NAME --> LENGTH;`
abbrev words : List ℕ → Const → DirectiveTree
words name length = d.Array name true (length ∷ [])

-- `Array NAME -> LENGTH;`
abbrev bytes : List ℕ → Const → DirectiveTree
bytes name length = d.Array name false (length ∷ [])

-- `return VALUE;`
abbrev give : Expression → List Statement
give value = s.Return (Some value) ∷ []

-- what is wrong with these directives and `[ main; .. ];` after them, where words have 16 bits
abbrev fault16 : List DirectiveTree → List Statement → Option Fault
fault16 directives body = name_fault W16 (directives ++ routine main [] body ∷ [])

-- the same where they have 32 bits
abbrev fault32 : List DirectiveTree → List Statement → Option Fault
fault32 directives body = name_fault W32 (directives ++ routine main [] body ∷ [])

-- ---- constants and globals

-- `Constant a = a;`, `Constant a = b; Constant b = 1;` and `Global b; Constant a = b;` have no
-- value; `Constant b = 1; Constant a = b;` has
abbrev pub ConstantsUseEarlierOnes : Type 0
ConstantsUseEarlierOnes = (fault16 (d.Constant a (k.Name a) ∷ []) [] ≡ Some (missing a))
    × (fault16 (d.Constant a (k.Name b) ∷ d.Constant b (k.Number 1) ∷ []) [] ≡ Some (missing b))
    × (fault16 (d.Global b None ∷ d.Constant a (k.Name b) ∷ []) [] ≡ Some (wrong_kind b))
    × (fault16 (d.Constant b (k.Number 1) ∷ d.Constant a (k.Name b) ∷ []) [] ≡ None)

-- a global may use a constant that comes later, but no other global
abbrev pub GlobalsUseConstants : Type 0
GlobalsUseConstants =
    (fault16 (d.Global a (Some (k.Name b)) ∷ d.Constant b (k.Number 1) ∷ []) [] ≡ None)
    × (fault16 (d.Global a (Some (k.Name b)) ∷ d.Global b None ∷ []) [] ≡ Some (wrong_kind b))

-- the second directive of a name is the fault, and comes before what is in it
abbrev pub SecondIsTwice : Type 0
SecondIsTwice = (fault16 (d.Global a None ∷ words a (k.Number 0) ∷ []) [] ≡ Some (twice a))
    × (fault16 (words a (k.Number 0) ∷ d.Global a None ∷ []) [] ≡ Some (wrong_size a))
    × (fault16 (routine f (a ∷ b ∷ a ∷ []) [] ∷ []) [] ≡ Some (twice a))

-- ---- arrays

-- the length of an array is the word of its one constant; a length that isn't known is no wrong one
abbrev pub LengthsJudged : Type 0
LengthsJudged = (fault16 (words a (k.Number 32767) ∷ []) [] ≡ None)
    × (fault16 (words a (k.Number 32768) ∷ []) [] ≡ Some (wrong_size a))
    × (fault16 (words a (k.Number 65537) ∷ []) [] ≡ Some (wide_number 65537))
    × (fault16 (words a (k.Minus 65535) ∷ []) [] ≡ None)
    × (fault32 (words a (k.Minus 65535) ∷ []) [] ≡ Some (wrong_size a))
    × (fault16 (words a (k.Name b) ∷ []) [] ≡ Some (missing b))

-- 4,000,000 entries are let through, and one more isn't
abbrev pub EntriesCounted : Type 0
EntriesCounted = (has_wrong_size 3999999 (Some (pos 1)) ≡ false)
    × (has_wrong_size 3999999 (Some (pos 2)) ≡ true)
    × (has_wrong_size 4000000 None ≡ false)

-- an array stands before its own arrow alone, and `read` takes two byte arrays
abbrev pub ArraysInTheirPlaces : Type 0
ArraysInTheirPlaces =
    (fault16 (words a (k.Number 9) ∷ []) (give (v.Name a)) ≡ Some (wrong_kind a))
    × (fault16 (words a (k.Number 9) ∷ []) (give (v.Entry a true (v.Number 1))) ≡ None)
    × (fault16 (bytes a (k.Number 9) ∷ []) (give (v.Entry a true (v.Number 1)))
    ≡ Some (wrong_kind a))
    × (fault16 (bytes a (k.Number 9) ∷ words b (k.Number 9) ∷ []) (s.Read a b ∷ [])
    ≡ Some (wrong_kind b))

-- ---- routines

-- so many locals, of different names
abbrev some_locals : List ℕ → List (List ℕ)
some_locals [] = []
some_locals (x ∷ xs) = (codes "l" ++ replicate x 97) ∷ some_locals xs

abbrev fifteen : List ℕ
fifteen = 0 ∷ 1 ∷ 2 ∷ 3 ∷ 4 ∷ 5 ∷ 6 ∷ 7 ∷ 8 ∷ 9 ∷ 10 ∷ 11 ∷ 12 ∷ 13 ∷ 14 ∷ []

-- 15 locals are let through, and a 16th isn't; where it has the name of another one it is that
abbrev pub LocalsCounted : Type 0
LocalsCounted = (fault16 (routine f (some_locals fifteen) [] ∷ []) [] ≡ None)
    × (fault16 (routine f (some_locals (fifteen ++ 15 ∷ [])) [] ∷ []) [] ≡ Some (too_many_locals f))
    × (fault16 (routine f (some_locals (fifteen ++ 3 ∷ [])) [] ∷ []) []
    ≡ Some (twice (codes "laaa")))

-- a call of a routine with so many locals, with these arguments
abbrev called : List ℕ → List Expression → Option Fault
called locals values =
    fault16 (routine f (some_locals locals) [] ∷ []) (s.Call f (arguments values) ∷ [])

-- a call may have fewer arguments than locals, and not more; and not more than seven
abbrev pub ArgumentsCounted : Type 0
ArgumentsCounted = (called (0 ∷ 1 ∷ []) (v.Number 1 ∷ []) ≡ None)
    × (called (0 ∷ 1 ∷ []) (replicate 3 (v.Number 1)) ≡ Some (too_many_arguments f))
    × (called fifteen (replicate 7 (v.Number 1)) ≡ None)
    × (called fifteen (replicate 8 (v.Number 1)) ≡ Some (too_many_arguments f))
    × (fault16 [] (s.Call f v.NoArguments ∷ []) ≡ Some (missing f))

-- a local hides a routine, an array and a constant of its name; as a value it is itself
abbrev pub LocalsHide : Type 0
LocalsHide =
    (fault16 (routine f (f ∷ []) (s.Call f v.NoArguments ∷ []) ∷ []) [] ≡ Some (wrong_kind f))
    × (fault16 (routine f (f ∷ []) (give (v.Name f)) ∷ []) [] ≡ None)
    × (fault16
    (words a (k.Number 9) ∷ routine f (a ∷ []) (give (v.Entry a true (v.Number 1))) ∷ []) []
    ≡ Some (wrong_kind a))
    × (fault16 (d.Constant a (k.Number 9) ∷ routine f (a ∷ []) (s.Assign (s.Inc a) ∷ []) ∷ []) []
    ≡ None)

-- a program has a routine `main`, which has no locals
abbrev pub MainsJudged : Type 0
MainsJudged = (name_fault W16 [] ≡ Some no_main)
    × (name_fault W16 (d.Global main None ∷ []) ≡ Some no_main)
    × (name_fault W16 (routine main (a ∷ []) [] ∷ []) ≡ Some main_locals)
    × (name_fault W16 (routine main [] [] ∷ []) ≡ None)

-- blocks, one in another
abbrev blocks : List ℕ → List Statement
blocks [] = []
blocks (x ∷ xs) = s.Block (statements (blocks xs)) ∷ []

-- depth 64 is let through, and 65 isn't
abbrev pub DepthsJudged : Type 0
DepthsJudged = (fault16 (routine f [] (blocks (replicate 64 0)) ∷ []) [] ≡ None)
    × (fault16 (routine f [] (blocks (replicate 65 0)) ∷ []) [] ≡ Some (too_deep f))

-- ---- statements and values

abbrev while_true : List Statement → List Statement
while_true body = s.While (c.Nonzero (v.Number 1)) (statements body) ∷ []

abbrev switch_on_1 : List Statement → List Statement
switch_on_1 body = s.Switch (v.Number 1) s.NoCases (s.SomeDefault (statements body)) ∷ []

-- `break` leaves a loop and no `switch`; `continue` goes on from inside a `switch` too
abbrev pub LoopsLeft : Type 0
LoopsLeft = (fault16 [] (s.Break ∷ []) ≡ Some (outside main))
    × (fault16 [] (while_true (s.Break ∷ [])) ≡ None)
    × (fault16 [] (while_true (switch_on_1 (s.Break ∷ []))) ≡ Some (outside main))
    × (fault16 [] (while_true (switch_on_1 (s.Continue ∷ []))) ≡ None)
    × (fault16 [] (switch_on_1 (s.Continue ∷ [])) ≡ Some (outside main))

-- numbers over 65535 are too wide for words of 16 bits
abbrev pub WidthsJudged : Type 0
WidthsJudged = (fault16 [] (give (v.Number 65536)) ≡ Some (wide_number 65536))
    × (fault16 [] (give (v.Number 65535)) ≡ None)
    × (fault32 [] (give (v.Number 65536)) ≡ None)

-- the first fault is the leftmost one
abbrev pub LeftmostFirst : Type 0
LeftmostFirst = (fault16 [] (s.Assign (s.Set a (v.Name b)) ∷ s.Break ∷ []) ≡ Some (missing a))
    × (fault16 (d.Global a None ∷ []) (s.Assign (s.Set a (v.Name b)) ∷ s.Break ∷ [])
    ≡ Some (missing b))
    × (fault16 [] (give (v.Call f (arguments (v.Name b ∷ [])))) ≡ Some (missing f))
