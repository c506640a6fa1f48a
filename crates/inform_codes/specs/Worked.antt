-- Worked routines: the trees that codes grow into, spelled out.
use Rattle.std.specs.Prelude.{ℕ, ◌≡◌, true, false, List, [], ◌∷◌, Some, None, map, codes}
use Rattle.inform_tree.specs.declared.values.Const.TheVariants as k
use Rattle.inform_tree.specs.declared.values.SumOp.TheVariants.{Sub}
use Rattle.inform_tree.specs.declared.conditions.Relation.TheVariants.{Eq, Le}
use Rattle.inform_tree.specs.Values as v
use Rattle.inform_tree.specs.Values.{Expression, arguments}
use Rattle.inform_tree.specs.Conditions as c
use Rattle.inform_tree.specs.Conditions.{Condition}
use Rattle.inform_tree.specs.Statements as s
use Rattle.inform_tree.specs.Statements.{Statement, Statements, statements}
use Rattle.inform_tree.specs.Programs as d
use Rattle.inform_tree.specs.Programs.{DirectiveTree}
use Rattle.inform_tree.specs.Depths.{statements_depth}
use Rattle.inform_tree.specs.Words.{is_number}
use Rattle.inform_tree.specs.Formed.{is_well_formed}
use Rattle.inform_codes.specs.declared.examples.TheConstants.{NAMES, ROUTINES, CARRIED, ANSWER, MESSAGE, CALL, FORK}
use Rattle.inform_codes.specs.Grown.{body_of, before_of, fork_of}
use Rattle.inform_codes.specs.Routines.{rows_directives}
use Rattle.inform_codes.specs.Laws.{IsBody}

abbrev names : List (List ℕ)
names = map (λ name. name.now) NAMES

abbrev variable : List ℕ → Expression
variable name = v.Name name

-- ---- `for (i = 0: i <= highest: i++) if (item-->i == 255) n++; return n;`

abbrev is_carried : Condition
is_carried = c.Compare Eq (v.Entry (codes "item") true (variable (codes "i"))) (v.Number 255)

abbrev counted : Statement
counted = s.If is_carried (statements (s.Assign (s.Inc (codes "n")) ∷ [])) s.NoStatements

abbrev up_to : ℕ → Statement → Statement
up_to highest turn =
    let set = s.Set (codes "i") (v.Number 0) in
    let test = c.Compare Le (variable (codes "i")) (v.Number highest) in
    s.For (Some set) (Some test) (Some (s.Inc (codes "i"))) (statements (turn ∷ []))

abbrev carried : ℕ → Statements
carried highest =
    statements (up_to highest counted ∷ s.Return (Some (variable (codes "n"))) ∷ [])

abbrev pub CarriedGrown : Type 0
CarriedGrown = (highest : ℕ) → body_of names (highest ∷ []) CARRIED ≡ carried highest

-- the loop, its `if`, the test, the entry and its index
abbrev pub CarriedDepth : Type 0
CarriedDepth = (highest : ℕ) → statements_depth (body_of names (highest ∷ []) CARRIED) ≡ 5

-- it is a body, and nothing else waits before it
abbrev pub CarriedIsBody : Type 0
CarriedIsBody = (highest : ℕ) → IsBody names (highest ∷ []) CARRIED

-- ---- `switch (x) { 1, 3 to 5: switch (n) { 2: rtrue; } default: say(x - 1, n); }`
-- ---- `flag->n = x; print "Well?";`

abbrev inner : Statement
inner =
    let cases = s.MoreCases ((k.Number 2, None) ∷ []) (statements (s.Rtrue ∷ [])) s.NoCases in
    s.Switch (variable (codes "n")) cases s.NoDefault

abbrev said : Statement
said =
    let less_one = v.Sum (variable (codes "x")) (v.MoreTerms Sub (v.Number 1) v.NoTerms) in
    s.Call (codes "say") (arguments (less_one ∷ variable (codes "n") ∷ []))

abbrev outer : Statement
outer =
    let choices = (k.Number 1, None) ∷ (k.Number 3, Some (k.Number 5)) ∷ [] in
    let cases = s.MoreCases choices (statements (inner ∷ [])) s.NoCases in
    s.Switch (variable (codes "x")) cases (s.SomeDefault (statements (said ∷ [])))

abbrev flagged : Statement
flagged = s.Assign (s.SetEntry (codes "flag") false (variable (codes "n")) (variable (codes "x")))

abbrev answer : Statements
answer = statements (outer ∷ flagged ∷ s.Print (s.Text (codes "Well?") ∷ []) ∷ [])

abbrev pub AnswerGrown : Type 0
AnswerGrown = body_of names [] ANSWER ≡ answer

-- ---- both as a table

abbrev table : ℕ → List DirectiveTree
table highest =
    rows_directives names (highest ∷ []) (map (λ row. (row.0, row.1.now, row.2.now)) ROUTINES)

abbrev routine : List ℕ → List (List ℕ) → Statements → DirectiveTree
routine name locals body = d.Routine (record { name = name; locals = locals; body = body })

-- each routine is its name, its locals and its codes, which need not be grown for that
abbrev pub RoutinesListed : Type 0
RoutinesListed = (highest : ℕ)
    → table highest
    ≡ routine (codes "carried") (codes "i" ∷ codes "n" ∷ []) (body_of names (highest ∷ []) CARRIED)
    ∷ routine (codes "answer") (codes "x" ∷ codes "n" ∷ []) (body_of names (highest ∷ []) ANSWER)
    ∷ []

-- it is well formed where the number that is handed in may stand in a program
abbrev pub RoutinesFormed : Type 0
RoutinesFormed = (highest : ℕ) → is_number highest ≡ true → is_well_formed (table highest) ≡ true

-- ---- names, numbers and blocks that are handed in

-- `print "..."; new_line;`
abbrev pub MessageGrown : Type 0
MessageGrown = (text : List ℕ)
    → body_of (text ∷ []) [] MESSAGE ≡ statements (s.Print (s.Text text ∷ []) ∷ s.NewLine ∷ [])

-- `f();` before other statements
abbrev pub CallGrown : Type 0
CallGrown = (name : List ℕ) (after : Statements)
    → before_of (name ∷ []) [] CALL after ≡ s.MoreStatements (s.Call name v.NoArguments) after

abbrev is_nonzero_call : List ℕ → ℕ → Condition
is_nonzero_call name n = c.Nonzero (v.Call name (arguments (v.Number n ∷ [])))

-- `if (f(n)) .. else ..` before other statements
abbrev pub ForkGrown : Type 0
ForkGrown = (name : List ℕ) (n : ℕ) (body other after : Statements)
    → fork_of (name ∷ []) (n ∷ []) FORK body other after
    ≡ s.MoreStatements (s.If (is_nonzero_call name n) body other) after
