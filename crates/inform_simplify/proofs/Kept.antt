-- A list that is simplified from its first statement on: what is kept so far, and what is left.
use Rattle.std.proofs.Common.{◌≡◌, Bool, length, map, true, false, List, [], ◌∷◌, ◌++◌, Option, Some, None, refl, sym, ap, subst, ◌∙◌, arith}
use Rattle.std.proofs.lemmas.List.{append_assoc, append-nil}
use Rattle.std.specs.Global.{Vec}
use Rattle.inform_tree.specs.declared.widths.Width.{Width}
use Rattle.inform_tree.specs.Statements as s
use Rattle.inform_tree.specs.declared.statements.Stmt.{Stmt}
use Rattle.inform_tree.specs.declared.statements.Case.{Case}
use Rattle.inform_tree.specs.declared.statements.Stmt.TheFolds.{fold_out-Case}
use Rattle.inform_tree.specs.Statements.{Statement, Statements, Cases, Choice, statements, cases, statement_step, case_step, statement_of, statements_of, case_of, cases_of}
use Rattle.inform_tree.specs.declared.programs.Directive.{Directive}
use Rattle.inform_tree.specs.Programs.{DirectiveTree, directive_of}
use Rattle.inform_simplify.specs.Tests.{truth_of}
use Rattle.inform_simplify.specs.Redexes.{leaves, is_known_false, is_never_entered}
use Rattle.inform_simplify.specs.Simplifying.{Shortens, nothing, each, cut, dropped, Becomes, leaf, in_block, if_true, if_false, if_either, if_open, in_while, in_do, in_for, in_switch, CasesShorten, no_cases, each_case, DirectiveShortens, ProgramShortens, no_directives, each_directive}

-- ---- any list

-- whatever what is left turns to, the whole turns to what is kept and then that
pub record Keeps {L E : Type 0} (Turns : L → L → Type 0) (tree : List E → L) (all : L) (kept : List E) (left : L) : Type 0 where
  pub whole : (rest : List E) → Turns left (tree rest) → Turns all (tree (kept ++ rest))

appended : {A : Type 0} (xs : List A) (x : A) (ys : List A) → (xs ++ (x ∷ [])) ++ ys ≡ xs ++ (x ∷ ys)
appended xs x ys = append_assoc xs (x ∷ []) ys

pushed : {A B : Type 0} (f : A → B) (xs : List A) (x : A) → map f (xs ++ (x ∷ [])) ≡ map f xs ++ (f x ∷ [])
pushed f [] x = refl
pushed f (y ∷ ys) x = ap (λ l. f y ∷ l) (pushed f ys x)

is_empty : {A : Type 0} (xs : List A) → length xs ≡ 0 → xs ≡ []
is_empty [] e = refl
is_empty (x ∷ xs) e = absurd (omega arith)

module _ {L E : Type 0} (Turns : L → L → Type 0) (tree : List E → L) (all : L) where
  one_more : (kept : List E) (x : E) (left after : L) → Keeps Turns tree all kept left
      → ((rest : List E) → Turns after (tree rest) → Turns left (tree (x ∷ rest)))
      → Keeps Turns tree all (kept ++ (x ∷ [])) after
  one_more kept x left after k step = record {
    whole = λ rest h. subst (λ l. Turns all (tree l)) (sym (appended kept x rest)) (k.whole (x ∷ rest) (step rest h));
  }

  none_left : (kept : List E) → Keeps Turns tree all kept (tree []) → Turns (tree []) (tree [])
      → Turns all (tree kept)
  none_left kept k end = subst (λ l. Turns all (tree l)) (append-nil kept) (k.whole [] end)

-- ---- statements

abbrev pub StatementsKept : Width → Statements → List Statement → Statements → Type 0
StatementsKept width = Keeps (Shortens width) statements

known_false : (a : Option Bool) → is_known_false a ≡ true → a ≡ Some false
known_false (Some false) is = refl
known_false (Some true) is = cc
known_false None is = cc

-- a loop that is never entered isn't kept
pub one_dropped : (width : Width) (all : Statements) (kept : List Statement) (x : Statement) (left : Statements)
    → StatementsKept width all kept (s.MoreStatements x left) → is_never_entered width x ≡ true
    → StatementsKept width all kept left
one_dropped width all kept (s.While test body) left k is = record {
  whole = λ rest h. k.whole rest (dropped test body left (statements rest) (known_false (truth_of width test) is) h);
}
one_dropped width all kept s.Empty left k is = cc
one_dropped width all kept (s.Block body) left k is = cc
one_dropped width all kept (s.Assign x) left k is = cc
one_dropped width all kept (s.Call name xs) left k is = cc
one_dropped width all kept (s.If x body other) left k is = cc
one_dropped width all kept (s.Do body x) left k is = cc
one_dropped width all kept (s.For first x change body) left k is = cc
one_dropped width all kept (s.Switch x xs rest) left k is = cc
one_dropped width all kept s.Break left k is = cc
one_dropped width all kept s.Continue left k is = cc
one_dropped width all kept s.Quit left k is = cc
one_dropped width all kept s.Rtrue left k is = cc
one_dropped width all kept s.Rfalse left k is = cc
one_dropped width all kept (s.Return x) left k is = cc
one_dropped width all kept s.NewLine left k is = cc
one_dropped width all kept (s.Print xs) left k is = cc
one_dropped width all kept (s.Read line words) left k is = cc

-- a statement that leaves was such a one before
left_alone : (width : Width) (x x' : Statement) → Becomes width x x' → leaves x' ≡ true → x ≡ x'
left_alone width x x' (leaf y is) n = refl
left_alone width x x' (in_block body body' h) n = cc
left_alone width x x' (if_true test body other body' is h) n = cc
left_alone width x x' (if_false test body other other' is h) n = cc
left_alone width x x' (if_either test body other both is h k) n = cc
left_alone width x x' (if_open test body other body' other' is h k) n = cc
left_alone width x x' (in_while test body body' is h) n = cc
left_alone width x x' (in_do body body' test h) n = cc
left_alone width x x' (in_for first test change body body' h) n = cc
left_alone width x x' (in_switch y xs xs' rest rest' h k) n = cc

-- and nothing after it is kept
pub last_kept : (width : Width) (all : Statements) (kept : List Statement) (x x' : Statement) (left : Statements)
    → StatementsKept width all kept (s.MoreStatements x left) → Becomes width x x' → leaves x' ≡ true
    → Shortens width all (statements (kept ++ (x' ∷ [])))
last_kept width all kept x x' left k b is =
    let same = left_alone width x x' b is in
    k.whole (x' ∷ []) (subst (λ y. Shortens width (s.MoreStatements y left) (s.MoreStatements x' s.NoStatements)) (sym same) (cut x' left is))

-- ---- the statements of the program

module _ (width : Width) (all : Statements) (kept before : List Stmt) (x : Stmt) (after : List Stmt)
    (next : before ≡ x ∷ after) (keeps : StatementsKept width all (map statement_of kept) (statements_of before)) where
  so_far : StatementsKept width all (map statement_of kept) (s.MoreStatements (statement_of x) (statements_of after))
  so_far = subst (λ l. StatementsKept width all (map statement_of kept) (statements_of l)) next keeps

  pub drops : is_never_entered width (statement_of x) ≡ true
      → StatementsKept width all (map statement_of kept) (statements_of after)
  drops is = one_dropped width all _ (statement_of x) _ so_far is

  module _ (x' : Stmt) (new : List Stmt) (push : new ≡ kept ++ (x' ∷ []))
      (becomes : Becomes width (statement_of x) (statement_of x')) where
    longer : map statement_of new ≡ map statement_of kept ++ (statement_of x' ∷ [])
    longer = ap (map statement_of) push ∙ pushed statement_of kept x'

    pub goes_on : leaves (statement_of x') ≡ false
        → StatementsKept width all (map statement_of new) (statements_of after)
    goes_on is = subst (λ l. StatementsKept width all l (statements_of after)) (sym longer)
        (one_more (Shortens width) statements all _ (statement_of x') _ _ so_far
        (λ rest h. each _ _ _ (statements rest) is becomes h))

    pub ends_here : leaves (statement_of x') ≡ true → Shortens width all (statements_of new)
    ends_here is = subst (λ l. Shortens width all (statements l)) (sym longer)
        (last_kept width all _ (statement_of x) (statement_of x') _ so_far becomes is)

pub ends : (width : Width) (all : Statements) (kept left : List Stmt) → length left ≡ 0
    → StatementsKept width all (map statement_of kept) (statements_of left)
    → Shortens width all (statements_of kept)
ends width all kept left none keeps =
    none_left (Shortens width) statements all (map statement_of kept)
    (subst (λ l. StatementsKept width all (map statement_of kept) (statements_of l)) (is_empty left none) keeps)
    nothing

-- ---- cases

abbrev pub CasesKept : Width → Cases → List (List Choice × Statements) → Cases → Type 0
CasesKept width = Keeps (CasesShorten width) cases

case_is : (x : Case) → case_of x ≡ (x.choices.items, statements_of x.body.items)
case_is x = fold_out-Case Statement (List Choice × Statements) statement_step case_step x

-- a case whose body was simplified is added to those that are kept, and those after it are left
pub case_goes_on : (width : Width) (all : Cases) (kept before : List Case) (x : Case) (after : List Case)
    (x' : Case) (new : List Case) (taken : Vec Stmt) → before ≡ x ∷ after → new ≡ kept ++ (x' ∷ [])
    → x'.choices ≡ x.choices → taken ≡ x.body
    → Shortens width (statements_of taken.items) (statements_of x'.body.items)
    → CasesKept width all (map case_of kept) (cases_of before)
    → CasesKept width all (map case_of new) (cases_of after)
case_goes_on width all kept before x after x' new taken next push same body h keeps =
    let so_far : CasesKept width all (map case_of kept) (s.MoreCases x.choices.items (statements_of x.body.items) (cases_of after)) =
    subst (λ v. CasesKept width all (map case_of kept) (s.MoreCases v.0 v.1 (cases_of after))) (case_is x)
    (subst (λ l. CasesKept width all (map case_of kept) (cases_of l)) next keeps) in
    let shorter = subst (λ v. Shortens width (statements_of v.items) (statements_of x'.body.items)) body h in
    let longer : map case_of new ≡ map case_of kept ++ ((x.choices.items, statements_of x'.body.items) ∷ []) =
    ap (map case_of) push ∙ pushed case_of kept x' ∙ ap (λ v. map case_of kept ++ (v ∷ [])) (case_is x') ∙ ap (λ v. map case_of kept ++ ((v.items, statements_of x'.body.items) ∷ [])) same in
    subst (λ l. CasesKept width all l (cases_of after)) (sym longer)
    (one_more (CasesShorten width) cases all _ _ _ _ so_far
    (λ rest h. each_case _ _ _ _ (cases rest) shorter h))

pub cases_end : (width : Width) (all : Cases) (kept left : List Case) → length left ≡ 0
    → CasesKept width all (map case_of kept) (cases_of left) → CasesShorten width all (cases_of kept)
cases_end width all kept left none keeps =
    none_left (CasesShorten width) cases all (map case_of kept)
    (subst (λ l. CasesKept width all (map case_of kept) (cases_of l)) (is_empty left none) keeps)
    no_cases

-- ---- directives

abbrev pub DirectivesKept : Width → List DirectiveTree → List DirectiveTree → List DirectiveTree → Type 0
DirectivesKept width = Keeps (ProgramShortens width) (λ xs. xs)

-- a directive that was simplified is added to those that are kept, and those after it are left
pub directive_goes_on : (width : Width) (all : List DirectiveTree) (kept before : List Directive) (x : Directive) (after : List Directive)
    (x' : Directive) (new : List Directive) → before ≡ x ∷ after → new ≡ kept ++ (x' ∷ [])
    → DirectiveShortens width (directive_of x) (directive_of x')
    → DirectivesKept width all (map directive_of kept) (map directive_of before)
    → DirectivesKept width all (map directive_of new) (map directive_of after)
directive_goes_on width all kept before x after x' new next push shorter keeps =
    let so_far : DirectivesKept width all (map directive_of kept) (directive_of x ∷ map directive_of after) =
    subst (λ l. DirectivesKept width all (map directive_of kept) (map directive_of l)) next keeps in
    let longer : map directive_of new ≡ map directive_of kept ++ (directive_of x' ∷ []) =
    ap (map directive_of) push ∙ pushed directive_of kept x' in
    subst (λ l. DirectivesKept width all l (map directive_of after)) (sym longer)
    (one_more (ProgramShortens width) (λ xs. xs) all _ _ _ _ so_far
    (λ rest h. each_directive _ _ _ rest shorter h))

pub directives_end : (width : Width) (all : List DirectiveTree) (kept left : List Directive) → length left ≡ 0
    → DirectivesKept width all (map directive_of kept) (map directive_of left)
    → ProgramShortens width all (map directive_of kept)
directives_end width all kept left none keeps =
    none_left (ProgramShortens width) (λ xs. xs) all (map directive_of kept)
    (subst (λ l. DirectivesKept width all (map directive_of kept) (map directive_of l)) (is_empty left none) keeps)
    no_directives
