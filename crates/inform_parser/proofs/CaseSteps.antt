-- The cases of a `switch`, from what stands in its braces.
use Rattle.std.proofs.Common.{◌≡◌, List, [], ◌∷◌, ◌++◌, map, length, refl, sym, ap, ◌∙◌, append_assoc}
use Rattle.std.proofs.lemmas.List.{append-nil}
use Rattle.inform_tree.specs.declared.statements.Case.{Case}
use Rattle.inform_tree.specs.declared.statements.Stmt.TheFolds.{fold-roll-Case}
use Rattle.inform_tree.specs.declared.statements.Case as made
use Rattle.inform_tree.specs.Statements as s
use Rattle.inform_tree.specs.Statements.{Statement, Statements, Choice, statement_step, case_step, statement_of, statements, case_of, cases}
use Rattle.inform_grammar.specs.Rules.{SwitchPart, Head, Said}
use Rattle.inform_grammar.specs.Trees.{cases_tree}
use Rattle.inform_grammar.specs.StatementRules.{split_parts, cases_of}
use Rattle.inform_parser.specs.declared.parts.Part.{Part}
use Rattle.inform_parser.specs.Parts.{part_of}
use Rattle.inform_parser.proofs.Loops.{map_push}

abbrev pub Pair : Type 0
Pair = List Choice × Statements

-- the cases, where these are done, and the next one has these choices and these statements so far
abbrev pub gathered : List Pair → List Choice → List Statement → List SwitchPart → List Pair
gathered front xs ys [] = front ++ (xs, statements ys) ∷ []
gathered front xs ys (Said y ∷ ps) = gathered front xs (ys ++ y ∷ []) ps
gathered front xs ys (Head zs ∷ ps) = gathered (front ++ (xs, statements ys) ∷ []) zs [] ps

abbrev closed : List Choice × List Statement → Pair
closed c = (c.0, statements c.1)

-- they are those of the definition
is_gathered : (front : List Pair) (xs : List Choice) (ys : List Statement) (ps : List SwitchPart)
    → gathered front xs ys ps ≡ front ++ (xs, statements (ys ++ (split_parts ps).0)) ∷ map closed (split_parts ps).1
is_gathered front xs ys [] = ap (λ (zs : List Statement). front ++ (xs, statements zs) ∷ []) (sym (append-nil ys))
is_gathered front xs ys (Said y ∷ ps) =
    is_gathered front xs (ys ++ y ∷ []) ps
    ∙ ap (λ (zs : List Statement). front ++ (xs, statements zs) ∷ map closed (split_parts ps).1) (append_assoc ys (y ∷ []) (split_parts ps).0)
is_gathered front xs ys (Head zs ∷ ps) =
    is_gathered (front ++ (xs, statements ys) ∷ []) zs [] ps
    ∙ append_assoc front ((xs, statements ys) ∷ []) ((zs, statements (split_parts ps).0) ∷ map closed (split_parts ps).1)
    ∙ ap (λ (us : List Statement). front ++ (xs, statements us) ∷ (zs, statements (split_parts ps).0) ∷ map closed (split_parts ps).1) (sym (append-nil ys))

trees : (cs : List (List Choice × List Statement)) → cases (map closed cs) ≡ cases_tree cs
trees [] = refl
trees (c ∷ cs) = ap (λ (more : s.Cases). s.MoreCases c.0 (statements c.1) more) (trees cs)

pub whole : (xs : List Choice) (ps : List SwitchPart) → cases (gathered [] xs [] ps) ≡ cases_tree (cases_of xs ps)
whole xs ps = ap cases (is_gathered [] xs [] ps) ∙ trees (cases_of xs ps)

-- the case that is last
ended : (front : List Pair) (xs : List Choice) (ys : List Statement) (rest : List Part) → rest ≡ [] → gathered front xs ys (map part_of rest) ≡ front ++ (xs, statements ys) ∷ []
ended front xs ys rest e = rw e refl

pub finished : (done items : List Case) (last : Case) (rest : List Part) (xs : List Choice) (ps : List SwitchPart) → items ≡ done ++ last ∷ [] → rest ≡ []
    → case_of last ≡ (last.choices.items, statements (map statement_of last.body.items))
    → gathered (map case_of done) last.choices.items (map statement_of last.body.items) (map part_of rest) ≡ gathered [] xs [] ps
    → cases (map case_of items) ≡ cases_tree (cases_of xs ps)
finished done items last rest xs ps push none made same =
    ap (λ (items : List Case). cases (map case_of items)) push
    ∙ ap cases (map_push case_of done last)
    ∙ ap (λ (p : Pair). cases (map case_of done ++ p ∷ [])) made
    ∙ sym (ap cases (ended (map case_of done) last.choices.items (map statement_of last.body.items) rest none))
    ∙ ap cases same ∙ whole xs ps

pub no_more : {A : Type 0} (xs : List A) → length xs ≡ 0 → xs ≡ []
no_more [] e = refl
no_more (x ∷ xs) e = absurd (cc)

-- the tree of a case
pub case_made : (c : Case) → case_of c ≡ (c.choices.items, statements (map statement_of c.body.items))
case_made c = ap case_of (sym (made.roll-out-Case c)) ∙ fold-roll-Case Statement Pair statement_step case_step (record { choices = c.choices; body = c.body })
