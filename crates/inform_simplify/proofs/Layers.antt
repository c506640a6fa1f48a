-- What a statement of the program is, by its kind, and what it becomes.
use Rattle.std.proofs.Common.{◌≡◌, Bool, true, false, List, Option, Some, None, refl, sym, ap, subst, ◌∙◌}
use Rattle.std.specs.Global.{Vec, Box}
use Rattle.inform_tree.specs.declared.widths.Width.{Width}
use Rattle.inform_tree.specs.declared.conditions.Cond.{Cond}
use Rattle.inform_tree.specs.declared.values.Expr.{Expr}
use Rattle.inform_tree.specs.declared.statements.Head.{Head}
use Rattle.inform_tree.specs.declared.statements.Case.{Case}
use Rattle.inform_tree.specs.declared.statements.Stmt.{Stmt, roll-Stmt, out-Stmt, roll-out-Stmt}
use Rattle.inform_tree.specs.declared.statements.Stmt.TheVariants as sv
use Rattle.inform_tree.specs.declared.statements.Stmt.TheOpen as so
use Rattle.inform_tree.specs.declared.statements.Stmt.TheOpen.{Stmt-F}
use Rattle.inform_tree.specs.declared.statements.Stmt.TheFolds.{fold-roll-Stmt}
use Rattle.inform_tree.specs.Conditions.{condition_of}
use Rattle.inform_tree.specs.Statements as s
use Rattle.inform_tree.specs.Statements.{Statement, Statements, Choice, statement_step, case_step, statement_of, statements_of, cases_of}
use Rattle.inform_tree.proofs.Views.{statement_of_if, statement_of_while, statement_of_do, statement_of_for, statement_of_switch, statement_of_switch_with_default}
use Rattle.inform_simplify.specs.Tests.{truth_of, is_plain_test}
use Rattle.inform_simplify.specs.Redexes.{is_known_false, is_never_entered}
use Rattle.inform_simplify.specs.Simplifying.{is_leaf, Becomes, leaf, in_block, if_true, if_false, if_either, if_open, in_while, in_do, in_for, in_switch, Shortens, CasesShorten, no_default, some_default}

-- ---- what stays

leaf_at : (layer : Stmt-F Stmt Case) (x : Stmt) → roll-Stmt layer ≡ x
    → is_leaf (statement_of (roll-Stmt layer)) ≡ true → is_leaf (statement_of x) ≡ true
leaf_at layer x e h = subst (λ y. is_leaf (statement_of y) ≡ true) e h

-- what is none of the six kinds in which lists stand is a leaf
module _ (x : Stmt)
    (not_block : (body : Vec Stmt) → x ≡ sv.Block body → ⊥)
    (not_if : (test : Cond) (body other : Vec Stmt) → x ≡ sv.If test body other → ⊥)
    (not_while : (test : Cond) (body : Vec Stmt) → x ≡ sv.While test body → ⊥)
    (not_do : (body : Vec Stmt) (test : Cond) → x ≡ sv.Do body test → ⊥)
    (not_for : (head : Box Head) (body : Vec Stmt) → x ≡ sv.For head body → ⊥)
    (not_switch : (y : Expr) (xs : Vec Case) (rest : Option (Vec Stmt)) → x ≡ sv.Switch y xs rest → ⊥) where
  -- whichever other kind the statement is of, it is a leaf
  other_layer : (layer : Stmt-F Stmt Case) → roll-Stmt layer ≡ x → is_leaf (statement_of x) ≡ true
  other_layer so.Empty e =
      leaf_at so.Empty x e (ap is_leaf (fold-roll-Stmt Statement (List Choice × Statements) statement_step case_step so.Empty))
  other_layer (so.Change change) e =
      leaf_at (so.Change change) x e (ap is_leaf (fold-roll-Stmt Statement (List Choice × Statements) statement_step case_step (so.Change change)))
  other_layer (so.Call name xs) e =
      leaf_at (so.Call name xs) x e (ap is_leaf (fold-roll-Stmt Statement (List Choice × Statements) statement_step case_step (so.Call name xs)))
  other_layer so.Break e =
      leaf_at so.Break x e (ap is_leaf (fold-roll-Stmt Statement (List Choice × Statements) statement_step case_step so.Break))
  other_layer so.Continue e =
      leaf_at so.Continue x e (ap is_leaf (fold-roll-Stmt Statement (List Choice × Statements) statement_step case_step so.Continue))
  other_layer so.Quit e =
      leaf_at so.Quit x e (ap is_leaf (fold-roll-Stmt Statement (List Choice × Statements) statement_step case_step so.Quit))
  other_layer so.Rtrue e =
      leaf_at so.Rtrue x e (ap is_leaf (fold-roll-Stmt Statement (List Choice × Statements) statement_step case_step so.Rtrue))
  other_layer so.Rfalse e =
      leaf_at so.Rfalse x e (ap is_leaf (fold-roll-Stmt Statement (List Choice × Statements) statement_step case_step so.Rfalse))
  other_layer (so.Return value) e =
      leaf_at (so.Return value) x e (ap is_leaf (fold-roll-Stmt Statement (List Choice × Statements) statement_step case_step (so.Return value)))
  other_layer so.NewLine e =
      leaf_at so.NewLine x e (ap is_leaf (fold-roll-Stmt Statement (List Choice × Statements) statement_step case_step so.NewLine))
  other_layer (so.Print xs) e =
      leaf_at (so.Print xs) x e (ap is_leaf (fold-roll-Stmt Statement (List Choice × Statements) statement_step case_step (so.Print xs)))
  other_layer (so.Read line words) e =
      leaf_at (so.Read line words) x e (ap is_leaf (fold-roll-Stmt Statement (List Choice × Statements) statement_step case_step (so.Read line words)))
  other_layer (so.Block body) e = absurd (not_block body (sym e ∙ sv.rolls-Block body))
  other_layer (so.If test body other) e = absurd (not_if test body other (sym e ∙ sv.rolls-If test body other))
  other_layer (so.While test body) e = absurd (not_while test body (sym e ∙ sv.rolls-While test body))
  other_layer (so.Do body test) e = absurd (not_do body test (sym e ∙ sv.rolls-Do body test))
  other_layer (so.For head body) e = absurd (not_for head body (sym e ∙ sv.rolls-For head body))
  other_layer (so.Switch y xs rest) e = absurd (not_switch y xs rest (sym e ∙ sv.rolls-Switch y xs rest))

  pub others_stay : (width : Width) → Becomes width (statement_of x) (statement_of x)
  others_stay width = leaf (statement_of x) (other_layer (out-Stmt x) (roll-out-Stmt x))

-- ---- what becomes of the others

statement_of_block : (body : Vec Stmt) → statement_of (sv.Block body) ≡ s.Block (statements_of body.items)
statement_of_block body = ap statement_of (sym (sv.rolls-Block body)) ∙ fold-roll-Stmt Statement (List Choice × Statements) statement_step case_step (so.Block body)

turned : {x y x' y' : Statement} (width : Width) → x ≡ x' → y ≡ y' → Becomes width x' y' → Becomes width x y
turned {y = y} {x' = x'} width p q h = subst (λ z. Becomes width z y) (sym p) (subst (λ z. Becomes width x' z) (sym q) h)

given : (width : Width) (body taken : Vec Stmt) (new : Statements) → taken ≡ body
    → Shortens width (statements_of taken.items) new → Shortens width (statements_of body.items) new
given width body taken new same h = subst (λ v. Shortens width (statements_of v.items) new) same h

not_false : (a : Option Bool) → is_known_false a ≡ false → a ≡ Some false → ⊥
not_false (Some false) is e = cc
not_false (Some true) is e = cc
not_false None is e = cc

module _ (width : Width) (x : Stmt) where
  pub block_becomes : (body taken kept : Vec Stmt) → x ≡ sv.Block body → taken ≡ body
      → Shortens width (statements_of taken.items) (statements_of kept.items)
      → Becomes width (statement_of x) (statement_of (sv.Block kept))
  block_becomes body taken kept is same h =
      turned width (ap statement_of is ∙ statement_of_block body) (statement_of_block kept)
      (in_block _ _ (given width body taken _ same h))

  pub while_becomes : (test moved : Cond) (body taken kept : Vec Stmt) → x ≡ sv.While test body
      → moved ≡ test → taken ≡ body → is_never_entered width (statement_of x) ≡ false
      → Shortens width (statements_of taken.items) (statements_of kept.items)
      → Becomes width (statement_of x) (statement_of (sv.While moved kept))
  while_becomes test moved body taken kept is there same n h =
      let view = ap statement_of is ∙ statement_of_while test body in
      let entered = subst (λ y. is_never_entered width y ≡ false) view n in
      turned width view (statement_of_while moved kept ∙ ap (λ t. s.While (condition_of t) (statements_of kept.items)) there)
      (in_while _ _ _ (not_false (truth_of width (condition_of test)) entered) (given width body taken _ same h))

  pub do_becomes : (test moved : Cond) (body taken kept : Vec Stmt) → x ≡ sv.Do body test
      → moved ≡ test → taken ≡ body
      → Shortens width (statements_of taken.items) (statements_of kept.items)
      → Becomes width (statement_of x) (statement_of (sv.Do kept moved))
  do_becomes test moved body taken kept is there same h =
      turned width (ap statement_of is ∙ statement_of_do body test) (statement_of_do kept moved ∙ ap (λ t. s.Do (statements_of kept.items) (condition_of t)) there)
      (in_do _ _ _ (given width body taken _ same h))

  pub for_becomes : (head moved : Box Head) (body taken kept : Vec Stmt) → x ≡ sv.For head body
      → moved ≡ head → taken ≡ body
      → Shortens width (statements_of taken.items) (statements_of kept.items)
      → Becomes width (statement_of x) (statement_of (sv.For moved kept))
  for_becomes head moved body taken kept is there same h =
      turned width (ap statement_of is ∙ statement_of_for head body) (ap (λ t. statement_of (sv.For t kept)) there ∙ statement_of_for head kept)
      (in_for _ _ _ _ _ (given width body taken _ same h))

  pub switch_becomes : (y moved : Expr) (xs taken kept : Vec Case) → x ≡ sv.Switch y xs None
      → moved ≡ y → taken ≡ xs
      → CasesShorten width (cases_of taken.items) (cases_of kept.items)
      → Becomes width (statement_of x) (statement_of (sv.Switch moved kept None))
  switch_becomes y moved xs taken kept is there same h =
      turned width (ap statement_of is ∙ statement_of_switch y xs) (ap (λ t. statement_of (sv.Switch t kept None)) there ∙ statement_of_switch y kept)
      (in_switch _ _ _ _ _ (subst (λ v. CasesShorten width (cases_of v.items) (cases_of kept.items)) same h) no_default)

  pub switch_with_default_becomes : (y moved : Expr) (xs taken kept : Vec Case) (rest left new : Vec Stmt)
      → x ≡ sv.Switch y xs (Some rest) → moved ≡ y → taken ≡ xs → left ≡ rest
      → CasesShorten width (cases_of taken.items) (cases_of kept.items)
      → Shortens width (statements_of left.items) (statements_of new.items)
      → Becomes width (statement_of x) (statement_of (sv.Switch moved kept (Some new)))
  switch_with_default_becomes y moved xs taken kept rest left new is there same over h k =
      turned width (ap statement_of is ∙ statement_of_switch_with_default y xs rest) (ap (λ t. statement_of (sv.Switch t kept (Some new))) there ∙ statement_of_switch_with_default y kept new)
      (in_switch _ _ _ _ _ (subst (λ v. CasesShorten width (cases_of v.items) (cases_of kept.items)) same h) (some_default _ _ (given width rest left _ over k)))

-- ---- an `if`, by its test

module _ (width : Width) (test : Cond) (body other : Vec Stmt) (xs ys : Statements)
    (h : Shortens width xs (statements_of body.items)) (k : Shortens width ys (statements_of other.items)) where
  pub known_true : truth_of width (condition_of test) ≡ Some true
      → Becomes width (s.If (condition_of test) xs ys) (statement_of (sv.Block body))
  known_true is = turned width refl (statement_of_block body) (if_true _ _ _ _ is h)

  pub known_false : truth_of width (condition_of test) ≡ Some false
      → Becomes width (s.If (condition_of test) xs ys) (statement_of (sv.Block other))
  known_false is = turned width refl (statement_of_block other) (if_false _ _ _ _ is k)

  pub indifferent : is_plain_test (condition_of test) ≡ true → statements_of body.items ≡ statements_of other.items
      → Becomes width (s.If (condition_of test) xs ys) (statement_of (sv.Block body))
  indifferent plain same = turned width refl (statement_of_block body)
      (if_either _ _ _ _ plain h (subst (λ l. Shortens width ys l) (sym same) k))

  pub undecided : truth_of width (condition_of test) ≡ None
      → (is_plain_test (condition_of test) ≡ true → statements_of body.items ≡ statements_of other.items → ⊥)
      → Becomes width (s.If (condition_of test) xs ys) (statement_of (sv.If test body other))
  undecided unknown different = turned width refl (statement_of_if test body other)
      (if_open _ _ _ _ _ (record { unknown = unknown; different = different }) h k)
