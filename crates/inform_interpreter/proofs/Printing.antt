-- The items of `print`, one after the other.
use Rattle.std.proofs.Common.{◌≡◌, ◌∙◌, ℕ, ◌+◌, ◌≤◌, ℤ, List, ◌∷◌, map, Some, Ok, Err, refl, ap, arith}
use Rattle.adv_draws.specs.Supply.{Supply}
use Rattle.adv_io.specs.Console.{ConsoleView}
use Rattle.inform_tree.specs.declared.values.Expr.{Expr}
use Rattle.inform_tree.specs.declared.statements.Item.{Item}
use Rattle.inform_tree.specs.declared.statements.Item.TheVariants as i
use Rattle.inform_tree.specs.Depths.{items_depth}
use Rattle.inform_tree.specs.Values.{expression_of}
use Rattle.inform_tree.specs.Statements.{print_item_of}
use Rattle.inform_meaning.specs.Frames as f
use Rattle.inform_meaning.specs.Frames.{Outcome, Value, Wants}
use Rattle.inform_interpreter.specs.declared.exits.Exit.{Exit}
use Rattle.inform_interpreter.specs.declared.interpreters.Interpreter.{Interpreter}
use Rattle.inform_interpreter.specs.Interpreters.{left_by}
use Rattle.inform_interpreter.specs.Doing.{Part, Does, Comes, begun, wanted, then_handed, Joins, Says}
use Rattle.inform_interpreter.proofs.Doing.{saying_part}
use Rattle.inform_interpreter.proofs.Arms.{leaves, next-wants, then-does, said-on, said-not}

-- these items are printed
abbrev pub printed : List Item → Part
printed xs = begun (f.Prints (map print_item_of xs))

module _ (xs others : List Item) (item : Item) (is : xs ≡ item ∷ others) where
  text-is : (text : List ℕ) → item ≡ i.Text text → printed xs ≡ saying_part text (printed others)
  text-is text kind = ap printed (is ∙ ap (λ x. x ∷ others) kind)

  value-is : (e : Expr) → item ≡ i.Value e
      → printed xs ≡ then_handed (begun (f.Evals (expression_of e))) (Wants (f.SaysNumber (map print_item_of others)))
  value-is e kind = ap printed (is ∙ ap (λ x. x ∷ others) kind)

  char-is : (e : Expr) → item ≡ i.Char e
      → printed xs ≡ then_handed (begun (f.Evals (expression_of e))) (Wants (f.SaysChar (map print_item_of others)))
  char-is e kind = ap printed (is ∙ ap (λ x. x ∷ others) kind)

  module _ {whole : Part} {old mid : Interpreter} {a b : ConsoleView} {x y : Supply}
      (so-far : Comes whole (printed xs) old mid a b x y) where
    -- a text was said
    pub text-said : {T : Type 0} {new : Interpreter} {c : ConsoleView} (v : T) (text : List ℕ)
        → item ≡ i.Text text → Says text mid new b c (Ok v)
        → Comes whole (printed others) old new a c x y
    text-said v text kind said = said-on v text (printed others) (text-is text kind) so-far said

    pub text-not : {T : Type 0} {new : Interpreter} {c : ConsoleView} {exit : Exit} (h : ℕ) (text : List ℕ)
        → item ≡ i.Text text → Says {T = T} text mid new b c (Err exit)
        → Does h whole old new a c x y (left_by new exit)
    text-not h text kind said =
        said-not h text (f.Prints (map print_item_of others)) (text-is text kind) so-far said

    -- a number is known
    pub number-next : {n : ℕ} {new : Interpreter} {c : ConsoleView} {z : Supply} {v : ℤ} (e : Expr)
        → item ≡ i.Value e → Does n (begun (f.Evals (expression_of e))) mid new b c y z (Some (Value v))
        → Comes whole (wanted (f.SaysNumber (map print_item_of others)) v) old new a c x z
    number-next e kind d = next-wants (begun (f.Evals (expression_of e))) so-far
        (f.SaysNumber (map print_item_of others)) (value-is e kind) d

    pub number-left : {n h : ℕ} {new now : Interpreter} {c : ConsoleView} {z : Supply} {exit result : Exit} (e : Expr)
        → item ≡ i.Value e → items_depth (map print_item_of others) + 1 ≤ h → n + 1 ≤ h → result ≡ exit
        → Does n (begun (f.Evals (expression_of e))) mid new b c y z (left_by new exit)
        → Joins exit (Wants (f.SaysNumber (map print_item_of others))) new now
        → Does h whole old now a c x z (left_by now result)
    number-left {h = h} e kind high fits same d j = then-does (printed xs) (value-is e kind) (omega arith) so-far
        (leaves {h = h} (begun (f.Evals (expression_of e))) (Wants (f.SaysNumber (map print_item_of others)))
        tt refl tt tt high fits same d j)

    -- the number of a byte is known
    pub char-next : {n : ℕ} {new : Interpreter} {c : ConsoleView} {z : Supply} {v : ℤ} (e : Expr)
        → item ≡ i.Char e → Does n (begun (f.Evals (expression_of e))) mid new b c y z (Some (Value v))
        → Comes whole (wanted (f.SaysChar (map print_item_of others)) v) old new a c x z
    char-next e kind d = next-wants (begun (f.Evals (expression_of e))) so-far
        (f.SaysChar (map print_item_of others)) (char-is e kind) d

    pub char-left : {n h : ℕ} {new now : Interpreter} {c : ConsoleView} {z : Supply} {exit result : Exit} (e : Expr)
        → item ≡ i.Char e → items_depth (map print_item_of others) + 1 ≤ h → n + 1 ≤ h → result ≡ exit
        → Does n (begun (f.Evals (expression_of e))) mid new b c y z (left_by new exit)
        → Joins exit (Wants (f.SaysChar (map print_item_of others))) new now
        → Does h whole old now a c x z (left_by now result)
    char-left {h = h} e kind high fits same d j = then-does (printed xs) (char-is e kind) (omega arith) so-far
        (leaves {h = h} (begun (f.Evals (expression_of e))) (Wants (f.SaysChar (map print_item_of others)))
        tt refl tt tt high fits same d j)
