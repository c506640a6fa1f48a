-- What a look-up of a name finds.
use Rattle.std.proofs.Common.{◌≡◌, ◌∙◌, ℕ, ◌<◌, List, length, get_or, map, refl, sym, ap, Option, None, Some, subst}
use Rattle.std.proofs.lemmas.Option.{slice_get_within, slice_get_read, slice_get-map}
use Rattle.std.specs.Prelude.{slice_get}
use Rattle.std.specs.Option.{option_map}
use Rattle.inform_tree.specs.declared.widths.Width.{Width}
use Rattle.inform_tree.specs.declared.programs.Directive.{Directive}
use Rattle.inform_tree.specs.Programs.{DirectiveTree, directive_of}
use Rattle.inform_names.specs.declared.meanings.Meaning.{Meaning}
use Rattle.inform_names.specs.Meanings.{meanings}
use Rattle.inform_names.specs.Laws.{IsMeaningOf}
use Rattle.inform_names.proofs.Meant.{of_directives}

inside : {A B : Type 0} (f : A → B) (xs : List A) (i : ℕ) (y : B) (o : Option A)
    → slice_get xs i ≡ o → option_map f o ≡ Some y → i < length xs
inside f xs i y None is e = absurd (cc)
inside f xs i y (Some x) is e = slice_get_within xs i x is

-- the directive that a name means is one of the program
pub within : (width : Width) (directives : List Directive) (name : List ℕ) (m : Meaning)
    → meanings width (map directive_of directives) name ≡ Some m → m.at < length directives
within width directives name m e =
    let f = of_directives width (map directive_of directives) name m e in
    inside directive_of directives m.at f.0 (slice_get directives m.at) refl
    (sym (slice_get-map directive_of directives m.at) ∙ f.1.0)

-- the directive of a number
pub at_number : (directives : List Directive) (n at : ℕ) (x : Directive) → n ≡ length directives
    → at < n → x ≡ get_or directives at x
    → slice_get (map directive_of directives) at ≡ Some (directive_of x)
at_number directives n at x size low e = slice_get-map directive_of directives at
    ∙ ap (option_map directive_of) (slice_get_read directives n at x size low e)

-- the directive with the number of a meaning is the one that is meant
pub meant : (width : Width) (program : List DirectiveTree) (name : List ℕ) (m : Meaning)
    (x : DirectiveTree)
    → meanings width program name ≡ Some m → slice_get program m.at ≡ Some x
    → IsMeaningOf width program name m x
meant width program name m x e here =
    let f = of_directives width program name m e in
    let same : f.0 ≡ x = cc (f.1.0, here) in
    subst (λ (y : DirectiveTree). IsMeaningOf width program name m y) same f.1
