-- Which directive a name means.
use Rattle.std.proofs.Common.{◌≡◌, ◌∙◌, ℕ, ◌+◌, ◌<◌, ◌≤◌, Bool, true, false, cond, List, [], ◌∷◌, take, refl, sym, ap, arith, Option, None, Some, zero, suc, lt-ltb}
use Rattle.std.proofs.lemmas.Bool.{le-ltb}
use Rattle.std.proofs.lemmas.Option.{cond_some}
use Rattle.std.specs.Prelude.{slice_get}
use Rattle.std.specs.List.{position_from}
use Rattle.std.specs.Option.{option_or, option_map}
use Rattle.std.specs.Str.{bytes_eq}
use Rattle.std.proofs.lemmas.Slice.Eq.{bytes_eq-Decides}
use Rattle.inform_tree.specs.declared.widths.Width.{Width}
use Rattle.inform_tree.specs.Programs.{DirectiveTree}
use Rattle.inform_names.specs.declared.meanings.Meaning.{Meaning}
use Rattle.inform_names.specs.Meanings.{Known, nothing_known, name_of, kind_of, own, with_directive, meanings_from, meanings, earlier}
use Rattle.inform_names.specs.Laws.{IsMeaningOf}

-- ---- one directive

-- a name that was known stays
pub stays : (width : Width) (known : Known) (at : ℕ) (directive : DirectiveTree) (name : List ℕ)
    (m : Meaning)
    → known name ≡ Some m → with_directive width known at directive name ≡ Some m
stays width known at directive name m e = ap (λ (o : Option Meaning). option_or o
    (cond (bytes_eq name (name_of directive)) (Some (own width known at directive)) None)) e

-- one that wasn't means the directive, if it is the directive's
pub becomes : (width : Width) (known : Known) (at : ℕ) (directive : DirectiveTree) (name : List ℕ)
    (same : Bool)
    → known name ≡ None → bytes_eq name (name_of directive) ≡ same
    → with_directive width known at directive name
    ≡ cond same (Some (own width known at directive)) None
becomes width known at directive name same none is =
    ap (λ (o : Option Meaning). option_or o (cond (bytes_eq name (name_of directive))
    (Some (own width known at directive)) None)) none
    ∙ ap (λ (b : Bool). cond b (Some (own width known at directive)) None) is

-- ---- several directives

pub all_stays : (width : Width) (directives : List DirectiveTree) (known : Known) (at : ℕ)
    (name : List ℕ) (m : Meaning)
    → known name ≡ Some m → meanings_from width known at directives name ≡ Some m
all_stays width [] known at name m e = e
all_stays width (directive ∷ directives) known at name m e =
    all_stays width directives (with_directive width known at directive) (at + 1) name m
    (stays width known at directive name m e)

-- what is known of the directive that a name means, of these directives
abbrev Found : Width → List DirectiveTree → Known → ℕ → List ℕ → Meaning → Type 0
Found width directives known at name m = (i : ℕ) × (directive : DirectiveTree) × (m.at ≡ at + i)
    × (slice_get directives i ≡ Some directive)
    × (name_of directive ≡ name)
    × (m.kind ≡ kind_of width (meanings_from width known at (take i directives)) directive)

-- a name of the first directive that means just this one is found there
found_here : (width : Width) (directive : DirectiveTree) (directives : List DirectiveTree)
    (known : Known) (at : ℕ) (name : List ℕ) (m : Meaning)
    → name_of directive ≡ name → m ≡ own width known at directive
    → Found width (directive ∷ directives) known at name m
found_here width directive directives known at name m same e = (
  0,
  directive,
  (let f = ap (λ (x : Meaning). x.at) e in omega (arith, f)),
  refl,
  same,
  ap
      (λ (x : Meaning). x.kind) e,
)

found_later : (width : Width) (directive : DirectiveTree) (directives : List DirectiveTree)
    (known : Known) (at : ℕ) (name : List ℕ) (m : Meaning)
    → Found width directives (with_directive width known at directive) (at + 1) name m
    → Found width (directive ∷ directives) known at name m
found_later width directive directives known at name m f =
    (suc f.0, f.1, (let e = f.2 in omega (arith, e)), f.3, f.4, f.5)

-- a name that isn't known yet is found at the first directive, if it is its name, or at a later one
found_by : (width : Width) (directive : DirectiveTree) (directives : List DirectiveTree)
    (known : Known) (at : ℕ) (name : List ℕ) (m : Meaning) (same : Bool)
    → known name ≡ None → meanings_from width (with_directive width known at directive)
    (at + 1) directives name ≡ Some m
    → (with_directive width known at directive name ≡ None
    → Found width directives (with_directive width known at directive) (at + 1) name m)
    → bytes_eq name (name_of directive) ≡ same
    → Found width (directive ∷ directives) known at name m
found_by width directive directives known at name m true none e later is =
    let stands : meanings_from width (with_directive width known at directive)
    (at + 1) directives name ≡ Some (own width known at directive) =
    all_stays width directives (with_directive width known at directive) (at + 1) name
    (own width known at directive) (becomes width known at directive name true none is) in
    let equal : m ≡ own width known at directive = cc in
    found_here width directive directives known at name m
    (sym ((bytes_eq-Decides name (name_of directive)).0 is)) equal
found_by width directive directives known at name m false none e later is =
    found_later width directive directives known at name m
    (later (becomes width known at directive name false none is))

pub found : (width : Width) (directives : List DirectiveTree) (known : Known) (at : ℕ)
    (name : List ℕ) (m : Meaning)
    → known name ≡ None → meanings_from width known at directives name ≡ Some m
    → Found width directives known at name m
found width [] known at name m none e = absurd (cc)
found width (directive ∷ directives) known at name m none e =
    found_by width directive directives known at name m (bytes_eq name (name_of directive)) none e
    (λ later. found width directives (with_directive width known at directive)
    (at + 1) name m later e)
    refl

-- each meaning of a name is that of a directive of the program, which has this name
pub of_directives : (width : Width) (program : List DirectiveTree) (name : List ℕ) (m : Meaning)
    → meanings width program name ≡ Some m → (directive : DirectiveTree)
    × IsMeaningOf width program name m directive
of_directives width program name m e =
    let f = found width program nothing_known 0 name m refl e in
    let here : m.at ≡ f.0 = (let at = f.2 in omega (arith, at)) in (
      f.1,
      (
        ap (slice_get program) here ∙ f.3,
        f.4,
        f.5 ∙ ap (λ (i : ℕ). kind_of width (meanings width (take i program)) f.1) (sym here),
      ),
    )

-- ---- the first directive of a name

-- a name that isn't known yet means the first directive that has it: this one, or else a later one
at_first : (width : Width) (directives : List DirectiveTree) (known : Known) (at : ℕ)
    (name : List ℕ) (same : Bool)
    → (directive : DirectiveTree)
    → known name ≡ None
    → (with_directive width known at directive name ≡ None
    → option_map (λ m. m.at) (meanings_from width (with_directive width known at directive)
    (at + 1) directives name) ≡ position_from (λ x. bytes_eq name (name_of x)) (at + 1) directives)
    → bytes_eq name (name_of directive) ≡ same
    → option_map (λ m. m.at) (meanings_from width (with_directive width known at directive)
    (at + 1) directives name) ≡ cond same (Some at)
    (position_from (λ x. bytes_eq name (name_of x)) (at + 1) directives)
at_first width directives known at name true directive none later is =
    ap (option_map (λ (m : Meaning). m.at)) (all_stays width directives
    (with_directive width known at directive) (at + 1) name (own width known at directive)
    (becomes width known at directive name true none is))
at_first width directives known at name false directive none later is =
    later (becomes width known at directive name false none is)

pub first_from : (width : Width) (directives : List DirectiveTree) (known : Known) (at : ℕ)
    (name : List ℕ) → known name ≡ None
    → option_map (λ m. m.at) (meanings_from width known at directives name)
    ≡ position_from (λ x. bytes_eq name (name_of x)) at directives
first_from width [] known at name none = ap (option_map (λ (m : Meaning). m.at)) none
first_from width (directive ∷ directives) known at name none =
    at_first width directives known at name (bytes_eq name (name_of directive)) directive none
    (λ later. first_from width directives (with_directive width known at directive)
    (at + 1) name later)
    refl

pub are_first : (width : Width) (program : List DirectiveTree) (name : List ℕ)
    → option_map (λ m. m.at) (meanings width program name)
    ≡ position_from (λ x. bytes_eq name (name_of x)) 0 program
are_first width program name = first_from width program nothing_known 0 name refl

-- ---- before a directive

-- what is known is of directives before number `at`
abbrev AllBefore : Known → ℕ → Type 0
AllBefore known at = (name : List ℕ) (m : Meaning) → known name ≡ Some m → m.at < at

earlier_stays : (at : ℕ) (o : Option Meaning) → ((m : Meaning) → o ≡ Some m → m.at < at)
    → earlier at o ≡ o
earlier_stays at None before = refl
earlier_stays at (Some m) before =
    ap (λ (b : Bool). cond b (Some m) None) (lt-ltb m.at at (before m refl))

earlier_gone : (at : ℕ) (o : Option Meaning) → ((m : Meaning) → o ≡ Some m → at ≤ m.at)
    → earlier at o ≡ None
earlier_gone at None after = refl
earlier_gone at (Some m) after =
    ap (λ (b : Bool). cond b (Some m) None) (le-ltb m.at at (after m refl))

-- what is known after a directive is of that directive or of one before it
before_more_by : (width : Width) (known : Known) (at : ℕ) (directive : DirectiveTree)
    (name : List ℕ) (m : Meaning) (o : Option Meaning)
    → AllBefore known at → known name ≡ o
    → option_or o (cond (bytes_eq name (name_of directive))
    (Some (own width known at directive)) None) ≡ Some m → m.at < at + 1
before_more_by width known at directive name m (Some k) before is e =
    let low : k.at < at = before name k is in
    let same : k ≡ m = cc in
    let f : k.at ≡ m.at = ap (λ (x : Meaning). x.at) same in
    omega arith
before_more_by width known at directive name m None before is e =
    let same : own width known at directive ≡ m =
    (cond_some (bytes_eq name (name_of directive)) (own width known at directive) m e).1 in
    let f : at ≡ m.at = ap (λ (x : Meaning). x.at) same in
    omega arith

before_more : (width : Width) (known : Known) (at : ℕ) (directive : DirectiveTree)
    → AllBefore known at → AllBefore (with_directive width known at directive) (at + 1)
before_more width known at directive before =
    λ name m e. before_more_by width known at directive name m (known name) before refl e

-- a name that isn't known stands at the first of these directives or after it
after_first : (width : Width) (directives : List DirectiveTree) (known : Known) (at : ℕ)
    (name : List ℕ) → known name ≡ None
    → (m : Meaning) → meanings_from width known at directives name ≡ Some m → at ≤ m.at
after_first width directives known at name none m e =
    let f = found width directives known at name m none e in
    let g : m.at ≡ at + f.0 = f.2 in
    omega arith

at_start : (width : Width) (directives : List DirectiveTree) (known : Known) (at : ℕ)
    (name : List ℕ) (o : Option Meaning)
    → AllBefore known at → known name ≡ o → earlier at
    (meanings_from width known at directives name) ≡ o
at_start width directives known at name None before is =
    earlier_gone at (meanings_from width known at directives name)
    (after_first width directives known at name is)
at_start width directives known at name (Some k) before is =
    ap (earlier at) (all_stays width directives known at name k is)
    ∙ earlier_stays at (Some k) (λ m e. before name m (is ∙ e))

-- what a name means by some first directives is what it means by all, where that stands among them
pub earlier_from : (width : Width) (directives : List DirectiveTree) (known : Known) (at n : ℕ)
    (name : List ℕ) → AllBefore known at
    → earlier (at + n) (meanings_from width known at directives name)
    ≡ meanings_from width known at (take n directives) name
earlier_from width directives known at zero name before =
    let e : at + zero ≡ at = omega arith in
    ap (λ (k : ℕ). earlier k (meanings_from width known at directives name)) e
    ∙ at_start width directives known at name (known name) before refl
earlier_from width [] known at (suc n) name before =
    earlier_stays (at + suc n) (known name)
    (λ m e. let low : m.at < at = before name m e in omega arith)
earlier_from width (directive ∷ directives) known at (suc n) name before =
    let e : at + suc n ≡ (at + 1) + n = omega arith in
    ap (λ (k : ℕ). earlier k (meanings_from width known at (directive ∷ directives) name)) e
    ∙ earlier_from width directives (with_directive width known at directive) (at + 1) n name
    (before_more width known at directive before)

pub earlier_stay : (width : Width) (program : List DirectiveTree) (at : ℕ) (name : List ℕ)
    → earlier at (meanings width program name) ≡ meanings width (take at program) name
earlier_stay width program at name =
    let e : at ≡ 0 + at = omega arith in
    ap (λ (k : ℕ). earlier k (meanings width program name)) e
    ∙ earlier_from width program nothing_known 0 at name (λ other m none. absurd (cc))
