-- What holds in a program without a fault.
use Rattle.std.proofs.Common.{◌≡◌, ◌∙◌, ℕ, ◌+◌, ◌<◌, ◌≤◌, ℤ, pos, negsuc, Bool, true, false, cond, List, [], ◌∷◌, length, take, refl, sym, ap, arith, Option, None, Some, zero, suc, subst}
use Rattle.std.proofs.lemmas.Bool.{ltb-false}
use Rattle.std.specs.Prelude.{nat_lt, slice_get, is_some, not, IsSome, ◌&&◌}
use Rattle.std.specs.Option.{option_or}
use Rattle.std.proofs.lemmas.Slice.Eq.{bytes_eq-Decides}
use Rattle.inform_tree.specs.declared.widths.Width.{Width}
use Rattle.inform_tree.specs.declared.values.Const.{Const}
use Rattle.inform_tree.specs.declared.values.Const.TheVariants as c
use Rattle.inform_tree.specs.Programs as d
use Rattle.inform_tree.specs.Programs.{DirectiveTree, RoutineTree}
use Rattle.inform_tree.specs.Depths.{routine_depth}
use Rattle.inform_names.specs.declared.meanings.Kind.{Kind}
use Rattle.inform_names.specs.declared.meanings.Kind.TheVariants as k
use Rattle.inform_names.specs.declared.meanings.Meaning.{Meaning}
use Rattle.inform_names.specs.declared.limits.TheConstants.{LENGTH_LIMIT, DEEPEST}
use Rattle.inform_names.specs.Meanings.{Known, nothing_known, word_of_meaning, word_of_kind, constant_word, name_of, kind_of, own, with_directive, meanings_from, meanings, earlier, array_length, directive_entries}
use Rattle.inform_names.specs.Demands as q
use Rattle.inform_names.specs.Demands.{optional_demands, constant_demands, constants_demands, statements_demands, no_loop}
use Rattle.inform_names.specs.Faults.{Fault, wrong_kind, too_deep, main_locals, no_main, fault_if, first_of}
use Rattle.inform_names.specs.Places.{Scope, is_local, is_constant, is_global, is_array, has_value, kind_fault, call_fault, fault_at, first_fault, IsFine}
use Rattle.inform_names.specs.Acceptance.{outer_scope, constant_scope, routine_scope, twice_fault, inner_fault, directive_fault, directives_fault, has_wrong_size, size_fault, locals_fault, is_routine, means_routine, main_fault, main, is_main, has_locals, name_fault}
use Rattle.inform_names.specs.Laws.{IsMeaningOf, total_entries}
use Rattle.inform_names.proofs.Firsts.{first_is_none, rest_is_none, fine_where_faultless}
use Rattle.inform_names.proofs.Meant.{becomes, all_stays, of_directives, earlier_stay}

-- ---- tests that found nothing

pub not_wrong : (wrong : Bool) (fault : Fault) → fault_if wrong fault ≡ None → wrong ≡ false
not_wrong true fault e = absurd (cc)
not_wrong false fault e = refl

pub none_there : {X : Type 0} (o : Option X) → is_some o ≡ false → o ≡ None
none_there None e = refl
none_there (Some x) e = absurd (cc)

not_false : (b : Bool) → not b ≡ false → b ≡ true
not_false true e = refl
not_false false e = absurd (cc)

earlier_some_by : (at : ℕ) (m m' : Meaning) (low : Bool) → nat_lt m.at at ≡ low
    → cond low (Some m) None ≡ Some m' → (m'.at < at) × (m ≡ m')
earlier_some_by at m m' true low e =
    let same : m ≡ m' = cc in
    let f : m.at ≡ m'.at = ap (λ (x : Meaning). x.at) same in
    (grind arith, same)
earlier_some_by at m m' false low e = absurd (cc)

-- a meaning that stands before a number
pub earlier_some : (at : ℕ) (o : Option Meaning) (m : Meaning) → earlier at o ≡ Some m
    → (m.at < at) × (o ≡ Some m)
earlier_some at None m e = absurd (cc)
earlier_some at (Some m') m e =
    let f = earlier_some_by at m' m (nat_lt m'.at at) refl e in
    (f.0, ap Some f.1)

-- a name that is of the kind that is demanded
pub known_kind : (test : Kind → Bool) (name : List ℕ) (o : Option Meaning)
    → kind_fault test name o ≡ None → (m : Meaning) × (o ≡ Some m) × (test m.kind ≡ true)
known_kind test name None e = absurd (cc)
known_kind test name (Some m) e =
    (m, refl, not_false (test m.kind) (not_wrong (not (test m.kind)) (wrong_kind name) e))

pub constant_kind : (kind : Kind) → is_constant kind ≡ true → (value : Option ℤ)
    × (kind ≡ k.Constant value)
constant_kind (k.Constant value) e = (value, refl)
constant_kind k.Global e = absurd (cc)
constant_kind (k.Array words) e = absurd (cc)
constant_kind (k.Routine locals) e = absurd (cc)

-- ---- directives

-- where a list of directives has no fault, none of them has one at its place in it
faultless_from : (width : Width) (known : Known) (directives : List DirectiveTree) (at total i : ℕ)
    (directive : DirectiveTree)
    → directives_fault width known at total directives ≡ None
    → slice_get directives i ≡ Some directive
    → directive_fault width known (at + i) (total + total_entries width known
    (take i directives)) directive ≡ None
faultless_from width known [] at total i directive none e = absurd (cc)
faultless_from width known (x ∷ xs) at total zero directive none e =
    let same : x ≡ directive = cc in
    let here : at + zero ≡ at = omega arith in
    let so_far : total + 0 ≡ total = omega arith in
    ap (λ (n : ℕ). directive_fault width known n (total + 0) directive) here
    ∙ ap (λ (n : ℕ). directive_fault width known at n directive) so_far
    ∙ ap (directive_fault width known at total) (sym same)
    ∙ first_is_none (directive_fault width known at total x)
    (directives_fault width known (at + 1) (total + directive_entries width known x) xs) none
faultless_from width known (x ∷ xs) at total (suc i) directive none e =
    let here : at + suc i ≡ (at + 1) + i = omega arith in
    let so_far : total + (directive_entries width known x + total_entries width known (take i xs))
    ≡ (total + directive_entries width known x) + total_entries width known (take i xs) =
    omega arith in
    ap (λ (n : ℕ). directive_fault width known n
    (total + (directive_entries width known x + total_entries width known
    (take i xs))) directive) here
    ∙ ap (λ (n : ℕ). directive_fault width known ((at + 1) + i) n directive) so_far
    ∙ faultless_from width known xs (at + 1) (total + directive_entries width known x) i directive
    (rest_is_none (directive_fault width known at total x)
    (directives_fault width known (at + 1) (total + directive_entries width known x) xs) none) e

pub all_faultless : (width : Width) (program : List DirectiveTree)
    → name_fault width program ≡ None → directives_fault width (meanings width program) 0 0 program
    ≡ None
all_faultless width program none = first_is_none
    (directives_fault width (meanings width program) 0 0 program)
    (main_fault (meanings width program)) none

-- in a program without a fault, no directive has one at its place
pub faultless : (width : Width) (program : List DirectiveTree) (at : ℕ) (directive : DirectiveTree)
    → name_fault width program ≡ None → slice_get program at ≡ Some directive
    → directive_fault width (meanings width program) at
    (total_entries width (meanings width program) (take at program)) directive ≡ None
faultless width program at directive none e =
    let here : at ≡ 0 + at = omega arith in
    let so_far : total_entries width (meanings width program) (take at program)
    ≡ 0 + total_entries width (meanings width program) (take at program) = omega arith in
    ap (λ (n : ℕ). directive_fault width (meanings width program) n
    (total_entries width (meanings width program) (take at program)) directive) here
    ∙ ap (λ (n : ℕ). directive_fault width (meanings width program) (0 + at) n directive) so_far
    ∙ faultless_from width (meanings width program) program 0 0 at directive
    (all_faultless width program none) e

-- what is in such a directive
pub faultless_inside : (width : Width) (program : List DirectiveTree) (at : ℕ)
    (directive : DirectiveTree)
    → name_fault width program ≡ None → slice_get program at ≡ Some directive
    → inner_fault width (meanings width program) at
    (total_entries width (meanings width program) (take at program)) directive ≡ None
faultless_inside width program at directive none e =
    first_is_none (inner_fault width (meanings width program) at
    (total_entries width (meanings width program) (take at program)) directive) None
    (rest_is_none (twice_fault (meanings width program) at (name_of directive))
    (first_of (inner_fault width (meanings width program) at
    (total_entries width (meanings width program) (take at program)) directive ∷ []))
    (faultless width program at directive none e))

-- its name is new
pub name_is_new : (width : Width) (program : List DirectiveTree) (at : ℕ)
    (directive : DirectiveTree)
    → name_fault width program ≡ None → slice_get program at ≡ Some directive
    → meanings width (take at program) (name_of directive) ≡ None
name_is_new width program at directive none e =
    let once : twice_fault (meanings width program) at (name_of directive) ≡ None =
    first_is_none (twice_fault (meanings width program) at (name_of directive))
    (first_of (inner_fault width (meanings width program) at
    (total_entries width (meanings width program) (take at program)) directive ∷ []))
    (faultless width program at directive none e) in
    sym (earlier_stay width program at (name_of directive))
    ∙ none_there (earlier at (meanings width program (name_of directive)))
    (not_wrong (is_some (earlier at (meanings width program (name_of directive)))) _ once)

-- a name that no directive before it has means that directive, whatever comes after it
means_itself_from : (width : Width) (directives : List DirectiveTree) (known : Known) (at i : ℕ)
    (directive : DirectiveTree)
    → slice_get directives i ≡ Some directive
    → meanings_from width known at (take i directives) (name_of directive) ≡ None
    → meanings_from width known at directives (name_of directive)
    ≡ Some (own width (meanings_from width known at (take i directives)) (at + i) directive)
means_itself_from width [] known at i directive e new = absurd (cc)
means_itself_from width (x ∷ xs) known at zero directive e new =
    let same : x ≡ directive = cc in
    let here : at ≡ at + zero = omega arith in
    all_stays width xs (with_directive width known at x) (at + 1) (name_of directive)
    (own width known at x)
    (becomes width known at x (name_of directive) true new
    ((bytes_eq-Decides (name_of directive) (name_of x)).1 (ap name_of (sym same))))
    ∙ ap (λ (y : DirectiveTree). Some (own width known at y)) same
    ∙ ap (λ (n : ℕ). Some (own width known n directive)) here
means_itself_from width (x ∷ xs) known at (suc i) directive e new =
    let here : (at + 1) + i ≡ at + suc i = omega arith in
    means_itself_from width xs (with_directive width known at x) (at + 1) i directive e new
    ∙ ap (λ (n : ℕ). Some (own width (meanings_from width (with_directive width known at x)
    (at + 1) (take i xs)) n directive)) here

pub means_itself : (width : Width) (program : List DirectiveTree) (at : ℕ)
    (directive : DirectiveTree)
    → name_fault width program ≡ None → slice_get program at ≡ Some directive
    → meanings width program (name_of directive)
    ≡ Some (record { at = at; kind = kind_of width (meanings width (take at program)) directive })
means_itself width program at directive none e =
    let here : 0 + at ≡ at = omega arith in
    means_itself_from width program nothing_known 0 at directive e
    (name_is_new width program at directive none e)
    ∙ ap (λ (n : ℕ). Some (own width (meanings width (take at program)) n directive)) here

-- ---- constants

abbrev Worded : Width → List DirectiveTree → ℕ → Type 0
Worded width program n = (name : List ℕ) (at : ℕ) (value : Option ℤ) → at < n
    → meanings width program name ≡ Some (record { at = at; kind = k.Constant value })
    → IsSome value

-- a constant that an earlier one names
named_word : (width : Width) (program : List DirectiveTree) (at : ℕ) (other : List ℕ)
    → Worded width program at
    → kind_fault is_constant other (earlier at (meanings width program other)) ≡ None
    → IsSome (word_of_meaning (meanings width (take at program) other))
named_word width program at other worded fine =
    let m = known_kind is_constant other (earlier at (meanings width program other)) fine in
    let v = constant_kind m.0.kind m.2 in
    let low = earlier_some at (meanings width program other) m.0 m.1 in
    let whole : m.0 ≡ record { at = m.0.at; kind = k.Constant v.0 } =
    ap (λ (kind : Kind). record { at = m.0.at; kind = kind }) v.1 in
    let some : IsSome v.0 = worded other m.0.at v.0 low.0 (low.1 ∙ ap Some whole) in
    let word : v.0 ≡ word_of_meaning (meanings width (take at program) other) =
    ap word_of_kind (sym v.1) ∙ ap word_of_meaning (sym m.1
    ∙ earlier_stay width program at other) in
    subst (λ (o : Option ℤ). IsSome o) word some

value_word : (width : Width) (program : List DirectiveTree) (at : ℕ) (name : List ℕ)
    (value : Const) → Worded width program at
    → first_fault (constant_scope width (meanings width program) at name) (constant_demands value)
    ≡ None
    → IsSome (constant_word width (meanings width (take at program)) value)
value_word width program at name (c.Number n) worded fine = refl
value_word width program at name (c.Char byte) worded fine = refl
value_word width program at name (c.Name other) worded fine =
    named_word width program at other worded fine
value_word width program at name (c.Minus n) worded fine = refl

-- a constant without a fault has a value, if those before it have one
directive_word : (width : Width) (program : List DirectiveTree) (at : ℕ)
    (directive : DirectiveTree) (value : Option ℤ) → Worded width program at
    → inner_fault width (meanings width program) at
    (total_entries width (meanings width program) (take at program)) directive ≡ None
    → k.Constant value ≡ kind_of width (meanings width (take at program)) directive → IsSome value
directive_word width program at (d.Constant name x) value worded fine e =
    let same : constant_word width (meanings width (take at program)) x ≡ value = cc in
    subst (λ (o : Option ℤ). IsSome o) same (value_word width program at name x worded fine)
directive_word width program at (d.Global name x) value worded fine e = absurd (cc)
directive_word width program at (d.Array name words entries) value worded fine e = absurd (cc)
directive_word width program at (d.Routine r) value worded fine e = absurd (cc)

worded : (width : Width) (program : List DirectiveTree) (n : ℕ) → name_fault width program ≡ None
    → Worded width program n
worded width program zero none = λ name at value low e. absurd (omega arith)
worded width program (suc n) none = λ name at value low e.
    let f = of_directives width program name (record { at = at; kind = k.Constant value }) e in
    directive_word width program at f.0 value
    (λ other early word less is. worded width program n none other early word (omega arith) is)
    (faultless_inside width program at f.0 none f.1.0)
    f.1.2

pub constants_have_words : (width : Width) (program : List DirectiveTree) (name : List ℕ) (at : ℕ)
    (value : Option ℤ)
    → name_fault width program ≡ None
    → meanings width program name ≡ Some (record { at = at; kind = k.Constant value })
    → IsSome value
constants_have_words width program name at value none e =
    worded width program (suc at) none name at value (omega arith) e

-- ---- what is known at a place without a fault

not_local_by : (local : Bool) (name : List ℕ) (rest : Option Fault)
    → cond local (Some (wrong_kind name)) rest ≡ None → (local ≡ false) × (rest ≡ None)
not_local_by true name rest e = absurd (cc)
not_local_by false name rest e = (refl, e)

pub calls_known : (scope : Scope) (name : List ℕ) (count : ℕ)
    → fault_at scope (q.Call name count) ≡ None
    → (is_local scope name ≡ false) × (call_fault name count (scope.known name) ≡ None)
calls_known scope name count e =
    not_local_by (is_local scope name) name (call_fault name count (scope.known name)) e

pub arrays_known : (scope : Scope) (name : List ℕ) (words : Bool)
    → fault_at scope (q.Array name words) ≡ None
    → (is_local scope name ≡ false) × (kind_fault (is_array words) name (scope.known name) ≡ None)
arrays_known scope name words e =
    not_local_by (is_local scope name) name (kind_fault (is_array words) name (scope.known name)) e

pub constants_known : (scope : Scope) (name : List ℕ) → fault_at scope (q.Constant name) ≡ None
    → (is_local scope name ≡ false) × (kind_fault is_constant name (scope.known name) ≡ None)
constants_known scope name e =
    not_local_by (is_local scope name) name (kind_fault is_constant name (scope.known name)) e

local_by : (local : Bool) (rest : Option Fault) → cond local None rest ≡ None → local ≡ false
    → rest ≡ None
local_by true rest e is = absurd (cc)
local_by false rest e is = e

pub values_known : (scope : Scope) (name : List ℕ) → fault_at scope (q.Value name) ≡ None
    → is_local scope name ≡ false
    → kind_fault has_value name (scope.known name) ≡ None
values_known scope name e is =
    local_by (is_local scope name) (kind_fault has_value name (scope.known name)) e is

pub variables_known : (scope : Scope) (name : List ℕ) → fault_at scope (q.Variable name) ≡ None
    → is_local scope name ≡ false
    → kind_fault is_global name (scope.known name) ≡ None
variables_known scope name e is =
    local_by (is_local scope name) (kind_fault is_global name (scope.known name)) e is

-- ---- constants in their places, and lengths

-- a name that may stand for a constant has a value, in a program without a fault
pub fine_name : (width : Width) (program : List DirectiveTree) (known : Known) (name : List ℕ)
    → name_fault width program ≡ None → known ≡ meanings width program
    → kind_fault is_constant name (known name) ≡ None → IsSome (word_of_meaning (known name))
fine_name width program known name none all fine =
    let m = known_kind is_constant name (known name) fine in
    let v = constant_kind m.0.kind m.2 in
    let whole : m.0 ≡ record { at = m.0.at; kind = k.Constant v.0 } =
    ap (λ (kind : Kind). record { at = m.0.at; kind = kind }) v.1 in
    let here : meanings width program name ≡ Some (record { at = m.0.at; kind = k.Constant v.0 }) =
    ap (λ (f : Known). f name) (sym all) ∙ m.1 ∙ ap Some whole in
    let some : IsSome v.0 = constants_have_words width program name m.0.at v.0 none here in
    let word : v.0 ≡ word_of_meaning (known name) =
    ap word_of_kind (sym v.1) ∙ ap word_of_meaning (sym m.1) in
    subst (λ (o : Option ℤ). IsSome o) word some

pub fine_constants_have_words : (width : Width) (program : List DirectiveTree) (scope : Scope)
    (constant : Const)
    → name_fault width program ≡ None → scope.known ≡ meanings width program
    → IsFine scope (constant_demands constant) → IsSome (constant_word width scope.known constant)
fine_constants_have_words width program scope (c.Number n) none all fine = refl
fine_constants_have_words width program scope (c.Char byte) none all fine = refl
fine_constants_have_words width program scope (c.Name name) none all fine =
    fine_name width program scope.known name none all (constants_known scope name fine).1
fine_constants_have_words width program scope (c.Minus n) none all fine = refl

length_known : (width : Width) (program : List DirectiveTree) (scope : Scope) (entries : List Const)
    → name_fault width program ≡ None → scope.known ≡ meanings width program
    → IsFine scope (constants_demands entries) → IsSome (array_length width scope.known entries)
length_known width program scope [] none all fine = refl
length_known width program scope (x ∷ []) none all fine =
    fine_constants_have_words width program scope x none all fine.0
length_known width program scope (x ∷ (y ∷ xs)) none all fine = refl

right_size : (total : ℕ) (o : Option ℤ) → IsSome o → has_wrong_size total o ≡ false → (n : ℕ)
    × (o ≡ Some (pos n)) × (1 ≤ n) × (n ≤ LENGTH_LIMIT)
right_size total None some e = absurd (cc)
right_size total (Some (pos n)) some e = (n, refl, grind arith, grind arith)
right_size total (Some (negsuc n)) some e = absurd (cc)

-- in a program without a fault, an array has a length, of 1 at least and within the limit
pub arrays_have_lengths : (width : Width) (program : List DirectiveTree) (at : ℕ) (name : List ℕ)
    (words : Bool) (entries : List Const)
    → name_fault width program ≡ None → slice_get program at ≡ Some (d.Array name words entries)
    → (n : ℕ) × (array_length width (meanings width program) entries ≡ Some (pos n)) × (1 ≤ n)
    × (n ≤ LENGTH_LIMIT)
arrays_have_lengths width program at name words entries none e =
    let all : Known = meanings width program in
    let total : ℕ = total_entries width all (take at program) in
    let inside : inner_fault width all at total (d.Array name words entries) ≡ None =
    faultless_inside width program at (d.Array name words entries) none e in
    let size = first_is_none _ (first_of (first_fault (outer_scope width all name)
    (constants_demands entries) ∷ [])) inside in
    let rest =
    first_is_none (first_fault (outer_scope width all name) (constants_demands entries)) None
    (rest_is_none _ (first_of (first_fault (outer_scope width all name) (constants_demands entries)
    ∷ [])) inside) in
    right_size total (array_length width all entries)
    (length_known width program (outer_scope width all name) entries none refl
    (fine_where_faultless (outer_scope width all name) (constants_demands entries) rest))
    (not_wrong (has_wrong_size total (array_length width all entries)) _ size)

-- ---- routines

pub routines_are_shallow : (width : Width) (program : List DirectiveTree) (at : ℕ)
    (routine : RoutineTree)
    → name_fault width program ≡ None → slice_get program at ≡ Some (d.Routine routine)
    → routine_depth routine ≤ DEEPEST
routines_are_shallow width program at routine none e =
    ltb-false DEEPEST (routine_depth routine)
    (not_wrong (nat_lt DEEPEST (routine_depth routine)) _
    (first_is_none _ _ (faultless_inside width program at (d.Routine routine) none e)))

no_locals : (locals : List (List ℕ)) → has_locals locals ≡ false → locals ≡ []
no_locals [] e = refl
no_locals (x ∷ xs) e = absurd (grind arith)

both_by : (a b : Bool) → a ≡ true → (a && b) ≡ false → b ≡ false
both_by true b is e = e
both_by false b is e = absurd (cc)

routine_kind : (width : Width) (known : Known) (directive : DirectiveTree)
    → is_routine (kind_of width known directive) ≡ true
    → (r : RoutineTree) × (directive ≡ d.Routine r)
routine_kind width known (d.Constant name value) e = absurd (cc)
routine_kind width known (d.Global name value) e = absurd (cc)
routine_kind width known (d.Array name words entries) e = absurd (cc)
routine_kind width known (d.Routine r) e = (r, refl)

means_some : (o : Option Meaning) → means_routine o ≡ true → (m : Meaning) × (o ≡ Some m)
    × (is_routine m.kind ≡ true)
means_some None e = absurd (cc)
means_some (Some m) e = (m, refl, e)

second_is_none : (deep main locals body : Option Fault)
    → first_of (deep ∷ main ∷ locals ∷ body ∷ []) ≡ None → main ≡ None
second_is_none deep main locals body e =
    first_is_none main (option_or locals (option_or body None))
    (rest_is_none deep (option_or main (option_or locals (option_or body None))) e)

-- in a program without a fault, `main` means a routine, and that has no locals
pub main_is_a_routine : (width : Width) (program : List DirectiveTree)
    → name_fault width program ≡ None
    → (m : Meaning) × (routine : RoutineTree) × (meanings width program main ≡ Some m)
    × IsMeaningOf width program main m (d.Routine routine)
    × (routine.locals ≡ [])
main_is_a_routine width program none =
    let there : main_fault (meanings width program) ≡ None =
    rest_is_none (directives_fault width (meanings width program) 0 0 program)
    (main_fault (meanings width program)) none in
    let m = means_some (meanings width program main)
    (not_false (means_routine (meanings width program main))
    (not_wrong (not (means_routine (meanings width program main))) no_main there)) in
    let f = of_directives width program main m.0 m.1 in
    let r = routine_kind width (meanings width (take m.0.at program)) f.0
    (ap is_routine (sym f.1.2) ∙ m.2) in
    let here : slice_get program m.0.at ≡ Some (d.Routine r.0) = f.1.0 ∙ ap Some r.1 in
    let name : r.0.name ≡ main = ap name_of (sym r.1) ∙ f.1.1 in
    let inside = faultless_inside width program m.0.at (d.Routine r.0) none here in
    let locals : (is_main r.0.name && has_locals r.0.locals) ≡ false =
    not_wrong (is_main r.0.name && has_locals r.0.locals) main_locals
    (second_is_none (fault_if (nat_lt DEEPEST (routine_depth r.0)) (too_deep r.0.name))
    (fault_if (is_main r.0.name && has_locals r.0.locals) main_locals)
    (locals_fault r.0.name r.0.locals 0 r.0.locals)
    (first_fault (routine_scope width (meanings width program) r.0)
    (statements_demands no_loop r.0.body))
    inside) in (
      m.0,
      r.0,
      m.1,
      (here, name, f.1.2 ∙ ap (kind_of width (meanings width (take m.0.at program))) r.1),
      no_locals r.0.locals (both_by (is_main r.0.name) (has_locals r.0.locals)
          ((bytes_eq-Decides r.0.name main).1 name) locals),
    )

-- ---- what is in directives

is_array_of : (words : Bool) → is_array words (k.Array words) ≡ true
is_array_of true = refl
is_array_of false = refl

pub arrays_mean_themselves : (width : Width) (program : List DirectiveTree) (at : ℕ)
    (name : List ℕ) (words : Bool) (entries : List Const)
    → name_fault width program ≡ None → slice_get program at ≡ Some (d.Array name words entries)
    → kind_fault (is_array words) name (meanings width program name) ≡ None
arrays_mean_themselves width program at name words entries none e =
    ap (kind_fault (is_array words) name) (means_itself width program at
    (d.Array name words entries) none e)
    ∙ ap (λ (b : Bool). fault_if (not b) (wrong_kind name)) (is_array_of words)

pub globals_are_fine : (width : Width) (program : List DirectiveTree) (at : ℕ) (name : List ℕ)
    (value : Option Const)
    → name_fault width program ≡ None → slice_get program at ≡ Some (d.Global name value)
    → IsFine (outer_scope width (meanings width program) name)
    (optional_demands constant_demands value)
globals_are_fine width program at name value none e =
    fine_where_faultless (outer_scope width (meanings width program) name)
    (optional_demands constant_demands value)
    (faultless_inside width program at (d.Global name value) none e)

-- in a program without a fault, nothing is wrong with the entries of an array
pub entries_are_fine : (width : Width) (program : List DirectiveTree) (at : ℕ) (name : List ℕ)
    (words : Bool) (entries : List Const)
    → name_fault width program ≡ None → slice_get program at ≡ Some (d.Array name words entries)
    → IsFine (outer_scope width (meanings width program) name) (constants_demands entries)
entries_are_fine width program at name words entries none e =
    let scope : Scope = outer_scope width (meanings width program) name in
    let fault : Option Fault = size_fault (total_entries width (meanings width program)
    (take at program)) name (array_length width (meanings width program) entries) in
    fine_where_faultless scope (constants_demands entries)
    (first_is_none (first_fault scope (constants_demands entries)) None
    (rest_is_none fault (first_of (first_fault scope (constants_demands entries) ∷ []))
    (faultless_inside width program at (d.Array name words entries) none e)))

last_is_none : (deep main locals body : Option Fault)
    → first_of (deep ∷ main ∷ locals ∷ body ∷ []) ≡ None → body ≡ None
last_is_none deep main locals body e =
    first_is_none body None
    (rest_is_none locals (option_or body None)
    (rest_is_none main (option_or locals (option_or body None))
    (rest_is_none deep (option_or main (option_or locals (option_or body None))) e)))

-- in a program without a fault, nothing is wrong in the body of a routine
pub bodies_are_fine : (width : Width) (program : List DirectiveTree) (at : ℕ)
    (routine : RoutineTree)
    → name_fault width program ≡ None → slice_get program at ≡ Some (d.Routine routine)
    → IsFine (routine_scope width (meanings width program) routine)
    (statements_demands no_loop routine.body)
bodies_are_fine width program at routine none e =
    let scope : Scope = routine_scope width (meanings width program) routine in
    fine_where_faultless scope (statements_demands no_loop routine.body)
    (last_is_none (fault_if (nat_lt DEEPEST (routine_depth routine)) (too_deep routine.name))
    (fault_if (is_main routine.name && has_locals routine.locals) main_locals)
    (locals_fault routine.name routine.locals 0 routine.locals)
    (first_fault scope (statements_demands no_loop routine.body))
    (faultless_inside width program at (d.Routine routine) none e))

-- ---- `main`, where it is found

-- in a program without a fault, the routine that `main` means has no locals
pub main_has_no_locals : (width : Width) (program : List DirectiveTree) (m : Meaning)
    (r : RoutineTree)
    → name_fault width program ≡ None → meanings width program main ≡ Some m
    → slice_get program m.at ≡ Some (d.Routine r)
    → r.locals ≡ []
main_has_no_locals width program m r none e here =
    let law = main_is_a_routine width program none in
    let same : m ≡ law.0 = cc (e, law.2) in
    let there : slice_get program m.at ≡ Some (d.Routine law.1) =
    ap (λ (x : Meaning). slice_get program x.at) same ∙ law.3.0 in
    let routine : r ≡ law.1 = cc (here, there) in
    ap (λ (x : RoutineTree). x.locals) routine ∙ law.4

pub main_means : (width : Width) (program : List DirectiveTree) (m : Meaning) (r : RoutineTree)
    → name_fault width program ≡ None → meanings width program main ≡ Some m
    → IsMeaningOf width program main m (d.Routine r)
    → meanings width program main ≡ Some (record { at = m.at; kind = k.Routine 0 })
main_means width program m r none e found =
    let kind : m.kind ≡ k.Routine 0 = found.2
    ∙ ap (λ (locals : List (List ℕ)). k.Routine (length locals))
    (main_has_no_locals width program m r none e found.0) in
    e ∙ ap (λ (x : Kind). Some (record { at = m.at; kind = x })) kind
