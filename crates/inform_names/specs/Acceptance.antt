-- Which programs are accepted, and the first fault of one that isn't.
use Rattle.std.specs.Prelude.{ℕ, ◌+◌, ℤ, pos, negsuc, nat_lt, nat_le, Bool, true, false, not, ◌&&◌, ◌||◌, List, [], ◌∷◌, length, take, codes, Option, Some, None, is_some}
use Rattle.std.specs.Option.{option_or}
use Rattle.std.specs.Str.{bytes_eq}
use Rattle.inform_tree.specs.declared.widths.Width.{Width}
use Rattle.inform_tree.specs.Programs as d
use Rattle.inform_tree.specs.Programs.{DirectiveTree, RoutineTree}
use Rattle.inform_tree.specs.Depths.{routine_depth}
use Rattle.inform_names.specs.declared.meanings.Kind.{Kind}
use Rattle.inform_names.specs.declared.meanings.Kind.TheVariants as k
use Rattle.inform_names.specs.declared.meanings.Meaning.{Meaning}
use Rattle.inform_names.specs.declared.limits.TheConstants.{LOCAL_LIMIT, LENGTH_LIMIT, ENTRY_LIMIT, DEEPEST}
use Rattle.inform_names.specs.Meanings.{Known, name_of, meanings, earlier, array_length, directive_entries}
use Rattle.inform_names.specs.Demands.{optional_demands, constant_demands, constants_demands, statements_demands, no_loop}
use Rattle.inform_names.specs.Faults.{Fault, twice, too_many_locals, wrong_size, too_deep, main_locals, no_main, fault_if, first_of}
use Rattle.inform_names.specs.Places.{Scope, is_one_of, first_fault}

-- ---- scopes of directives

-- what a directive of this name has, outside of routines
abbrev pub outer_scope : Width → Known → List ℕ → Scope
outer_scope width known name =
    record { width = width; known = known; directive = name; locals = [] }

-- the value of a constant, which uses the directives before number `at` alone
abbrev pub constant_scope : Width → Known → ℕ → List ℕ → Scope
constant_scope width known at name = outer_scope width (λ other. earlier at (known other)) name

-- the body of a routine
abbrev pub routine_scope : Width → Known → RoutineTree → Scope
routine_scope width known r =
    record { width = width; known = known; directive = r.name; locals = r.locals }

-- ---- at the name of a directive

-- directive number `at` isn't the first of its name
abbrev pub twice_fault : Known → ℕ → List ℕ → Option Fault
twice_fault known at name = fault_if (is_some (earlier at (known name))) (twice name)

-- a length that no array has, or the first with which all entries are too many, after so many of
-- the arrays before
abbrev pub has_wrong_size : ℕ → Option ℤ → Bool
has_wrong_size total None = false
has_wrong_size total (Some (negsuc n)) = true
has_wrong_size total (Some (pos n)) =
    nat_lt n 1 || (nat_lt LENGTH_LIMIT n || nat_lt ENTRY_LIMIT (total + n))

abbrev pub size_fault : ℕ → List ℕ → Option ℤ → Option Fault
size_fault total name length = fault_if (has_wrong_size total length) (wrong_size name)

-- ---- routines

abbrev pub main : List ℕ
main = codes "main"

abbrev pub is_main : List ℕ → Bool
is_main name = bytes_eq name main

-- not empty
abbrev pub has_locals : List (List ℕ) → Bool
has_locals locals = nat_lt 0 (length locals)

-- the locals from number k on, where `locals` are all of the routine
abbrev pub locals_fault : List ℕ → List (List ℕ) → ℕ → List (List ℕ) → Option Fault
locals_fault routine locals k [] = None
locals_fault routine locals k (name ∷ names) =
    first_of (fault_if (is_one_of name (take k locals)) (twice name)
    ∷ fault_if (nat_le LOCAL_LIMIT k) (too_many_locals routine)
    ∷ locals_fault routine locals (k + 1) names
    ∷ [])

-- a routine, after its name was tested for another directive
abbrev pub routine_faults : Width → Known → RoutineTree → List (Option Fault)
routine_faults width known r = fault_if (nat_lt DEEPEST (routine_depth r)) (too_deep r.name)
    ∷ fault_if (is_main r.name && has_locals r.locals) main_locals
    ∷ locals_fault r.name r.locals 0 r.locals
    ∷ first_fault (routine_scope width known r) (statements_demands no_loop r.body)
    ∷ []

-- ---- directives

-- directive number `at`, after its name was tested for another directive, where the arrays before
-- have `total` entries
abbrev pub inner_fault : Width → Known → ℕ → ℕ → DirectiveTree → Option Fault
inner_fault width known at total (d.Constant name value) =
    first_fault (constant_scope width known at name) (constant_demands value)
inner_fault width known at total (d.Global name value) =
    first_fault (outer_scope width known name) (optional_demands constant_demands value)
inner_fault width known at total (d.Array name words entries) =
    first_of (size_fault total name (array_length width known entries)
    ∷ first_fault (outer_scope width known name) (constants_demands entries)
    ∷ [])
inner_fault width known at total (d.Routine r) = first_of (routine_faults width known r)

-- one directive
abbrev pub directive_fault : Width → Known → ℕ → ℕ → DirectiveTree → Option Fault
directive_fault width known at total directive =
    first_of (twice_fault known at (name_of directive) ∷ inner_fault width known at total directive
    ∷ [])

-- the directives from number `at` on
abbrev pub directives_fault : Width → Known → ℕ → ℕ → List DirectiveTree → Option Fault
directives_fault width known at total [] = None
directives_fault width known at total (directive ∷ directives) =
    option_or (directive_fault width known at total directive)
    (directives_fault width known (at + 1)
    (total + directive_entries width known directive) directives)

-- ---- programs

abbrev pub is_routine : Kind → Bool
is_routine (k.Constant value) = false
is_routine k.Global = false
is_routine (k.Array words) = false
is_routine (k.Routine locals) = true

abbrev pub means_routine : Option Meaning → Bool
means_routine None = false
means_routine (Some m) = is_routine m.kind

abbrev pub main_fault : Known → Option Fault
main_fault known = fault_if (not (means_routine (known main))) no_main

-- the first fault of a program: its directives one after the other, and at the end that it has no
-- `main`
abbrev pub name_fault : Width → List DirectiveTree → Option Fault
name_fault width program = option_or (directives_fault width (meanings width program) 0 0 program)
    (main_fault (meanings width program))
