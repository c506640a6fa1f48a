-- What a part of a program takes for granted of the names that it uses.
use Rattle.std.specs.Prelude.{ℕ, ◌≡◌, nat_lt, nat_le, Bool, true, false, not, ◌&&◌, ◌||◌, if◌then◌else◌, List, [], ◌∷◌, map, length, Option, Some, None}
use Rattle.std.specs.List.{AllByRecursion}
use Rattle.std.specs.Option.{option_map}
use Rattle.std.specs.Str.{bytes_eq}
use Rattle.inform_tree.specs.declared.widths.Width.{Width}
use Rattle.inform_tree.specs.Programs as d
use Rattle.inform_tree.specs.Programs.{DirectiveTree}
use Rattle.inform_names.specs.declared.meanings.Kind.{Kind}
use Rattle.inform_names.specs.declared.meanings.Kind.TheVariants as k
use Rattle.inform_names.specs.declared.limits.TheConstants.{ARGUMENT_LIMIT}
use Rattle.inform_names.specs.Words.{is_wide}
use Rattle.inform_names.specs.Meanings.{Known, name_of}
use Rattle.inform_names.specs.Demands as q
use Rattle.inform_names.specs.Demands.{Demand, Demands}
use Rattle.inform_names.specs.Places.{is_one_of, is_global, is_array, has_value}

-- ---- signatures

-- a name, and what the directive of that name is
abbrev pub Sign : Type 0
Sign = List ℕ × Kind

-- what a directive is that is no constant
abbrev pub own_kind : DirectiveTree → Kind
own_kind (d.Constant name value) = k.Constant None
own_kind (d.Global name value) = k.Global
own_kind (d.Array name words entries) = k.Array words
own_kind (d.Routine r) = k.Routine (length r.locals)

-- the names of these directives
abbrev pub signature : List DirectiveTree → List Sign
signature ds = map (λ x. (name_of x, own_kind x)) ds

-- a name is known as this
abbrev pub IsKnown : Known → Sign → Type 0
IsKnown known sign = option_map (λ m. m.kind) (known sign.0) ≡ Some sign.1

-- each of these is
abbrev pub Knows : Known → List Sign → Type 0
Knows known signs = AllByRecursion (IsKnown known) signs

-- ---- what a signature meets

-- what a name is, by the first sign of it
abbrev pub kind_in : List Sign → List ℕ → Option Kind
kind_in [] name = None
kind_in (sign ∷ signs) name =
    if bytes_eq name sign.0 then Some sign.1 else kind_in signs name

abbrev pub is_kind : (Kind → Bool) → Option Kind → Bool
is_kind test None = false
is_kind test (Some kind) = test kind

-- a routine that takes so many arguments
abbrev pub takes : ℕ → Kind → Bool
takes count (k.Constant value) = false
takes count k.Global = false
takes count (k.Array words) = false
takes count (k.Routine locals) = nat_le count ARGUMENT_LIMIT && nat_le count locals

-- a number isn't too wide: one below 32,768 at no width, and at 32 bits none
abbrev pub is_narrow : Width → ℕ → Bool
is_narrow width n = nat_lt n 32768 || not (is_wide width n)

-- The names of a place are those of locals, or as the signature has them. No constant is taken for
-- granted.
abbrev pub is_met : Width → List Sign → List (List ℕ) → Demand → Bool
is_met width signs locals (q.Number n) = is_narrow width n
is_met width signs locals (q.Constant name) = false
is_met width signs locals (q.Value name) =
    is_one_of name locals || is_kind has_value (kind_in signs name)
is_met width signs locals (q.Variable name) =
    is_one_of name locals || is_kind is_global (kind_in signs name)
is_met width signs locals (q.Array name words) =
    not (is_one_of name locals) && is_kind (is_array words) (kind_in signs name)
is_met width signs locals (q.Call name count) =
    not (is_one_of name locals) && is_kind (takes count) (kind_in signs name)
is_met width signs locals (q.Leave has_loop) = has_loop

abbrev pub are_met : Width → List Sign → List (List ℕ) → Demands → Bool
are_met width signs locals q.Nothing = true
are_met width signs locals (q.One demand) = is_met width signs locals demand
are_met width signs locals (q.Both first rest) =
    are_met width signs locals first && are_met width signs locals rest
