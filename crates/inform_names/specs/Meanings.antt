-- What the names of a program mean: each name that of the first directive with it.
use Rattle.std.specs.Prelude.{ℕ, ◌+◌, ℤ, pos, nat_lt, if◌then◌else◌, List, [], ◌∷◌, length, slice_get, Option, Some, None}
use Rattle.std.specs.Option.{option_or, option_and_then}
use Rattle.std.specs.Str.{bytes_eq}
use Rattle.inform_tree.specs.declared.widths.Width.{Width}
use Rattle.inform_tree.specs.declared.values.Const.{Const}
use Rattle.inform_tree.specs.declared.values.Const.TheVariants as c
use Rattle.inform_tree.specs.Programs as d
use Rattle.inform_tree.specs.Programs.{DirectiveTree}
use Rattle.inform_names.specs.declared.meanings.Kind.{Kind}
use Rattle.inform_names.specs.declared.meanings.Kind.TheVariants as k
use Rattle.inform_names.specs.declared.meanings.Meaning.{Meaning}
use Rattle.inform_names.specs.Words.{word, minus_word}

-- what each name means, if anything
abbrev pub Known : Type 0
Known = List ℕ → Option Meaning

abbrev pub nothing_known : Known
nothing_known name = None

-- ---- the words of constants

abbrev pub word_of_kind : Kind → Option ℤ
word_of_kind (k.Constant value) = value
word_of_kind k.Global = None
word_of_kind (k.Array words) = None
word_of_kind (k.Routine locals) = None

-- the word of a constant that means this
abbrev pub word_of_meaning : Option Meaning → Option ℤ
word_of_meaning None = None
word_of_meaning (Some m) = word_of_kind m.kind

-- the word that a constant stands for; the name of what is no constant stands for none
abbrev pub constant_word : Width → Known → Const → Option ℤ
constant_word width known (c.Number n) = Some (word width n)
constant_word width known (c.Char byte) = Some (pos byte)
constant_word width known (c.Name name) = word_of_meaning (known name)
constant_word width known (c.Minus n) = Some (minus_word width n)

-- ---- the names of a program

abbrev pub name_of : DirectiveTree → List ℕ
name_of (d.Constant name value) = name
name_of (d.Global name value) = name
name_of (d.Array name words entries) = name
name_of (d.Routine r) = r.name

-- what a directive makes of its name, where these names are known before it
abbrev pub kind_of : Width → Known → DirectiveTree → Kind
kind_of width known (d.Constant name value) = k.Constant (constant_word width known value)
kind_of width known (d.Global name value) = k.Global
kind_of width known (d.Array name words entries) = k.Array words
kind_of width known (d.Routine r) = k.Routine (length r.locals)

-- what directive number `at` means, where these names are known before it
abbrev pub own : Width → Known → ℕ → DirectiveTree → Meaning
own width known at directive = record { at = at; kind = kind_of width known directive }

-- what is known after that directive: a name keeps the meaning that it had
abbrev pub with_directive : Width → Known → ℕ → DirectiveTree → Known
with_directive width known at directive name = option_or (known name)
    (if bytes_eq name (name_of directive) then Some (own width known at directive) else None)

-- what is known after these directives, of which the first has number `at`
abbrev pub meanings_from : Width → Known → ℕ → List DirectiveTree → Known
meanings_from width known at [] = known
meanings_from width known at (directive ∷ directives) =
    meanings_from width (with_directive width known at directive) (at + 1) directives

-- what the names of a program mean
abbrev pub meanings : Width → List DirectiveTree → Known
meanings width program = meanings_from width nothing_known 0 program

-- the same, if the directive stands before number `at`
abbrev pub earlier : ℕ → Option Meaning → Option Meaning
earlier at None = None
earlier at (Some m) = if nat_lt m.at at then Some m else None

-- the first directive of a name
abbrev pub first_directive : Width → List DirectiveTree → List ℕ → Option DirectiveTree
first_directive width program name =
    option_and_then (λ m. slice_get program m.at) (meanings width program name)

-- ---- arrays

-- how many entries an array has: one constant alone is their number
abbrev pub array_length : Width → Known → List Const → Option ℤ
array_length width known [] = Some (pos 0)
array_length width known (x ∷ []) = constant_word width known x
array_length width known (x ∷ y ∷ xs) = Some (pos (length (x ∷ y ∷ xs)))

-- a length as a number; one that isn't known counts nothing
abbrev pub entry_count : Option ℤ → ℕ
entry_count (Some (pos n)) = n
entry_count other = 0

-- how many entries a directive has
abbrev pub directive_entries : Width → Known → DirectiveTree → ℕ
directive_entries width known (d.Constant name value) = 0
directive_entries width known (d.Global name value) = 0
directive_entries width known (d.Array name words entries) =
    entry_count (array_length width known entries)
directive_entries width known (d.Routine r) = 0
