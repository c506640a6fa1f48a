-- Globals and arrays by the numbers of their directives.
use Rattle.std.proofs.Common.{◌≡◌, ◌∙◌, arith, ℕ, zero, suc, ◌<◌, ℤ, pos, negsuc, Bool, true, false, List, [], ◌∷◌, length, set, Option, Some, None, refl, sym, ap}
use Rattle.std.specs.Prelude.{slice_get, slice_set, unwrap_or, if◌then◌else◌}
use Rattle.std.proofs.Math.Path.{fun_ext}
use Rattle.std.proofs.lemmas.Option.{slice_get-get_or}
use Rattle.std.proofs.lemmas.List.{map-set, length-map}
use Rattle.std.specs.Prelude.{map, option_map, get_or}
use Rattle.std.specs.Cmp.Lexicographic.{bytes_decides}
use mathlib.Core.Bool.{true≢false}
use Rattle.inform_names.specs.declared.meanings.Kind.{Kind}
use Rattle.inform_names.specs.declared.meanings.Kind.TheVariants as k
use Rattle.inform_names.specs.declared.meanings.Meaning.{Meaning}
use Rattle.inform_tree.specs.declared.widths.Width.{Width}
use Rattle.inform_tree.specs.Programs.{DirectiveTree}
use Rattle.inform_names.specs.Meanings.{Known, meanings, name_of}
use Rattle.inform_names.specs.Laws.{MeaningsAreOfDirectives, IsMeaningOf}
use Rattle.inform_meaning.specs.Tables.{first_of_two, same_name, put_by, renewed}
use Rattle.inform_meaning.specs.Worlds.{has_room, filled, entry_at}
use Rattle.inform_worlds.proofs.Tables.{map_get}
use Rattle.inform_worlds.specs.Worlds.{kept_by, globals_of, meant_value, is_any_array, arrays_of}
use Rattle.inform_names.specs.Places.{is_global}

-- the value that a meaning gives
pub meant_global : (values : List ℤ) (at : ℕ)
    → unwrap_or (slice_get values at) (pos 0) ≡ meant_value values (Some (record { at = at; kind = k.Global }))
meant_global values at = by (slice_get values at) where
  by : (o : Option ℤ) → unwrap_or o (pos 0) ≡ unwrap_or (first_of_two o None) (pos 0)
  by None = refl
  by (Some v) = refl

-- ---- another value of a name

set-there : {X : Type 0} (xs : List X) (i : ℕ) (x : X) → i < length xs
    → slice_get (slice_set xs i x) i ≡ Some x
set-there [] i x h = absurd (omega (arith, h))
set-there (y ∷ xs) zero x h = refl
set-there (y ∷ xs) (suc i) x h = set-there xs i x (omega (arith, h))

set-elsewhere : {X : Type 0} (xs : List X) (i j : ℕ) (x : X) → (j ≡ i → ⊥)
    → slice_get (slice_set xs i x) j ≡ slice_get xs j
set-elsewhere [] i j x h = refl
set-elsewhere (y ∷ xs) zero zero x h = absurd (h refl)
set-elsewhere (y ∷ xs) zero (suc j) x h = refl
set-elsewhere (y ∷ xs) (suc i) zero x h = refl
set-elsewhere (y ∷ xs) (suc i) (suc j) x h = set-elsewhere xs i j x (λ e. h (ap suc e))

some-there : {X : Type 0} (xs : List X) (i : ℕ) → i < length xs
    → (x : X) × (slice_get xs i ≡ Some x)
some-there [] i h = absurd (omega (arith, h))
some-there (y ∷ xs) zero h = (y, refl)
some-there (y ∷ xs) (suc i) h = some-there xs i (omega (arith, h))

-- another value of a name that has none
pub not-renewed : {X : Type 0} (test : Kind → Bool) (xs : List X) (x : X) (known : Known) (name : List ℕ)
    → kept_by test xs (known name) ≡ None
    → (λ other. kept_by test xs (known other)) ≡ renewed (λ other. kept_by test xs (known other)) name x
not-renewed test xs x known name none =
    sym (ap (λ o. put_by o (λ other. kept_by test xs (known other)) name x) none)

module _ (known : Known) (known-apart : (a b : List ℕ) (m n : Meaning) → known a ≡ Some m → known b ≡ Some n → n.at ≡ m.at → b ≡ a) where
  module _ {X : Type 0} (test : Kind → Bool) (xs : List X) (x : X) (name : List ℕ) (m : Meaning) (means : known name ≡ Some m) (passes : test m.kind ≡ true) (within : m.at < length xs) where
    abbrev before : List ℕ → Option X
    before other = kept_by test xs (known other)

    abbrev afterwards : List ℕ → Option X
    afterwards other = kept_by test (slice_set xs m.at x) (known other)

    at-name : (ys : List X) → kept_by test ys (known name) ≡ slice_get ys m.at
    at-name ys = ap (kept_by test ys) means ∙ ap (λ b. if b then slice_get ys m.at else None) passes

    is-there : (old : X) × (before name ≡ Some old)
    is-there = let found = some-there xs m.at within in (found.0, at-name xs ∙ found.1)

    apart : (other : List ℕ) (n : Meaning) → known other ≡ Some n → same_name other name ≡ false
        → n.at ≡ m.at → ⊥
    apart other n is differ same =
        true≢false (sym ((bytes_decides other name).1 (known-apart name other m n means is same)) ∙ differ)

    at-other : (other : List ℕ)
        → afterwards other ≡ (if same_name other name then Some x else before other)
    at-other other = by (same_name other name) refl (known other) refl where
      kept : (b : Bool) (n : Meaning) → (n.at ≡ m.at → ⊥)
          → (if b then slice_get (slice_set xs m.at x) n.at else None) ≡ (if b then slice_get xs n.at else None)
      kept true n differ = set-elsewhere xs m.at n.at x differ
      kept false n differ = refl

      by : (b : Bool) → same_name other name ≡ b → (o : Option Meaning) → known other ≡ o
          → kept_by test (slice_set xs m.at x) o ≡ (if b then Some x else kept_by test xs o)
      by true same o is =
          ap (kept_by test (slice_set xs m.at x)) (sym is ∙ ap known ((bytes_decides other name).0 same)) ∙ at-name (slice_set xs m.at x) ∙ set-there xs m.at x within
      by false differ None is = refl
      by false differ (Some n) is = kept (test n.kind) n (apart other n is differ)

    -- another value of a name that is there
    pub renewed-by : (λ other. kept_by test (slice_set xs m.at x) (known other)) ≡ renewed (λ other. kept_by test xs (known other)) name x
    renewed-by =
        fun_ext (λ other. at-other other) ∙ sym (ap (λ o. put_by o before name x) is-there.1)

-- ---- the names of a program

some-same : {d e : DirectiveTree} → Some e ≡ Some d → e ≡ d
some-same {d} {e} is = ap (λ o. unwrap_or o e) is

apart-by-law : MeaningsAreOfDirectives
    → (width : Width) (program : List DirectiveTree) (a b : List ℕ) (m n : Meaning)
    → meanings width program a ≡ Some m → meanings width program b ≡ Some n → n.at ≡ m.at → b ≡ a
apart-by-law law width program a b m n is-a is-b same =
    by (law width program a m is-a) (law width program b n is-b) where
      by : (d : DirectiveTree) × IsMeaningOf width program a m d
          → (e : DirectiveTree) × IsMeaningOf width program b n e → b ≡ a
      by (d, da) (e, eb) =
          sym eb.1 ∙ ap name_of (some-same (sym eb.0 ∙ ap (slice_get program) same ∙ da.0)) ∙ da.1

module _ (law : MeaningsAreOfDirectives) (width : Width) (program : List DirectiveTree) (values : List ℤ) (name : List ℕ) where
  pub put_global : (at : ℕ) (x : ℤ)
      → meanings width program name ≡ Some (record { at = at; kind = k.Global })
      → at < length values
      → globals_of (meanings width program) (slice_set values at x) ≡ renewed (globals_of (meanings width program) values) name x
  put_global at x is within =
      renewed-by (meanings width program) (apart-by-law law width program) is_global values x name (record { at = at; kind = k.Global }) is refl within

pub keep_globals : (known : Known) (values : List ℤ) (name : List ℕ) (x : ℤ)
    → globals_of known values name ≡ None
    → globals_of known values ≡ renewed (globals_of known values) name x
keep_globals known values name x none = not-renewed is_global values x known name none

module _ (law : MeaningsAreOfDirectives) (width : Width) (program : List DirectiveTree) (arrays : List (List ℤ)) (name : List ℕ) where
  pub put_array : (at : ℕ) (words : Bool) (entries : List ℤ)
      → meanings width program name ≡ Some (record { at = at; kind = k.Array words })
      → at < length arrays
      → arrays_of (meanings width program) (slice_set arrays at entries) ≡ renewed (arrays_of (meanings width program) arrays) name entries
  put_array at words entries is within =
      renewed-by (meanings width program) (apart-by-law law width program) is_any_array arrays entries name (record { at = at; kind = k.Array words }) is refl within

  pub kept_array : (at : ℕ) (words : Bool)
      → meanings width program name ≡ Some (record { at = at; kind = k.Array words })
      → arrays_of (meanings width program) arrays name ≡ slice_get arrays at
  kept_array at words is = ap (kept_by is_any_array arrays) is

pub keep_arrays : (known : Known) (arrays : List (List ℤ)) (name : List ℕ) (entries : List ℤ)
    → arrays_of known arrays name ≡ None
    → arrays_of known arrays ≡ renewed (arrays_of known arrays) name entries
keep_arrays known arrays name entries none = not-renewed is_any_array arrays entries known name none

-- ---- an entry that is stored

-- where there are no entries
pub no_entry : (index : ℤ) → entry_at [] index ≡ None
no_entry (pos n) = refl
no_entry (negsuc n) = refl

module _ {X : Type 0} (f : X → List ℤ) (law : MeaningsAreOfDirectives) (width : Width) (program : List DirectiveTree) (arrays : List X) (name : List ℕ)
    (at : ℕ) (words : Bool) (means : meanings width program name ≡ Some (record { at = at; kind = k.Array words })) (within : at < length arrays) where
  -- the array of that number gets another entry, in the array that it was
  pub stored_entry : (old new : X) (i : ℕ) (x : ℤ) → old ≡ get_or arrays at old
      → f new ≡ set (f old) i x
      → arrays_of (meanings width program) (map f (slice_set arrays at new))
      ≡ renewed (arrays_of (meanings width program) (map f arrays)) name (set (unwrap_or (arrays_of (meanings width program) (map f arrays) name) []) i x)
  stored_entry old new i x is changed =
      ap (arrays_of (meanings width program)) (map-set f arrays at new)
      ∙ put_array law width program (map f arrays) name at words (f new) means (omega (arith, within, length-map arrays f))
      ∙ ap (renewed (arrays_of (meanings width program) (map f arrays)) name)
      (changed ∙ ap (λ o. set (unwrap_or o []) i x)
      (sym (kept_array law width program (map f arrays) name at words means ∙ map_get f arrays at ∙ ap (option_map f) (slice_get-get_or arrays at old within ∙ ap Some (sym is)))))

-- ---- a line in its buffer

-- the value that is there
set-same : {X : Type 0} (xs : List X) (i : ℕ) (x : X) → slice_get xs i ≡ Some x → slice_set xs i x ≡ xs
set-same [] i x is = refl
set-same (y ∷ ys) zero x is = ap (λ o. unwrap_or o y ∷ ys) (sym is)
set-same (y ∷ ys) (suc i) x is = ap (λ zs. y ∷ zs) (set-same ys i x is)

module _ {X : Type 0} (f : X → List ℤ) (law : MeaningsAreOfDirectives) (width : Width) (program : List DirectiveTree) (arrays : List X) (name : List ℕ)
    (at : ℕ) (words : Bool) (means : meanings width program name ≡ Some (record { at = at; kind = k.Array words })) (within : at < length arrays)
    (old new : X) (there : old ≡ get_or arrays at old) where
  abbrev known-arrays : List ℕ → Option (List ℤ)
  known-arrays = arrays_of (meanings width program) (map f arrays)

  abbrev buffer : List ℤ
  buffer = unwrap_or (known-arrays name) []

  at-place : slice_get (map f arrays) at ≡ Some (f old)
  at-place = map_get f arrays at ∙ ap (option_map f) (slice_get-get_or arrays at old within ∙ ap Some (sym there))

  buffer-is : buffer ≡ f old
  buffer-is = ap (λ o. unwrap_or o []) (kept_array law width program (map f arrays) name at words means ∙ at-place)

  -- the array of that number gets a line, if it has room
  pub heard_line : (line : List ℕ) → (has_room (f old) ≡ true → f new ≡ filled (f old) line) → has_room buffer ≡ true
      → arrays_of (meanings width program) (map f (slice_set arrays at new)) ≡ renewed known-arrays name (filled buffer line)
  heard_line line changed room =
      ap (arrays_of (meanings width program)) (map-set f arrays at new)
      ∙ put_array law width program (map f arrays) name at words (f new) means (omega (arith, within, length-map arrays f))
      ∙ ap (renewed known-arrays name) (changed (ap has_room (sym buffer-is) ∙ room) ∙ ap (λ entries. filled entries line) (sym buffer-is))

  -- and else stays
  pub kept_line : (has_room (f old) ≡ false → f new ≡ f old) → has_room buffer ≡ false
      → arrays_of (meanings width program) (map f (slice_set arrays at new)) ≡ known-arrays
  kept_line same no_room =
      ap (arrays_of (meanings width program)) (map-set f arrays at new ∙ ap (slice_set (map f arrays) at) (same (ap has_room (sym buffer-is) ∙ no_room))
      ∙ set-same (map f arrays) at (f old) at-place)
