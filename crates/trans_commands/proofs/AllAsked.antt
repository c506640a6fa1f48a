-- Whether the noun text is `all`.
use Rattle.std.proofs.Common.{◌≡◌, ◌∙◌, arith, ℕ, zero, suc, ◌+◌, ◌<◌, ℤ, pos, nat_eq, Bool, true, false, not, ◌&&◌, List, [], ◌∷◌, length, take, drop, slice_get, codes, bytes_eq, Option, Some, unwrap_or, refl, sym, ap, subst}
use Rattle.std.proofs.lemmas.Slice.Eq.{bytes_eq-Decides}
use Rattle.inform_tree.specs.declared.values.SumOp.TheVariants.{Add}
use Rattle.inform_tree.specs.declared.conditions.Relation.TheVariants.{Ne}
use Rattle.inform_tree.specs.Values as v
use Rattle.inform_tree.specs.Conditions as t
use Rattle.inform_meaning.specs.Worlds.{Program, Scope}
use Rattle.inform_logic.specs.Stages.{Stage}
use Rattle.inform_logic.specs.Leading.{Evaluates, Tests, Does, by_return}
use Rattle.inform_logic.proofs.Words.{ne_is, small_number, small_sum}
use Rattle.inform_logic.proofs.Values.{valued, number, global, entry, sum_of_two}
use Rattle.inform_logic.proofs.Conditions.{compare}
use Rattle.inform_logic.proofs.Statements.{end, next, returns, if_true, if_false, return_true, return_false}
use Rattle.inform_logic.proofs.Routines.{does_within, routine}
use Rattle.inform_codes.specs.Grown.{body_of}
use Rattle.scott_types.specs.declared.states.State.{State}
use Rattle.scott_types.specs.declared.styles.Style.{Style}
use Rattle.scott_types.specs.Database.{Database}
use Rattle.scott_rules.specs.Transfer.{is_all}
use Rattle.trans_specs.specs.Tables.{bit}
use Rattle.trans_specs.specs.Standing.{StandsFor}
use Rattle.trans_commands.proofs.Known.{Known}

-- ---- bytes in a buffer

-- byte j of a part of a buffer that begins at `at` is byte `at + j` of the buffer
byte_at : (all : List ℤ) (at n j k : ℕ) → j < n → at + j ≡ k
    → slice_get (take n (drop at all)) j ≡ slice_get all k
byte_at all at zero j k less is = absurd (omega (arith, less))
byte_at [] zero (suc n) j k less is = refl
byte_at [] (suc at) (suc n) j k less is = refl
byte_at (x ∷ xs) zero (suc n) zero zero less is = refl
byte_at (x ∷ xs) zero (suc n) zero (suc k) less is = absurd (omega (arith, is))
byte_at (x ∷ xs) zero (suc n) (suc j) zero less is = absurd (omega (arith, is))
byte_at (x ∷ xs) zero (suc n) (suc j) (suc k) less is =
    byte_at xs zero n j k (omega (arith, less)) (omega (arith, is))
byte_at (x ∷ xs) (suc at) (suc n) j zero less is = absurd (omega (arith, is))
byte_at (x ∷ xs) (suc at) (suc n) j (suc k) less is =
    byte_at xs at (suc n) j k less (omega (arith, is))

-- an entry that is there stands before the end
before_end : (xs : List ℤ) (k : ℕ) {x : ℤ} → slice_get xs k ≡ Some x → k < length xs
before_end [] k h = cc
before_end (y ∷ ys) zero h = omega arith
before_end (y ∷ ys) (suc k) h = omega (arith, before_end ys k h)

-- texts of other lengths are others
other_length : (xs ys : List ℕ) → nat_eq (length xs) (length ys) ≡ false → bytes_eq xs ys ≡ false
other_length xs ys other = by (bytes_eq xs ys) refl where
  by : (b : Bool) → bytes_eq xs ys ≡ b → b ≡ false
  by true h =
      let same : length xs ≡ length ys = ap length ((bytes_eq-Decides xs ys).0 h) in
      absurd (grind (arith, other, same))
  by false h = refl

longer : (n : ℕ) → nat_eq (suc (suc (suc (suc n)))) 3 ≡ false
longer n = grind arith

module _ {style : Style} {db : Database} {p : Program} (known : Known style db p) (s : State)
    (w : Stage) (d : ℕ) where
  -- another length
  short : (typed : List ℕ) → StandsFor db s typed w → nat_eq (length typed) 3 ≡ false
      → Does p (suc d) (codes "is_all") [] w (pos (bit (is_all typed))) w 6
  unfolding body_of
  short typed stands other = subst (λ (b : Bool). Does p (suc d) (codes "is_all") [] w (pos (bit b))
      w 6) (sym (other_length typed (codes "all") other)) (does_within (omega arith)
      (routine known.is_all (returns (if_true (compare (global refl stands.has_noun.size_is) number
      (ne_is (length typed) 3 ∙ ap not other)) (returns return_false))) by_return))

  -- three bytes
  three : (a b c : ℕ) → StandsFor db s (a ∷ b ∷ c ∷ []) w
      → Does p (suc d) (codes "is_all") [] w (pos (bit (is_all (a ∷ b ∷ c ∷ [])))) w 6
  unfolding body_of
  three a b c stands = by (nat_eq a 97) (nat_eq b 108) (nat_eq c 108) refl refl refl where
    own : Scope
    own = record { directive = known.is_all.at; locals = [] }

    at : ℕ
    at = stands.has_noun.at

    all : List ℤ
    all = stands.has_noun.stands.all

    byte : (j : ℕ) → j < 3
        → slice_get all (at + j) ≡ slice_get (pos a ∷ pos b ∷ pos c ∷ []) j
    byte j less = sym (byte_at all at 3 j (at + j) less refl)
        ∙ ap (λ (xs : List ℤ). slice_get xs j) stands.has_noun.stands.stand

    first : slice_get all at ≡ Some (pos a)
    first = ap (slice_get all) (omega arith) ∙ byte 0 (omega arith)

    small : at + 2 < 32768
    small = omega (
      arith,
      before_end all (at + 2) (byte 2 (omega arith)),
      stands.ready.working.buffer_long,
      same,
    ) where
      same : length all ≡ length stands.ready.working.buffer
      same = ap (λ (o : Option (List ℤ)). length (unwrap_or o []))
          (sym stands.has_noun.stands.all_are ∙ stands.ready.working.buffer_is)

    -- the tests that come before
    sized : Tests p d (t.Compare Ne (v.Name (codes "nb")) (v.Number 3)) own w false w 0
    sized = compare (global refl stands.has_noun.size_is) number refl

    after : (n : ℕ) → n < 3 → Evaluates p d
        (v.Sum (v.Name (codes "wb")) (v.MoreTerms Add (v.Number n) v.NoTerms)) own w (pos (at + n))
        w 0
    after n less = sum_of_two (global refl stands.has_noun.at_is)
        (valued (small_number p.width (omega (arith, less))) number)
        (small_sum p.width at n (omega (arith, less, small)))

    by : (x y z : Bool) → nat_eq a 97 ≡ x → nat_eq b 108 ≡ y → nat_eq c 108 ≡ z
        → Does p (suc d) (codes "is_all") [] w (pos (bit (x && (y && (z && true))))) w 6
    by false y z hx hy hz = does_within (omega arith) (routine known.is_all (next
        (if_false sized end) (returns (if_true (compare
        (entry (global refl stands.has_noun.at_is) stands.has_noun.stands.all_are first) number
        (ne_is a 97 ∙ ap not hx)) (returns return_false)))) by_return)
    by true false z hx hy hz = does_within (omega arith) (routine known.is_all (next
        (if_false sized end) (next (if_false (compare
        (entry (global refl stands.has_noun.at_is) stands.has_noun.stands.all_are first) number
        (ne_is a 97 ∙ ap not hx)) end) (returns (if_true (compare
        (entry (after 1 (omega arith)) stands.has_noun.stands.all_are (byte 1 (omega arith))) number
        (ne_is b 108 ∙ ap not hy)) (returns return_false))))) by_return)
    by true true false hx hy hz = does_within (omega arith) (routine known.is_all (next
        (if_false sized end) (next (if_false (compare
        (entry (global refl stands.has_noun.at_is) stands.has_noun.stands.all_are first) number
        (ne_is a 97 ∙ ap not hx)) end) (next (if_false (compare
        (entry (after 1 (omega arith)) stands.has_noun.stands.all_are (byte 1 (omega arith))) number
        (ne_is b 108 ∙ ap not hy)) end) (returns (if_true (compare
        (entry (after 2 (omega arith)) stands.has_noun.stands.all_are (byte 2 (omega arith))) number
        (ne_is c 108 ∙ ap not hz)) (returns return_false)))))) by_return)
    by true true true hx hy hz = does_within (omega arith) (routine known.is_all (next
        (if_false sized end) (next (if_false (compare
        (entry (global refl stands.has_noun.at_is) stands.has_noun.stands.all_are first) number
        (ne_is a 97 ∙ ap not hx)) end) (next (if_false (compare
        (entry (after 1 (omega arith)) stands.has_noun.stands.all_are (byte 1 (omega arith))) number
        (ne_is b 108 ∙ ap not hy)) end) (next (if_false (compare
        (entry (after 2 (omega arith)) stands.has_noun.stands.all_are (byte 2 (omega arith))) number
        (ne_is c 108 ∙ ap not hz)) end) (returns return_true))))) by_return)

  pub all_asked : (typed : List ℕ) → StandsFor db s typed w
      → Does p (suc d) (codes "is_all") [] w (pos (bit (is_all typed))) w 6
  all_asked [] stands = short [] stands refl
  all_asked (a ∷ []) stands = short (a ∷ []) stands refl
  all_asked (a ∷ b ∷ []) stands = short (a ∷ b ∷ []) stands refl
  all_asked (a ∷ b ∷ c ∷ []) stands = three a b c stands
  all_asked (a ∷ b ∷ c ∷ e ∷ rest) stands =
      short (a ∷ b ∷ c ∷ e ∷ rest) stands (longer (length rest))
