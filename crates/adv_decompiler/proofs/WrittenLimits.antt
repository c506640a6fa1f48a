-- What is written of an action keeps the limits of a line: five conditions, four opcodes, and
-- numbers that can be packed.
use Rattle.std.proofs.Common.{◌≡◌, ℕ, zero, suc, ◌+◌, ◌-◌, ◌≤◌, inl, inr, ◌&&◌, true, eqb, leb, List, [], ◌∷◌, map, take, drop, length, refl, sym, subst, arith, length-drop, length-take}
use Rattle.std.specs.Prelude.{flat_map}
use Rattle.std.specs.List.{list_all, AllByRecursion}
use Rattle.std.proofs.lemmas.Bool.{and_parts, cond_both, eqb-true, leb-true}
use Rattle.std.proofs.lemmas.List.{length-map}
use Rattle.scott_types.specs.declared.parts.Action.{Action}
use Rattle.scott_types.specs.Action.{argument_of, opcode_numbers, is_zero}
use Rattle.scott_types.specs.Limits.{is_natural, is_action}
use Rattle.adv_decompiler.specs.Written.{WrittenAction, is_parameter, tests_first, takes, has_brackets, without_zeros, pieces, written, number_of, parameters_of}
use Rattle.adv_decompiler.proofs.Pieces.{numbers-pieces, parameters-pieces}
use Rattle.adv_decompiler.proofs.WrittenActions.{Same, without_zeros-same, takes-without}
use Rattle.adv_decompiler.proofs.PlainConditions.{IsSmall}
use Rattle.adv_decompiler.proofs.PlainOpcodes.{IsParameter, IsPiece}
use Rattle.adv_decompiler.proofs.OpcodeMeanings.{FitPairs}
use Rattle.adv_decompiler.proofs.PiecesRight.{Enough, pieces_are, length-pieces}

pub record IsWritten (w : WrittenAction) : Type 0 where
  pub conds_few : length w.conds ≤ 5
  pub conds_small : AllByRecursion IsSmall w.conds
  pub ops_few : length w.ops ≤ 4
  pub ops_right : AllByRecursion IsPiece w.ops
  pub ops_fit : FitPairs (map number_of w.ops)
  pub enough : length w.conds + length (flat_map parameters_of w.ops) ≤ 5

-- ---- lists of small numbers

all-small : (ns : List ℕ) → list_all is_natural ns ≡ true → AllByRecursion IsSmall ns
all-small [] h = tt
all-small (n ∷ ns) h = let parts = and_parts (is_natural n) (list_all is_natural ns) h in (leb-true n 2147483647 parts.0, all-small ns parts.1)

small-take : (k : ℕ) (ns : List ℕ) → AllByRecursion IsSmall ns → AllByRecursion IsSmall (take k ns)
small-take zero ns all = tt
small-take (suc k) [] all = tt
small-take (suc k) (n ∷ ns) all = (all.0, small-take k ns all.1)

small-without : (ns : List ℕ) → AllByRecursion IsSmall ns → AllByRecursion IsSmall (without_zeros ns)
small-without [] all = tt
small-without (n ∷ ns) all =
    cond_both (is_zero n && list_all is_zero ns) [] (n ∷ without_zeros ns) (λ xs. AllByRecursion IsSmall xs) (λ e. tt) (λ e. (all.0, small-without ns all.1))

length-without : (ns : List ℕ) → length (without_zeros ns) ≤ length ns
length-without [] = omega arith
length-without (n ∷ ns) =
    let others = length-without ns in
    cond_both (is_zero n && list_all is_zero ns) [] (n ∷ without_zeros ns) (λ xs. length xs ≤ length (n ∷ ns)) (λ e. omega arith) (λ e. omega arith)

arguments-small : (ns : List ℕ) → AllByRecursion IsSmall ns → AllByRecursion IsParameter (map argument_of ns)
arguments-small [] all = tt
arguments-small (n ∷ ns) all = let small : n ≤ 2147483647 = all.0 in (omega arith, arguments-small ns all.1)

parameters-drop : (k : ℕ) (ns : List ℕ) → AllByRecursion IsParameter ns → AllByRecursion IsParameter (drop k ns)
parameters-drop zero ns all = all
parameters-drop (suc k) [] all = tt
parameters-drop (suc k) (n ∷ ns) all = parameters-drop k ns all.1

-- ---- packed pairs

-- numbers that are at each place those of others can be packed where the others can
fit-same : (ns ms : List ℕ) → Same ns ms → FitPairs ms → FitPairs ns
fit-same ns ms same fit =
    let zeroth = same 0 in
    let first = same 1 in
    let second = same 2 in
    let third = same 3 in
    record {
      first = omega (arith, fit.first);
      first_low = omega (arith, fit.first_low);
      second = omega (arith, fit.second);
      second_low = omega (arith, fit.second_low);
    }

pairs_fit : (vocab : ℕ) (conds pairs : List ℕ) → length pairs ≡ 2 → AllByRecursion IsSmall pairs
    → FitPairs (opcode_numbers (record { vocab = vocab; conds = conds; pairs = pairs }))
pairs_fit vocab conds (p ∷ q ∷ []) two small =
    let p_small : p ≤ 2147483647 = small.0 in
    let q_small : q ≤ 2147483647 = small.1.0 in
    record { first = omega arith; first_low = omega arith; second = omega arith; second_low = omega arith }
pairs_fit vocab conds [] two small = absurd (omega arith)
pairs_fit vocab conds (p ∷ []) two small = absurd (omega arith)
pairs_fit vocab conds (p ∷ q ∷ r ∷ pairs) two small = absurd (omega arith)

numbers_small : (vocab : ℕ) (conds pairs : List ℕ) → length pairs ≡ 2 → AllByRecursion IsSmall pairs
    → AllByRecursion IsSmall (opcode_numbers (record { vocab = vocab; conds = conds; pairs = pairs }))
numbers_small vocab conds (p ∷ q ∷ []) two small =
    let p_small : p ≤ 2147483647 = small.0 in
    let q_small : q ≤ 2147483647 = small.1.0 in
    (omega arith, (omega arith, (omega arith, (omega arith, tt))))
numbers_small vocab conds [] two small = absurd (omega arith)
numbers_small vocab conds (p ∷ []) two small = absurd (omega arith)
numbers_small vocab conds (p ∷ q ∷ r ∷ pairs) two small = absurd (omega arith)

four_numbers : (vocab : ℕ) (conds pairs : List ℕ) → length pairs ≡ 2 → length (opcode_numbers (record { vocab = vocab; conds = conds; pairs = pairs })) ≡ 4
four_numbers vocab conds (p ∷ q ∷ []) two = refl
four_numbers vocab conds [] two = absurd (omega arith)
four_numbers vocab conds (p ∷ []) two = absurd (omega arith)
four_numbers vocab conds (p ∷ q ∷ r ∷ pairs) two = absurd (omega arith)

-- ---- an action

module _ (vocab : ℕ) (conds pairs : List ℕ) (five : length conds ≡ 5) (two : length pairs ≡ 2) (small : AllByRecursion IsSmall conds) (pairs_small : AllByRecursion IsSmall pairs) where
  abbrev numbers : List ℕ
  numbers = opcode_numbers (record { vocab = vocab; conds = conds; pairs = pairs })

  abbrev ops : List ℕ
  ops = without_zeros numbers

  abbrev before : ℕ
  before = tests_first conds

  fit : (parameters : List ℕ) → FitPairs (map number_of (pieces parameters ops))
  fit parameters =
      subst FitPairs (sym (numbers-pieces parameters ops)) (fit-same ops numbers (without_zeros-same numbers) (pairs_fit vocab conds pairs two pairs_small))

  few : (parameters : List ℕ) → length (pieces parameters ops) ≤ 4
  few parameters = omega (arith, length-pieces parameters ops, length-without numbers, four_numbers vocab conds pairs two)

  right : (parameters : List ℕ) → AllByRecursion IsParameter parameters → Enough parameters ops → AllByRecursion IsPiece (pieces parameters ops)
  right parameters all enough = pieces_are parameters ops all (small-without numbers (numbers_small vocab conds pairs two pairs_small)) enough

  abbrev parameters : List ℕ
  parameters = drop before (map argument_of conds)

  -- an action that is written with brackets keeps the limits of a line
  bracketed_is : has_brackets conds numbers ≡ true → IsWritten (record { conds = take before conds; ops = pieces parameters ops })
  bracketed_is e =
      let both = and_parts (list_all is_parameter (drop before conds)) _ e in
      let most : before + takes numbers ≤ 5 = leb-true (before + takes numbers) 5 (and_parts (leb (before + takes numbers) 5) _ both.1).0 in
      let there : length parameters ≡ length (map argument_of conds) - before = length-drop before (map argument_of conds) in
      let mapped : length (map argument_of conds) ≡ length conds = length-map conds argument_of in
      let taken : takes ops ≡ takes numbers = takes-without numbers in
      let enough : takes ops ≤ length parameters = omega arith in
      let used : length (flat_map parameters_of (pieces parameters ops)) ≤ takes ops =
      subst (λ (ps : List ℕ). length ps ≤ takes ops) (sym (parameters-pieces parameters ops)) (omega (arith, length-take (takes ops) parameters)) in
      record {
        conds_few = omega (arith, length-take before conds);
        conds_small = small-take before conds small;
        ops_few = few parameters;
        ops_right = right parameters (parameters-drop before (map argument_of conds) (arguments-small conds small)) (inr enough);
        ops_fit = fit parameters;
        enough = omega (arith, length-take before conds);
      }

  -- an action that is written without brackets keeps them too
  plain_is : IsWritten (record { conds = without_zeros conds; ops = pieces [] ops })
  plain_is =
      let used : length (flat_map parameters_of (pieces [] ops)) ≤ 0 =
      subst (λ (ps : List ℕ). length ps ≤ 0) (sym (parameters-pieces [] ops)) (omega (arith, length-take {A = ℕ} (takes ops) [])) in
      record {
        conds_few = omega (arith, length-without conds);
        conds_small = small-without conds small;
        ops_few = few [];
        ops_right = right [] tt (inl refl);
        ops_fit = fit [];
        enough = omega (arith, length-without conds);
      }

  written_by : IsWritten (written (record { vocab = vocab; conds = conds; pairs = pairs }))
  written_by =
      cond_both (has_brackets conds numbers) (record { conds = take before conds; ops = pieces parameters ops })
      (record { conds = without_zeros conds; ops = pieces [] ops }) IsWritten bracketed_is (λ e. plain_is)

pub record IsGood (a : Action) : Type 0 where
  pub vocab : a.vocab ≤ 2147483647
  pub five : length a.conds ≡ 5
  pub conds : AllByRecursion IsSmall a.conds
  pub two : length a.pairs ≡ 2
  pub pairs : AllByRecursion IsSmall a.pairs

-- an action that passes the test has five conditions, two pairs, and no number above the limit
pub good : (a : Action) → is_action a ≡ true → IsGood a
good a h =
    let one = and_parts (is_natural a.vocab) _ h in
    let second = and_parts (eqb (length a.conds) 5) _ one.1 in
    let third = and_parts (list_all is_natural a.conds) _ second.1 in
    let fourth = and_parts (eqb (length a.pairs) 2) (list_all is_natural a.pairs) third.1 in
    record {
      vocab = leb-true a.vocab 2147483647 one.0;
      five = eqb-true (length a.conds) 5 second.0;
      conds = all-small a.conds third.0;
      two = eqb-true (length a.pairs) 2 fourth.0;
      pairs = all-small a.pairs fourth.1;
    }

pub written_is : (a : Action) → IsGood a → IsWritten (written a)
written_is a h = written_by a.vocab a.conds a.pairs h.five h.two h.conds h.pairs
