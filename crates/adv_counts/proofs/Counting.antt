-- Numbers that are counted, one after another.
use Rattle.std.proofs.Common.{◌≡◌, ◌∙◌, ℕ, ◌+◌, ◌-◌, ◌<◌, ◌≤◌, min, Bool, true, false, cond, eqb, List, [], ◌∷◌, length, refl, sym, subst, arith}
use Rattle.std.specs.Prelude.{◌==◌}
use Rattle.std.proofs.lemmas.Bool.{eq-eqb, eqb-true}
use Rattle.std.proofs.lemmas.List.{length-set, get_or-set_same, get_or-set_other}
use Rattle.adv_counts.specs.Counts.{GREATEST, count_of, raised, counted, times}
use Rattle.adv_counts.specs.Laws.{CountsAdd, CountsRise, CountsStay}

pub counts_add : CountsAdd
counts_add [] others counts = refl
counts_add (number ∷ first) others counts = counts_add first others (raised number counts)

pub counts_stay : CountsStay
counts_stay [] counts = refl
counts_stay (number ∷ numbers) counts =
    counts_stay numbers (raised number counts)
    ∙ length-set counts number (min (count_of counts number + 1) GREATEST)

-- the count of a number, where one is counted
one_more : (number other : ℕ) (counts : List ℕ) → other < length counts
    → (same : Bool) → (number == other) ≡ same
    → count_of (raised number counts) other
    ≡ cond same (min (count_of counts other + 1) GREATEST) (count_of counts other)
one_more number other counts there true same =
    let e : number ≡ other = eqb-true number other same in
    subst (λ n. count_of (raised n counts) other ≡ min (count_of counts other + 1) GREATEST) (sym e)
    (get_or-set_same counts other (min (count_of counts other + 1) GREATEST) 0 there)
one_more number other counts there false differ =
    get_or-set_other counts number other (min (count_of counts number + 1) GREATEST) 0
    (λ e. absurd (let f : (number == other) ≡ true = eq-eqb number other (sym e) in
    let g : true ≡ false = sym f ∙ differ in cc))

still_there : (counts : List ℕ) (next number : ℕ) → number < length counts
    → number < length (raised next counts)
still_there counts next number there =
    rw (length-set counts next (min (count_of counts next + 1) GREATEST)) there

-- each count rises by how often its number was counted, and stops at the greatest count
pub counts_rise : CountsRise
counts_rise [] counts number there few = omega (arith, few)
counts_rise (next ∷ numbers) counts number there few = by
    (counts_rise numbers (raised next counts) number (still_there counts next number there))
    (next == number) refl
  where
    by : (count_of (raised next counts) number ≤ GREATEST
        → count_of (counted numbers (raised next counts)) number
        ≡ min (count_of (raised next counts) number + times number numbers) GREATEST)
        → (same : Bool) → (next == number) ≡ same
        → count_of (counted numbers (raised next counts)) number
        ≡ min (count_of counts number + times number (next ∷ numbers)) GREATEST
    by rest true same =
        let one = one_more next number counts there true same in
        rest (omega (arith, one)) ∙ rw same (omega (arith, one))
    by rest false differ =
        let one = one_more next number counts there false differ in
        rest (omega (arith, one, few)) ∙ rw differ (omega (arith, one))
