-- How rolls are taken one by one.
use Rattle.std.proofs.Common.{◌≡◌, ℕ, zero, suc, true, ◌+◌, ◌-◌, ◌≤◌, [], ◌∷◌, refl, ap, ◌∙◌, arith}
use Rattle.std.proofs.lemmas.Bool.Decides.{nat_tests}
use Rattle.rand_pcg.specs.Lcg.{Lcg}
use Rattle.rand_pcg.specs.Pcg.{pcg32}
use Rattle.adv_draws.specs.Run.{is_draw, AllDraws}
use Rattle.adv_draws.specs.Seeded.{draw_of_word, rolls}

-- the first of some rolls is that of the next word
rolls-suc : (count : ℕ) (generator : Lcg) → rolls (suc count) generator ≡ draw_of_word (pcg32 generator).0 ∷ rolls count (pcg32 generator).1
unfolding rolls
rolls-suc count generator = refl

rolls-zero : (generator : Lcg) → rolls 0 generator ≡ []
unfolding rolls
rolls-zero generator = refl

-- where not all were taken, the next word's draw is the first that is left
pub rolls-next : (all taken : ℕ) (generator : Lcg) → taken ≤ all → (taken ≡ all → ⊥) → rolls (all - taken) generator ≡ draw_of_word (pcg32 generator).0 ∷ rolls (all - (taken + 1)) (pcg32 generator).1
rolls-next all taken generator most more =
    let counted : all - taken ≡ suc (all - (taken + 1)) = omega arith in
    ap (λ count. rolls count generator) counted ∙ rolls-suc (all - (taken + 1)) generator

-- where all were taken, none is left
pub rolls-done : (all taken : ℕ) (generator : Lcg) → taken ≡ all → rolls (all - taken) generator ≡ []
rolls-done all taken generator same =
    let counted : all - taken ≡ 0 = omega arith in
    ap (λ count. rolls count generator) counted ∙ rolls-zero generator

-- the draw of a word is a draw
is_draw-draw_of_word : (word : ℕ) → is_draw (draw_of_word word) ≡ true
is_draw-draw_of_word word = grind (arith, nat_tests)

-- all rolls are draws
pub AllDraws-rolls : (count : ℕ) (generator : Lcg) → AllDraws (rolls count generator)
unfolding rolls
AllDraws-rolls zero generator = refl
AllDraws-rolls (suc count) generator =
    rw (is_draw-draw_of_word (pcg32 generator).0) (AllDraws-rolls count (pcg32 generator).1)
