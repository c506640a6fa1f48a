-- Picks one after another, and the parts that are made from them.
use Rattle.std.proofs.Common.{◌≡◌, ◌∙◌, ℕ, zero, suc, ◌+◌, ◌%◌, ◌<◌, List, [], ◌∷◌, ◌++◌, refl, ap, sym, arith, zero-add, add-zero}
use Rattle.std.proofs.lemmas.List.FromFn.{map-range_with_len_more, sum_by-map-range_with_len_more}
use Rattle.std.proofs.Math.Nat.{mod-lt}
use Rattle.rand_pcg.specs.Lcg.{Lcg, next_state, state_after}
use Rattle.rand_pcg.specs.Pcg.{pcg32}
use Rattle.adv_gen.specs.Picks.{after, pick, picks_before, picked}

-- ---- words taken

state_after-add : (w m increment a b state : ℕ)
    → state_after w m increment b (state_after w m increment a state) ≡ state_after w m increment
    (a + b) state
unfolding state_after
state_after-add w m increment zero b state =
    ap (λ (n : ℕ). state_after w m increment n state) (sym (zero-add b))
state_after-add w m increment (suc a) b state =
    let counted : suc (a + b) ≡ suc a + b = omega arith in
    state_after-add w m increment a b (next_state w m increment state)
    ∙ ap (λ (n : ℕ). state_after w m increment n state) counted

-- none taken, and some after others
pub none_taken : (g : Lcg) → g ≡ after 0 g
unfolding after state_after
none_taken g = refl

pub after-after : (a b : ℕ) (g : Lcg) → after b (after a g) ≡ after (a + b) g
unfolding after
after-after a b g = ap (λ (state : ℕ). record g { state = state })
    (state_after-add 64 6364136223846793005 g.increment a b g.state)

pub taken : (a b : ℕ) (g h k : Lcg) → h ≡ after a g → k ≡ after b h → k ≡ after (a + b) g
taken a b g h k first more = more ∙ ap (after b) first ∙ after-after a b g

-- ---- picks

pub pick-after : (a i bound : ℕ) (g h : Lcg) → h ≡ after a g → pick h i bound ≡ pick g (a + i) bound
unfolding pick
pick-after a i bound g h e = ap (λ (k : Lcg). (pcg32 k).0 % bound) (ap (after i) e
    ∙ after-after a i g)

pub pick-at : (a bound : ℕ) (g h : Lcg) → h ≡ after a g → pick h 0 bound ≡ pick g a bound
pick-at a bound g h e = pick-after a 0 bound g h e ∙ ap (λ (i : ℕ). pick g i bound) (add-zero a)

pub pick-below : (g : Lcg) (i bound : ℕ) → 0 < bound → pick g i bound < bound
unfolding pick
pick-below g i bound some = mod-lt (pcg32 (after i g)).0 some

-- what the generator's step says of the next pick
pub pick-first : (g h : Lcg) (word bound : ℕ) → (word, h) ≡ pcg32 g → word % bound ≡ pick g 0 bound
unfolding pick after state_after
pick-first g h word bound e = ap (λ (step : ℕ × Lcg). step.0 % bound) e

pub step-after : (g h : Lcg) (word : ℕ) → (word, h) ≡ pcg32 g → h ≡ after 1 g
unfolding after state_after
step-after g h word e = ap (λ (step : ℕ × Lcg). step.1) e

-- ---- parts

pub picks_before-more : (picks : ℕ → ℕ) (k : ℕ)
    → picks_before picks (k + 1) ≡ picks_before picks k + picks k
picks_before-more picks k = sum_by-map-range_with_len_more (λ (n : ℕ). n) picks 0 k k (zero-add k)

pub taken-more : (picks : ℕ → ℕ) (k : ℕ) (g h after_it : Lcg) → h ≡ after (picks_before picks k) g
    → after_it ≡ after (picks k) h → after_it ≡ after (picks_before picks (k + 1)) g
taken-more picks k g h after_it first more =
    taken (picks_before picks k) (picks k) g h after_it first more
    ∙ ap (λ (n : ℕ). after n g) (sym (picks_before-more picks k))

pub picked-more : {X : Type 0} (picks : ℕ → ℕ) (part : ℕ → Lcg → X) (k : ℕ) (g h : Lcg) (x : X)
    (xs : List X)
    → h ≡ after (picks_before picks k) g → xs ≡ picked picks part k g → x ≡ part k h → xs ++ x ∷ []
    ≡ picked picks part (k + 1) g
picked-more {X} picks part k g h x xs first so_far one =
    ap (λ (ys : List X). ys ++ x ∷ []) so_far
    ∙ ap (λ (y : X). picked picks part k g ++ y ∷ []) (one ∙ ap (part k) first)
    ∙ sym (map-range_with_len_more (λ (j : ℕ). part j (after (picks_before picks j) g)) 0 k k
    (zero-add k))

pub no_picks : (k : ℕ) → picks_before (λ (n : ℕ). 0) k ≡ 0
no_picks zero = refl
no_picks (suc k) =
    let next : suc k ≡ k + 1 = omega arith in
    ap (picks_before (λ (n : ℕ). 0)) next ∙ picks_before-more (λ (n : ℕ). 0) k ∙ add-zero _
    ∙ no_picks k

-- parts that take no picks
pub none_taken-all : (count : ℕ) (g h : Lcg) → h ≡ after (picks_before (λ (n : ℕ). 0) count) g
    → h ≡ g
none_taken-all count g h e = e ∙ ap (λ (n : ℕ). after n g) (no_picks count) ∙ sym (none_taken g)
