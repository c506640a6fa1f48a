-- How a part of a run goes on with more steps, lines and draws.
use Rattle.std.proofs.Common.{◌≡◌, ◌∙◌, arith, ℕ, ◌<◌, List, [], ◌∷◌, ◌++◌, refl, sym, ap, append-nil, append_assoc}
use Rattle.std.specs.Prelude.{⊤}
use Rattle.inform_meaning.specs.Worlds.{Program, Config}
use Rattle.inform_meaning.specs.Frames.{Frame, Begins, Wants, Decides, Looping, Calling, Main, Over, Lack, Outcome, Value, Truth, Normal, Returns, Breaks, Continues, Halts, Waits, Meaning, bind, on_normal, on_value, on_truth, on_body, on_return, on_main, on_over}
use Rattle.inform_meaning.specs.Runs.{call_at, hand, room_within, room_in, resume_at}
use Rattle.inform_meaning.specs.Laws.{with_more}
use Rattle.inform_meaning.proofs.Going.{Going}

-- no part of the run waits
abbrev pub Settled : Outcome → Type 0
Settled (Waits lack fs) = ⊥
Settled e = ⊤

-- what is done with an outcome and what is left
abbrev pub through : (Outcome → Meaning) → Outcome × Config → Outcome × Config
through k r = k r.0 r.1

module _ (p : Program) where
  -- ---- frames that wait

  pub hand-waits : (n : ℕ) (x : Frame) (lack : Lack) (fs : List Frame) (c : Config)
      → hand p (call_at p n) x (Waits lack fs) c ≡ (Waits lack (fs ++ x ∷ []), c)
  unfolding on_normal on_value on_truth on_body on_return on_main on_over
  hand-waits n (Begins b) lack fs c = refl
  hand-waits n (Wants w) lack fs c = refl
  hand-waits n (Decides d) lack fs c = refl
  hand-waits n (Looping l) lack fs c = refl
  hand-waits n (Calling s) lack fs c = refl
  hand-waits n Main lack fs c = refl
  hand-waits n (Over halt) lack fs c = refl

  pub resume-waits : (n : ℕ) (fs : List Frame) (lack : Lack) (gs : List Frame) (c : Config)
      → resume_at p n fs (Waits lack gs) c ≡ (Waits lack (gs ++ fs), c)
  unfolding resume_at bind
  resume-waits n [] lack gs c = ap (λ gs. (Waits lack gs, c)) (sym (append-nil gs))
  resume-waits n (x ∷ fs) lack gs c =
      ap (through (resume_at p n fs)) (hand-waits (room_in n fs) x lack gs c)
      ∙ resume-waits n fs lack (gs ++ x ∷ []) c
      ∙ ap (λ gs. (Waits lack gs, c)) (append_assoc gs (x ∷ []) fs)

  -- ---- frames inside others

  room-append : (n : ℕ) (fs gs : List Frame) → room_in n (fs ++ gs) ≡ room_in (room_in n gs) fs
  room-append n [] gs = refl
  room-append n (x ∷ fs) gs = ap (room_within x) (room-append n fs gs)

  pub resume-append : (n : ℕ) (fs gs : List Frame) (e : Outcome) (c : Config)
      → resume_at p n (fs ++ gs) e c ≡ bind (resume_at p (room_in n gs) fs e) (resume_at p n gs) c
  unfolding resume_at bind
  resume-append n [] gs e c = refl
  resume-append n (x ∷ fs) gs e c =
      ap (λ room. through (resume_at p n (fs ++ gs)) (hand p (call_at p room) x e c))
      (room-append n fs gs)
      ∙ resume-append n fs gs (hand p (call_at p (room_in (room_in n gs) fs)) x e c).0
      (hand p (call_at p (room_in (room_in n gs) fs)) x e c).1

  module _ (k : ℕ) (ls : List (List ℕ)) (ds : List ℕ) where
    abbrev pub more : Config → Config
    more c = with_more k ls ds c

    -- a part that waited goes on inside so many calls that may be open
    abbrev pub going_at : ℕ → Outcome → Config → Outcome × Config
    going_at n (Waits lack fs) c = resume_at p n fs Normal (more c)
    going_at n e c = (e, more c)

    -- with more, a part does what it does with less, and goes on with that; where fewer steps than
    -- so many are left
    abbrev pub Splits : ℕ → ℕ → Meaning → Type 0
    Splits n b m = (c : Config) → c.steps < b → m (more c) ≡ going_at n (m c).0 (m c).1

    -- a part, and the frames that wait for it
    pub bind-splits : (n b : ℕ) (fs : List Frame) (m : Meaning) → Splits (room_in n fs) b m
        → Going m
        → ((e : Outcome) → Settled e → Splits n b (resume_at p n fs e))
        → Splits n b (bind m (resume_at p n fs))
    unfolding bind
    bind-splits n b fs m h going rest c few = ap (through (resume_at p n fs)) (h c few)
        ∙ by (m c).0 (m c).1 (omega (arith, few, (going c).steps)) where
          by : (e : Outcome) (d : Config) → d.steps < b
              → through (resume_at p n fs) (going_at (room_in n fs) e d) ≡ going_at n
              (resume_at p n fs e d).0 (resume_at p n fs e d).1
          by (Waits lack gs) d less = sym (resume-append n gs fs Normal (more d))
              ∙ sym (ap (through (going_at n)) (resume-waits n fs lack gs d))
          by (Value a) d less = rest (Value a) tt d less
          by (Truth x) d less = rest (Truth x) tt d less
          by Normal d less = rest Normal tt d less
          by (Returns a) d less = rest (Returns a) tt d less
          by Breaks d less = rest Breaks tt d less
          by Continues d less = rest Continues tt d less
          by (Halts halt) d less = rest (Halts halt) tt d less

    -- the same with one frame
    pub frame-splits : (n b : ℕ) (x : Frame) (m : Meaning) → Splits (room_within x n) b m → Going m
        → ((e : Outcome) → Settled e → Splits n b (hand p (call_at p n) x e))
        → Splits n b (bind m (hand p (call_at p n) x))
    unfolding bind resume_at
    frame-splits n b x m h going rest =
        bind-splits n b (x ∷ []) m h going (λ e settled. rest e settled)
