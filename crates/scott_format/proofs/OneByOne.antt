-- Plans one after the other: what they give, and their faults. Each is about eight of them. Fewer
-- are eight too, of which the last ones read nothing (`nothing`).
use Rattle.std.proofs.Common.{◌≡◌, ◌∙◌, Ok}
use Rattle.adv_text.specs.Reading.{Input}
use Rattle.scott_format.specs.Plan.{Plan, done, ◌>>=◌, run}
use Rattle.scott_format.specs.Reading.{Stands}
use Rattle.scott_format.specs.declared.faults.FormatFault.{FormatFault}
use Rattle.scott_format.proofs.Plans.{run-ok, Stands-then, Stands-after}

-- the plan that reads nothing
abbrev pub nothing : Plan (Unit {0})
nothing = done tt

-- eight plans, and what is made of their values
pub record Eight (A B C D E F G H X : Type 0) : Type 0 where
  pub first : Plan A
  pub second : Plan B
  pub third : Plan C
  pub fourth : Plan D
  pub fifth : Plan E
  pub sixth : Plan F
  pub seventh : Plan G
  pub eighth : Plan H
  pub made : A → B → C → D → E → F → G → H → X

-- three plans
abbrev pub three : {A B C X : Type 0} → Plan A → Plan B → Plan C → (A → B → C → X)
    → Eight A B C (Unit {0}) (Unit {0}) (Unit {0}) (Unit {0}) (Unit {0}) X
three p q r made = record {
  first = p;
  second = q;
  third = r;
  fourth = nothing;
  fifth = nothing;
  sixth = nothing;
  seventh = nothing;
  eighth = nothing;
  made = λ a b c _ _ _ _ _. made a b c;
}

module _ {A B C D E F G H X : Type 0} (p : Eight A B C D E F G H X) (s : Input) where
  -- what is left to do after the first ones
  abbrev from_eighth : A → B → C → D → E → F → G → Plan X
  from_eighth a b c d e f g = p.eighth >>= λ h. done (p.made a b c d e f g h)

  abbrev from_seventh : A → B → C → D → E → F → Plan X
  from_seventh a b c d e f = p.seventh >>= λ g. from_eighth a b c d e f g

  abbrev from_sixth : A → B → C → D → E → Plan X
  from_sixth a b c d e = p.sixth >>= λ f. from_seventh a b c d e f

  abbrev from_fifth : A → B → C → D → Plan X
  from_fifth a b c d = p.fifth >>= λ e. from_sixth a b c d e

  abbrev from_fourth : A → B → C → Plan X
  from_fourth a b c = p.fourth >>= λ d. from_fifth a b c d

  abbrev from_third : A → B → Plan X
  from_third a b = p.third >>= λ c. from_fourth a b c

  abbrev from_second : A → Plan X
  from_second a = p.second >>= λ b. from_third a b

  -- all of them
  abbrev whole : Plan X
  whole = p.first >>= λ a. from_second a

  -- where each gave a value, they give what is made of the eight values
  pub eight_read : {a : A} {s₁ : Input} {b : B} {s₂ : Input} {c : C} {s₃ : Input} {d : D} {s₄ : Input}
      {e : E} {s₅ : Input} {f : F} {s₆ : Input} {g : G} {s₇ : Input} {h : H} {s₈ : Input}
      → run p.first s ≡ Ok (a, s₁) → run p.second s₁ ≡ Ok (b, s₂) → run p.third s₂ ≡ Ok (c, s₃)
      → run p.fourth s₃ ≡ Ok (d, s₄) → run p.fifth s₄ ≡ Ok (e, s₅) → run p.sixth s₅ ≡ Ok (f, s₆)
      → run p.seventh s₆ ≡ Ok (g, s₇) → run p.eighth s₇ ≡ Ok (h, s₈)
      → run whole s ≡ Ok (p.made a b c d e f g h, s₈)
  eight_read {a = a} {s₁ = s₁} {b = b} {s₂ = s₂} {c = c} {s₃ = s₃} {d = d} {s₄ = s₄} {e = e}
      {s₅ = s₅} {f = f} {s₆ = s₆} {g = g} {s₇ = s₇} {h = h} {s₈ = s₈} h₁ h₂ h₃ h₄ h₅ h₆ h₇ h₈ =
      run-ok from_second p.first s s₁ a h₁
      ∙ run-ok (from_third a) p.second s₁ s₂ b h₂
      ∙ run-ok (from_fourth a b) p.third s₂ s₃ c h₃
      ∙ run-ok (from_fifth a b c) p.fourth s₃ s₄ d h₄
      ∙ run-ok (from_sixth a b c d) p.fifth s₄ s₅ e h₅
      ∙ run-ok (from_seventh a b c d e) p.sixth s₅ s₆ f h₆
      ∙ run-ok (from_eighth a b c d e f) p.seventh s₆ s₇ g h₇
      ∙ run-ok (λ h. done (p.made a b c d e f g h)) p.eighth s₇ s₈ h h₈

  -- a fault of one of them, where those before it gave values, stands for all
  module _ (fault : FormatFault) where
    pub stops_first : Stands fault (run p.first s) → Stands fault (run whole s)
    stops_first h₁ =
        Stands-then from_second p.first s fault h₁

    pub stops_second : {a : A} {s₁ : Input}
        → run p.first s ≡ Ok (a, s₁) → Stands fault (run p.second s₁) → Stands fault (run whole s)
    stops_second {a = a} {s₁ = s₁} h₁ h₂ =
        Stands-after from_second p.first s s₁ a fault h₁
        (Stands-then (from_third a) p.second s₁ fault h₂)

    pub stops_third : {a : A} {s₁ : Input} {b : B} {s₂ : Input}
        → run p.first s ≡ Ok (a, s₁) → run p.second s₁ ≡ Ok (b, s₂) → Stands fault (run p.third s₂)
        → Stands fault (run whole s)
    stops_third {a = a} {s₁ = s₁} {b = b} {s₂ = s₂} h₁ h₂ h₃ =
        Stands-after from_second p.first s s₁ a fault h₁
        (Stands-after (from_third a) p.second s₁ s₂ b fault h₂
        (Stands-then (from_fourth a b) p.third s₂ fault h₃))

    pub stops_fourth : {a : A} {s₁ : Input} {b : B} {s₂ : Input} {c : C} {s₃ : Input}
        → run p.first s ≡ Ok (a, s₁) → run p.second s₁ ≡ Ok (b, s₂) → run p.third s₂ ≡ Ok (c, s₃)
        → Stands fault (run p.fourth s₃) → Stands fault (run whole s)
    stops_fourth {a = a} {s₁ = s₁} {b = b} {s₂ = s₂} {c = c} {s₃ = s₃} h₁ h₂ h₃ h₄ =
        Stands-after from_second p.first s s₁ a fault h₁
        (Stands-after (from_third a) p.second s₁ s₂ b fault h₂
        (Stands-after (from_fourth a b) p.third s₂ s₃ c fault h₃
        (Stands-then (from_fifth a b c) p.fourth s₃ fault h₄)))

    pub stops_fifth : {a : A} {s₁ : Input} {b : B} {s₂ : Input} {c : C} {s₃ : Input}
        {d : D} {s₄ : Input}
        → run p.first s ≡ Ok (a, s₁) → run p.second s₁ ≡ Ok (b, s₂) → run p.third s₂ ≡ Ok (c, s₃)
        → run p.fourth s₃ ≡ Ok (d, s₄) → Stands fault (run p.fifth s₄) → Stands fault (run whole s)
    stops_fifth {a = a} {s₁ = s₁} {b = b} {s₂ = s₂} {c = c} {s₃ = s₃} {d = d} {s₄ = s₄} h₁ h₂ h₃
        h₄ h₅ =
        Stands-after from_second p.first s s₁ a fault h₁
        (Stands-after (from_third a) p.second s₁ s₂ b fault h₂
        (Stands-after (from_fourth a b) p.third s₂ s₃ c fault h₃
        (Stands-after (from_fifth a b c) p.fourth s₃ s₄ d fault h₄
        (Stands-then (from_sixth a b c d) p.fifth s₄ fault h₅))))

    pub stops_sixth : {a : A} {s₁ : Input} {b : B} {s₂ : Input} {c : C} {s₃ : Input}
        {d : D} {s₄ : Input} {e : E} {s₅ : Input}
        → run p.first s ≡ Ok (a, s₁) → run p.second s₁ ≡ Ok (b, s₂) → run p.third s₂ ≡ Ok (c, s₃)
        → run p.fourth s₃ ≡ Ok (d, s₄) → run p.fifth s₄ ≡ Ok (e, s₅) → Stands fault (run p.sixth s₅)
        → Stands fault (run whole s)
    stops_sixth {a = a} {s₁ = s₁} {b = b} {s₂ = s₂} {c = c} {s₃ = s₃} {d = d} {s₄ = s₄} {e = e}
        {s₅ = s₅} h₁ h₂ h₃ h₄ h₅ h₆ =
        Stands-after from_second p.first s s₁ a fault h₁
        (Stands-after (from_third a) p.second s₁ s₂ b fault h₂
        (Stands-after (from_fourth a b) p.third s₂ s₃ c fault h₃
        (Stands-after (from_fifth a b c) p.fourth s₃ s₄ d fault h₄
        (Stands-after (from_sixth a b c d) p.fifth s₄ s₅ e fault h₅
        (Stands-then (from_seventh a b c d e) p.sixth s₅ fault h₆)))))

    pub stops_seventh : {a : A} {s₁ : Input} {b : B} {s₂ : Input} {c : C} {s₃ : Input}
        {d : D} {s₄ : Input} {e : E} {s₅ : Input} {f : F} {s₆ : Input}
        → run p.first s ≡ Ok (a, s₁) → run p.second s₁ ≡ Ok (b, s₂) → run p.third s₂ ≡ Ok (c, s₃)
        → run p.fourth s₃ ≡ Ok (d, s₄) → run p.fifth s₄ ≡ Ok (e, s₅) → run p.sixth s₅ ≡ Ok (f, s₆)
        → Stands fault (run p.seventh s₆) → Stands fault (run whole s)
    stops_seventh {a = a} {s₁ = s₁} {b = b} {s₂ = s₂} {c = c} {s₃ = s₃} {d = d} {s₄ = s₄}
        {e = e} {s₅ = s₅} {f = f} {s₆ = s₆} h₁ h₂ h₃ h₄ h₅ h₆ h₇ =
        Stands-after from_second p.first s s₁ a fault h₁
        (Stands-after (from_third a) p.second s₁ s₂ b fault h₂
        (Stands-after (from_fourth a b) p.third s₂ s₃ c fault h₃
        (Stands-after (from_fifth a b c) p.fourth s₃ s₄ d fault h₄
        (Stands-after (from_sixth a b c d) p.fifth s₄ s₅ e fault h₅
        (Stands-after (from_seventh a b c d e) p.sixth s₅ s₆ f fault h₆
        (Stands-then (from_eighth a b c d e f) p.seventh s₆ fault h₇))))))

    pub stops_eighth : {a : A} {s₁ : Input} {b : B} {s₂ : Input} {c : C} {s₃ : Input}
        {d : D} {s₄ : Input} {e : E} {s₅ : Input} {f : F} {s₆ : Input} {g : G} {s₇ : Input}
        → run p.first s ≡ Ok (a, s₁) → run p.second s₁ ≡ Ok (b, s₂) → run p.third s₂ ≡ Ok (c, s₃)
        → run p.fourth s₃ ≡ Ok (d, s₄) → run p.fifth s₄ ≡ Ok (e, s₅) → run p.sixth s₅ ≡ Ok (f, s₆)
        → run p.seventh s₆ ≡ Ok (g, s₇) → Stands fault (run p.eighth s₇)
        → Stands fault (run whole s)
    stops_eighth {a = a} {s₁ = s₁} {b = b} {s₂ = s₂} {c = c} {s₃ = s₃} {d = d} {s₄ = s₄} {e = e}
        {s₅ = s₅} {f = f} {s₆ = s₆} {g = g} {s₇ = s₇} h₁ h₂ h₃ h₄ h₅ h₆ h₇ h₈ =
        Stands-after from_second p.first s s₁ a fault h₁
        (Stands-after (from_third a) p.second s₁ s₂ b fault h₂
        (Stands-after (from_fourth a b) p.third s₂ s₃ c fault h₃
        (Stands-after (from_fifth a b c) p.fourth s₃ s₄ d fault h₄
        (Stands-after (from_sixth a b c d) p.fifth s₄ s₅ e fault h₅
        (Stands-after (from_seventh a b c d e) p.sixth s₅ s₆ f fault h₆
        (Stands-after (from_eighth a b c d e f) p.seventh s₆ s₇ g fault h₇
        (Stands-then (λ h. done (p.made a b c d e f g h)) p.eighth s₇ fault h₈)))))))
