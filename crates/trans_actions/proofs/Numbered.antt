-- The opcodes by their numbers.
use Rattle.std.proofs.Common.{◌≡◌, arith, ℕ, ◌+◌, ◌-◌, ◌≤◌, nat_lt, nat_eq, Bool, true, false, if◌then◌else◌, refl, ap, subst}
use Rattle.std.specs.Prelude.{slice_index_or}
use Rattle.inform_meaning.specs.Worlds.{Program}
use Rattle.scott_types.specs.declared.styles.Style.{Style}
use Rattle.scott_types.specs.declared.opcodes.Opcode.{Opcode}
use Rattle.scott_types.specs.declared.opcodes.Opcode.TheVariants.{Nothing, Say, Get}
use Rattle.scott_types.specs.Database.{Database}
use Rattle.scott_types.specs.Opcode.{named, opcode_of}
use Rattle.trans_actions.proofs.Known.{Known}
use Rattle.trans_actions.proofs.ByNumber.{AllFrom, at_number}
use Rattle.trans_actions.proofs.Effects.{is_called, OpcodeSpec}
use Rattle.trans_actions.proofs.ItemEffects.{opcode_53, opcode_55, opcode_59, opcode_62, opcode_69, opcode_72, opcode_74, opcode_75}
use Rattle.trans_actions.proofs.RoomEffects.{opcode_54, opcode_56, opcode_57, opcode_58, opcode_60, opcode_61, opcode_67, opcode_68, opcode_80, opcode_87}
use Rattle.trans_actions.proofs.CounterEffects.{opcode_77, opcode_79, opcode_81, opcode_82, opcode_83}
use Rattle.trans_actions.proofs.TalkEffects.{opcode_63, opcode_64, opcode_65, opcode_66, opcode_70, opcode_71, opcode_76, opcode_78, opcode_84, opcode_85, opcode_86, opcode_88, opcode_89}

not_under : (n : ℕ) → nat_lt n 52 ≡ false → 52 ≤ n
not_under n h = grind (arith, h)

most : (n : ℕ) → nat_lt n 90 ≡ true → n ≤ 89
most n h = grind (arith, h)

larger : (n : ℕ) → 52 ≤ n → nat_eq n 52 ≡ false → 53 ≤ n
larger n few h = grind (arith, few, h)

-- 52 is a get, which is no mere call
above : (n : ℕ) → 52 ≤ n → is_called (slice_index_or named (n - 52) Nothing) ≡ true → 53 ≤ n
above n few h = by (nat_eq n 52) refl where
  by : (b : Bool) → nat_eq n 52 ≡ b → 53 ≤ n
  by true is = absurd (no_get (subst (λ n. is_called (slice_index_or named (n - 52) Nothing) ≡ true)
      (same n is) h)) where
        same : (n : ℕ) → nat_eq n 52 ≡ true → n ≡ 52
        same n h = grind (arith, h)

        no_get : is_called (slice_index_or named (52 - 52) Nothing) ≡ true → ⊥
        no_get h = cc
  by false is = larger n few is

-- an opcode that is called has a number from 53 to 89
pub called_from : (n : ℕ) → is_called (opcode_of n) ≡ true → (53 ≤ n) × (n ≤ 89)
called_from n h = by (nat_eq n 0) (nat_lt n 52) (nat_lt n 90) (nat_lt n 102) refl refl refl refl h
  where
    by : (z small mid high : Bool) → nat_eq n 0 ≡ z → nat_lt n 52 ≡ small → nat_lt n 90 ≡ mid
        → nat_lt n 102 ≡ high
        → is_called (if z then Nothing else if small then Say n else if mid
        then slice_index_or named (n - 52) Nothing else if high then Nothing else Say (n - 50)) ≡
        true
        → (53 ≤ n) × (n ≤ 89)
    by true small mid high a b c d h = cc
    by false true mid high a b c d h = cc
    by false false true high a b c d h = (above n (not_under n b) h, most n c)
    by false false false true a b c d h = cc
    by false false false false a b c d h = cc

module _ {style : Style} {db : Database} {p : Program} (known : Known style db p) where
  -- 73 is no call
  none : OpcodeSpec style db p 73
  none used called_too = cc

  -- the routine of each opcode from 53 to 89 meets its specification
  all_specs : AllFrom (OpcodeSpec style db p) 53 37
  all_specs = (
    opcode_53 known,
    (
      opcode_54 known,
      (
        opcode_55 known,
        (
          opcode_56 known,
          (
            opcode_57 known,
            (
              opcode_58 known,
              (
                opcode_59 known,
                (
                  opcode_60 known,
                  (
                    opcode_61 known,
                    (
                      opcode_62 known,
                      (
                        opcode_63 known,
                        (
                          opcode_64 known,
                          (
                            opcode_65 known,
                            (
                              opcode_66 known,
                              (
                                opcode_67 known,
                                (
                                  opcode_68 known,
                                  (
                                    opcode_69 known,
                                    (
                                      opcode_70 known,
                                      (
                                        opcode_71 known,
                                        (
                                          opcode_72 known,
                                          (
                                            none,
                                            (
                                              opcode_74 known,
                                              (
                                                opcode_75 known,
                                                (
                                                  opcode_76 known,
                                                  (
                                                    opcode_77 known,
                                                    (
                                                      opcode_78 known,
                                                      (
                                                        opcode_79 known,
                                                        (
                                                          opcode_80 known,
                                                          (
                                                            opcode_81 known,
                                                            (
                                                              opcode_82 known,
                                                              (
                                                                opcode_83 known,
                                                                (
                                                                  opcode_84 known,
                                                                  (
                                                                    opcode_85 known,
                                                                    (
                                                                      opcode_86 known,
                                                                      (
                                                                        opcode_87 known,
                                                                        (
                                                                          opcode_88
                                                                              known,
                                                                          (
                                                                            opcode_89 known,
                                                                            tt,
                                                                          ),
                                                                        ),
                                                                      ),
                                                                    ),
                                                                  ),
                                                                ),
                                                              ),
                                                            ),
                                                          ),
                                                        ),
                                                      ),
                                                    ),
                                                  ),
                                                ),
                                              ),
                                            ),
                                          ),
                                        ),
                                      ),
                                    ),
                                  ),
                                ),
                              ),
                            ),
                          ),
                        ),
                      ),
                    ),
                  ),
                ),
              ),
            ),
          ),
        ),
      ),
    ),
  )

  pub opcode_specs : (n : ℕ) → is_called (opcode_of n) ≡ true → OpcodeSpec style db p n
  opcode_specs n h = let from : (53 ≤ n) × (n ≤ 89) = called_from n h in
      let is : 53 + (n - 53) ≡ n = omega (arith, from.0) in
      subst (OpcodeSpec style db p) is
      (at_number (OpcodeSpec style db p) 53 37 (n - 53) all_specs (omega (arith, from.0, from.1)))

-- ---- a get

abbrev is_get : Opcode → Bool
is_get Get = true
is_get _ = false

abbrev IsNoGet : ℕ → Type 0
IsNoGet n = is_get (opcode_of n) ≡ true → ⊥

-- no number from 53 to 89 means a get
no_others : AllFrom IsNoGet 53 37
no_others = (
  λ h. cc,
  (
    λ h. cc,
    (
      λ h. cc,
      (
        λ h. cc,
        (
          λ h. cc,
          (
            λ h. cc,
            (
              λ h. cc,
              (
                λ h. cc,
                (
                  λ h. cc,
                  (
                    λ h. cc,
                    (
                      λ h. cc,
                      (
                        λ h. cc,
                        (
                          λ h. cc,
                          (
                            λ h. cc,
                            (
                              λ h. cc,
                              (
                                λ h. cc,
                                (
                                  λ h. cc,
                                  (
                                    λ h. cc,
                                    (
                                      λ h. cc,
                                      (
                                        λ h. cc,
                                        (
                                          λ h. cc,
                                          (
                                            λ h. cc,
                                            (
                                              λ h. cc,
                                              (
                                                λ h. cc,
                                                (
                                                  λ h. cc,
                                                  (
                                                    λ h. cc,
                                                    (
                                                      λ h. cc,
                                                      (
                                                        λ h. cc,
                                                        (
                                                          λ h. cc,
                                                          (
                                                            λ h. cc,
                                                            (
                                                              λ h. cc,
                                                              (
                                                                λ h. cc,
                                                                (
                                                                  λ h. cc,
                                                                  (
                                                                    λ h. cc,
                                                                    (
                                                                      λ h. cc,
                                                                      (λ h. cc, (λ h. cc, tt)),
                                                                    ),
                                                                  ),
                                                                ),
                                                              ),
                                                            ),
                                                          ),
                                                        ),
                                                      ),
                                                    ),
                                                  ),
                                                ),
                                              ),
                                            ),
                                          ),
                                        ),
                                      ),
                                    ),
                                  ),
                                ),
                              ),
                            ),
                          ),
                        ),
                      ),
                    ),
                  ),
                ),
              ),
            ),
          ),
        ),
      ),
    ),
  ),
)

-- 52 alone means a get
get_number_is : (n : ℕ) → is_get (opcode_of n) ≡ true → n ≡ 52
get_number_is n h = by (nat_eq n 0) (nat_lt n 52) (nat_lt n 90) (nat_lt n 102) refl refl refl refl h
  where
    other : 52 ≤ n → n ≤ 89 → (b : Bool) → nat_eq n 52 ≡ b → n ≡ 52
    other few some true is = same n is where
      same : (n : ℕ) → nat_eq n 52 ≡ true → n ≡ 52
      same n h = grind (arith, h)
    other few some false is = let from : 53 ≤ n = larger n few is in
        let at : 53 + (n - 53) ≡ n = omega (arith, from) in
        absurd (subst IsNoGet at (at_number IsNoGet 53 37 (n - 53) no_others
        (omega (arith, from, some))) h)

    by : (z small mid high : Bool) → nat_eq n 0 ≡ z → nat_lt n 52 ≡ small → nat_lt n 90 ≡ mid
        → nat_lt n 102 ≡ high
        → is_get (if z then Nothing else if small then Say n else if mid
        then slice_index_or named (n - 52) Nothing else if high then Nothing else Say (n - 50)) ≡
        true
        → n ≡ 52
    by true small mid high a b c d h = cc
    by false true mid high a b c d h = cc
    by false false true high a b c d h = other (not_under n b) (most n c) (nat_eq n 52) refl
    by false false false true a b c d h = cc
    by false false false false a b c d h = cc

pub get_is : (n : ℕ) → opcode_of n ≡ Get → n ≡ 52
get_is n h = get_number_is n (ap is_get h)
