-- The calls that lines make: the routines of the conditions and opcodes that they use are known.
use Rattle.std.proofs.Common.{◌≡◌, ◌∙◌, arith, ℕ, ℤ, pos, negsuc, ◌+◌, ◌-◌, ◌<◌, ◌≤◌, ◌==◌, Bool, true, false, List, [], ◌∷◌, Option, Some, None, option_map, unwrap_or, refl, ap, subst}
use Rattle.std.specs.List.{AllByRecursion, list_any}
use Rattle.std.specs.Fmt.{digits}
use Rattle.inform_names.specs.declared.meanings.Kind.{Kind}
use Rattle.inform_names.specs.declared.meanings.Kind.TheVariants as k
use Rattle.inform_names.specs.declared.meanings.Meaning.{Meaning}
use Rattle.inform_names.specs.Meanings.{Known, name_of}
use Rattle.inform_names.specs.Places.{arguments_fault, call_fault}
use Rattle.inform_tree.specs.Programs.{DirectiveTree}
use Rattle.inform_signature.specs.Signatures.{IsKnown, own_kind, takes}
use Rattle.scott_types.specs.declared.opcodes.Opcode.TheVariants.{Get}
use Rattle.scott_types.specs.declared.styles.Style.{Style}
use Rattle.scott_types.specs.Database.{Database}
use Rattle.scott_types.specs.Opcode.{opcode_of, uses as parameter_count}
use Rattle.trans_specs.specs.Names.{condition_name, opcode_name}
use Rattle.trans_specs.specs.Lines.{get_number}
use Rattle.trans_actions.specs.declared.table.Kind.TheVariants.{Condition, Opcode}
use Rattle.trans_actions.specs.Names.{action_names}
use Rattle.trans_actions.specs.Helpers.{Helper, conditions, opcodes, refill, uses}
use Rattle.trans_actions.proofs.ByNumber.{AllFrom, at_number}
use Rattle.trans_actions.proofs.Effects.{is_called}
use Rattle.trans_actions.proofs.Known.{AtPlace, at_place}
use Rattle.trans_actions.proofs.Numbered.{called_from, get_is}
use Rattle.trans_actions.proofs.Demanded.{at_first}
use Rattle.trans_actions.proofs.UsedRows.{OfKind, EachUsed}

not_zero : (n : ℕ) → (n == 0) ≡ false → 1 ≤ n
not_zero n h = grind (arith, h)

-- ---- a call of a routine that is known

module _ (known : Known) where
  abbrev pub CallFine : List ℕ → ℕ → Type 0
  CallFine name count = call_fault name count (known name) ≡ None

  pub call_fine : (name : List ℕ) (count locals : ℕ) → IsKnown known (name, k.Routine locals)
      → takes count (k.Routine locals) ≡ true → CallFine name count
  call_fine name count locals is few = by (known name) is where
    fits : arguments_fault name count (k.Routine locals) ≡ None
    fits = grind (arith, few)

    by : (o : Option Meaning) → option_map (λ m. m.kind) o ≡ Some (k.Routine locals)
        → call_fault name count o ≡ None
    by None is = cc
    by (Some m) is =
        ap (λ (o : Option Kind). arguments_fault name count (unwrap_or o m.kind)) is ∙ fits

-- the names of these routines are known
abbrev pub IsOwnKnown : Known → DirectiveTree → Type 0
IsOwnKnown known x = IsKnown known (name_of x, own_kind x)

module _ (style : Style) (db : Database) (known : Known)
    (own : EachUsed style db (IsOwnKnown known)) where
  abbrev Used : (ℕ → Bool) → Helper → Type 0
  Used = OfKind style db (IsOwnKnown known)

  condition_at : (n : ℕ) → AtPlace (Used (uses Condition db)) conditions n
  condition_at n = at_place (Used (uses Condition db)) conditions n own.conditions

  opcode_at : (n : ℕ) → AtPlace (Used (uses Opcode db)) opcodes n
  opcode_at n = at_place (Used (uses Opcode db)) opcodes n own.opcodes

  -- ---- conditions

  abbrev ConditionFine : ℕ → Type 0
  ConditionFine n = uses Condition db n ≡ true → CallFine known (condition_name n) 1

  one_condition : (n : ℕ) → uses Condition db n ≡ true
      → list_any (uses Condition db) (n ∷ []) ≡ true
  one_condition n used = at_first (uses Condition db) n [] used

  condition_1 : ConditionFine 1
  unfolding action_names digits
  condition_1 used =
      call_fine known (condition_name 1) 1 1 (condition_at 0 (one_condition 1 used)) refl

  condition_2 : ConditionFine 2
  unfolding action_names digits
  condition_2 used =
      call_fine known (condition_name 2) 1 1 (condition_at 1 (one_condition 2 used)) refl

  condition_3 : ConditionFine 3
  unfolding action_names digits
  condition_3 used =
      call_fine known (condition_name 3) 1 1 (condition_at 2 (one_condition 3 used)) refl

  condition_4 : ConditionFine 4
  unfolding action_names digits
  condition_4 used =
      call_fine known (condition_name 4) 1 1 (condition_at 3 (one_condition 4 used)) refl

  condition_5 : ConditionFine 5
  unfolding action_names digits
  condition_5 used =
      call_fine known (condition_name 5) 1 1 (condition_at 4 (one_condition 5 used)) refl

  condition_6 : ConditionFine 6
  unfolding action_names digits
  condition_6 used =
      call_fine known (condition_name 6) 1 1 (condition_at 5 (one_condition 6 used)) refl

  condition_7 : ConditionFine 7
  unfolding action_names digits
  condition_7 used =
      call_fine known (condition_name 7) 1 1 (condition_at 6 (one_condition 7 used)) refl

  condition_8 : ConditionFine 8
  unfolding action_names digits
  condition_8 used =
      call_fine known (condition_name 8) 1 1 (condition_at 7 (one_condition 8 used)) refl

  condition_9 : ConditionFine 9
  unfolding action_names digits
  condition_9 used =
      call_fine known (condition_name 9) 1 1 (condition_at 8 (one_condition 9 used)) refl

  condition_10 : ConditionFine 10
  unfolding action_names digits
  condition_10 used =
      call_fine known (condition_name 10) 1 1 (condition_at 9 (one_condition 10 used)) refl

  condition_11 : ConditionFine 11
  unfolding action_names digits
  condition_11 used =
      call_fine known (condition_name 11) 1 1 (condition_at 10 (one_condition 11 used)) refl

  condition_12 : ConditionFine 12
  unfolding action_names digits
  condition_12 used =
      call_fine known (condition_name 12) 1 1 (condition_at 11 (one_condition 12 used)) refl

  condition_13 : ConditionFine 13
  unfolding action_names digits
  condition_13 used =
      call_fine known (condition_name 13) 1 1 (condition_at 12 (one_condition 13 used)) refl

  condition_14 : ConditionFine 14
  unfolding action_names digits
  condition_14 used =
      call_fine known (condition_name 14) 1 1 (condition_at 13 (one_condition 14 used)) refl

  condition_15 : ConditionFine 15
  unfolding action_names digits
  condition_15 used =
      call_fine known (condition_name 15) 1 1 (condition_at 14 (one_condition 15 used)) refl

  condition_16 : ConditionFine 16
  unfolding action_names digits
  condition_16 used =
      call_fine known (condition_name 16) 1 1 (condition_at 15 (one_condition 16 used)) refl

  condition_17 : ConditionFine 17
  unfolding action_names digits
  condition_17 used =
      call_fine known (condition_name 17) 1 1 (condition_at 16 (one_condition 17 used)) refl

  condition_18 : ConditionFine 18
  unfolding action_names digits
  condition_18 used =
      call_fine known (condition_name 18) 1 1 (condition_at 17 (one_condition 18 used)) refl

  condition_19 : ConditionFine 19
  unfolding action_names digits
  condition_19 used =
      call_fine known (condition_name 19) 1 1 (condition_at 18 (one_condition 19 used)) refl

  and : {A B : Type 0} → A → B → A × B
  and a b = (a, b)

  all_conditions : AllFrom ConditionFine 1 19
  all_conditions = and condition_1 (and condition_2 (and condition_3
      (and condition_4 (and condition_5 (
      and condition_6 (and condition_7 (and condition_8 (and condition_9 (and condition_10 (
      and condition_11 (and condition_12 (and condition_13 (and condition_14 (and condition_15 (
      and condition_16 (and condition_17 (and condition_18 (
      and condition_19 tt))))))))))))))))))

  pub conditions_fine : (n : ℕ) → n < 20 → uses Condition db n ≡ true → (n == 0) ≡ false
      → CallFine known (condition_name n) 1
  conditions_fine n few used other = let some : 1 ≤ n = not_zero n other in
      let at : 1 + (n - 1) ≡ n = omega (arith, some) in
      subst ConditionFine at (at_number ConditionFine 1 19 (n - 1) all_conditions
      (omega (arith, some, few))) used

  -- ---- opcodes

  abbrev OpcodeFine : ℕ → Type 0
  OpcodeFine n = uses Opcode db n ≡ true → is_called (opcode_of n) ≡ true
      → CallFine known (opcode_name n) (parameter_count (opcode_of n))

  one_opcode : (n : ℕ) → uses Opcode db n ≡ true → list_any (uses Opcode db) (n ∷ []) ≡ true
  one_opcode n used = at_first (uses Opcode db) n [] used

  opcode_53 : OpcodeFine 53
  unfolding action_names digits
  opcode_53 used called =
      call_fine known (opcode_name 53) 1 1 (opcode_at 2 (one_opcode 53 used)) refl

  opcode_54 : OpcodeFine 54
  unfolding action_names digits
  opcode_54 used called =
      call_fine known (opcode_name 54) 1 1 (opcode_at 3 (one_opcode 54 used)) refl

  opcode_55 : OpcodeFine 55
  unfolding action_names digits
  opcode_55 used called =
      call_fine known (opcode_name 55) 1 1 (opcode_at 4 (one_opcode 55 used)) refl

  opcode_56 : OpcodeFine 56
  unfolding action_names digits
  opcode_56 used called =
      call_fine known (opcode_name 56) 0 0 (opcode_at 5 (one_opcode 56 used)) refl

  opcode_57 : OpcodeFine 57
  unfolding action_names digits
  opcode_57 used called =
      call_fine known (opcode_name 57) 0 0 (opcode_at 6 (one_opcode 57 used)) refl

  opcode_58 : OpcodeFine 58
  unfolding action_names digits
  opcode_58 used called =
      call_fine known (opcode_name 58) 1 1 (opcode_at 7 (one_opcode 58 used)) refl

  opcode_59 : OpcodeFine 59
  unfolding action_names digits
  opcode_59 used called =
      call_fine known (opcode_name 59) 1 1 (opcode_at 8 (one_opcode 59 used)) refl

  opcode_60 : OpcodeFine 60
  unfolding action_names digits
  opcode_60 used called =
      call_fine known (opcode_name 60) 1 1 (opcode_at 9 (one_opcode 60 used)) refl

  opcode_61 : OpcodeFine 61
  unfolding action_names digits
  opcode_61 used called =
      call_fine known (opcode_name 61) 0 0 (opcode_at 10 (one_opcode 61 used)) refl

  opcode_62 : OpcodeFine 62
  unfolding action_names digits
  opcode_62 used called =
      call_fine known (opcode_name 62) 2 2 (opcode_at 11 (one_opcode 62 used)) refl

  opcode_63 : OpcodeFine 63
  unfolding action_names digits
  opcode_63 used called =
      call_fine known (opcode_name 63) 0 0 (opcode_at 12 (one_opcode 63 used)) refl

  opcode_64 : OpcodeFine 64
  unfolding action_names digits
  opcode_64 used called =
      call_fine known (opcode_name 64) 0 0 (opcode_at 13 (one_opcode 64 used)) refl

  opcode_65 : OpcodeFine 65
  unfolding action_names digits
  opcode_65 used called =
      call_fine known (opcode_name 65) 0 0 (opcode_at 14 (one_opcode 65 used)) refl

  opcode_66 : OpcodeFine 66
  unfolding action_names digits
  opcode_66 used called =
      call_fine known (opcode_name 66) 0 0 (opcode_at 15 (one_opcode 66 used)) refl

  opcode_67 : OpcodeFine 67
  unfolding action_names digits
  opcode_67 used called =
      call_fine known (opcode_name 67) 0 0 (opcode_at 16 (one_opcode 67 used)) refl

  opcode_68 : OpcodeFine 68
  unfolding action_names digits
  opcode_68 used called =
      call_fine known (opcode_name 68) 0 0 (opcode_at 17 (one_opcode 68 used)) refl

  opcode_69 : OpcodeFine 69
  unfolding action_names digits
  opcode_69 used called = by db.header.light own.refill where
    by : (light : ℤ) → AllByRecursion (Used (uses Opcode db)) (refill light)
        → CallFine known (opcode_name 69) 0
    by (pos n) there =
        call_fine known (opcode_name 69) 0 0 (there.0 (one_opcode 69 used)) refl
    by (negsuc n) there =
        call_fine known (opcode_name 69) 0 0 (there.0 (one_opcode 69 used)) refl

  opcode_70 : OpcodeFine 70
  unfolding action_names digits
  opcode_70 used called =
      call_fine known (opcode_name 70) 0 0 (opcode_at 18 (one_opcode 70 used)) refl

  opcode_71 : OpcodeFine 71
  unfolding action_names digits
  opcode_71 used called =
      call_fine known (opcode_name 71) 0 0 (opcode_at 19 (one_opcode 71 used)) refl

  opcode_72 : OpcodeFine 72
  unfolding action_names digits
  opcode_72 used called =
      call_fine known (opcode_name 72) 2 3 (opcode_at 20 (one_opcode 72 used)) refl

  -- 73 is no call
  opcode_73 : OpcodeFine 73
  opcode_73 used called = cc

  opcode_74 : OpcodeFine 74
  unfolding action_names digits
  opcode_74 used called =
      call_fine known (opcode_name 74) 1 1 (opcode_at 21 (one_opcode 74 used)) refl

  opcode_75 : OpcodeFine 75
  unfolding action_names digits
  opcode_75 used called =
      call_fine known (opcode_name 75) 2 2 (opcode_at 22 (one_opcode 75 used)) refl

  opcode_76 : OpcodeFine 76
  unfolding action_names digits
  opcode_76 used called =
      call_fine known (opcode_name 76) 0 0 (opcode_at 23 (one_opcode 76 used)) refl

  opcode_77 : OpcodeFine 77
  unfolding action_names digits
  opcode_77 used called =
      call_fine known (opcode_name 77) 0 0 (opcode_at 24 (one_opcode 77 used)) refl

  opcode_78 : OpcodeFine 78
  unfolding action_names digits
  opcode_78 used called =
      call_fine known (opcode_name 78) 0 0 (opcode_at 25 (one_opcode 78 used)) refl

  opcode_79 : OpcodeFine 79
  unfolding action_names digits
  opcode_79 used called =
      call_fine known (opcode_name 79) 1 1 (opcode_at 26 (one_opcode 79 used)) refl

  opcode_80 : OpcodeFine 80
  unfolding action_names digits
  opcode_80 used called =
      call_fine known (opcode_name 80) 0 1 (opcode_at 27 (one_opcode 80 used)) refl

  opcode_81 : OpcodeFine 81
  unfolding action_names digits
  opcode_81 used called =
      call_fine known (opcode_name 81) 1 2 (opcode_at 28 (one_opcode 81 used)) refl

  opcode_82 : OpcodeFine 82
  unfolding action_names digits
  opcode_82 used called =
      call_fine known (opcode_name 82) 1 1 (opcode_at 29 (one_opcode 82 used)) refl

  opcode_83 : OpcodeFine 83
  unfolding action_names digits
  opcode_83 used called =
      call_fine known (opcode_name 83) 1 1 (opcode_at 30 (one_opcode 83 used)) refl

  opcode_84 : OpcodeFine 84
  unfolding action_names digits
  opcode_84 used called =
      call_fine known (opcode_name 84) 0 1 (opcode_at 31
      (at_first (uses Opcode db) 84 (85 ∷ []) used)) refl

  opcode_85 : OpcodeFine 85
  unfolding action_names digits
  opcode_85 used called =
      call_fine known (opcode_name 85) 0 0 (opcode_at 32 (one_opcode 85 used)) refl

  opcode_86 : OpcodeFine 86
  unfolding action_names digits
  opcode_86 used called =
      call_fine known (opcode_name 86) 0 0 (opcode_at 33 (one_opcode 86 used)) refl

  opcode_87 : OpcodeFine 87
  unfolding action_names digits
  opcode_87 used called =
      call_fine known (opcode_name 87) 1 2 (opcode_at 34 (one_opcode 87 used)) refl

  opcode_88 : OpcodeFine 88
  unfolding action_names digits
  opcode_88 used called =
      call_fine known (opcode_name 88) 0 0 (opcode_at 35 (one_opcode 88 used)) refl

  opcode_89 : OpcodeFine 89
  unfolding action_names digits
  opcode_89 used called =
      call_fine known (opcode_name 89) 1 1 (opcode_at 36 (one_opcode 89 used)) refl

  all_opcodes : AllFrom OpcodeFine 53 37
  all_opcodes = and opcode_53 (and opcode_54 (and opcode_55
      (and opcode_56 (and opcode_57 (and opcode_58 (
      and opcode_59 (and opcode_60 (and opcode_61 (and opcode_62 (and opcode_63 (and opcode_64 (
      and opcode_65 (and opcode_66 (and opcode_67 (and opcode_68 (and opcode_69 (and opcode_70 (
      and opcode_71 (and opcode_72 (and opcode_73 (and opcode_74 (and opcode_75 (and opcode_76 (
      and opcode_77 (and opcode_78 (and opcode_79 (and opcode_80 (and opcode_81 (and opcode_82 (
      and opcode_83 (and opcode_84 (and opcode_85 (and opcode_86 (and opcode_87 (and opcode_88 (
      and opcode_89 tt))))))))))))))))))))))))))))))))))))

  pub opcodes_fine : (n : ℕ) → uses Opcode db n ≡ true → is_called (opcode_of n) ≡ true
      → CallFine known (opcode_name n) (parameter_count (opcode_of n))
  opcodes_fine n used called = let from : (53 ≤ n) × (n ≤ 89) = called_from n called in
      let at : 53 + (n - 53) ≡ n = omega (arith, from.0) in
      subst OpcodeFine at (at_number OpcodeFine 53 37 (n - 53) all_opcodes
      (omega (arith, from.0, from.1))) used called

  pub gets_fine : (n : ℕ) → uses Opcode db n ≡ true → opcode_of n ≡ Get
      → CallFine known (opcode_name get_number) 1
  unfolding action_names digits
  gets_fine n used get = call_fine known (opcode_name get_number) 1 1 (opcode_at 1
      (one_opcode 52 (subst (λ n. uses Opcode db n ≡ true) (get_is n get) used))) refl
