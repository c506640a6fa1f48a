-- The faults of numbers, one after the other.
use Rattle.std.proofs.Common.{◌≡◌, ℕ, ◌-◌, ◌≤◌, ℤ, pos, negsuc, List, [], ◌∷◌, suc, length, take, drop, get_or, Option, true, refl, arith}
use Rattle.std.specs.Prelude.{int_le, unsigned_abs}
use Rattle.std.specs.Option.{option_or}
use Rattle.std.proofs.Math.Seq.{take-length}
use Rattle.scott_types.specs.declared.parameters.Parameter.{Parameter}
use Rattle.scott_types.specs.declared.parameters.Parameter.TheVariants.{Room}
use Rattle.scott_types.specs.Database.{Database}
use Rattle.scott_types.specs.Opcode.{opcode_of, uses}
use Rattle.adv_check.specs.declared.findings.Fault.{Fault}
use Rattle.adv_check.specs.Faults.{naming_fault, parameters_fault, opcode_fault, opcode_faults, exit_fault}

-- a parameter, and those after it
pub next_parameter : (db : Database) (kinds : List Parameter) (left : List ℕ) (kind : Parameter) → 1 ≤ length kinds → 1 ≤ length left
    → option_or (naming_fault db (get_or kinds 0 kind) (get_or left 0 0)) (parameters_fault db (take (length kinds - 1) (drop 1 kinds)) (take (length left - 1) (drop 1 left)))
    ≡ parameters_fault db kinds left
next_parameter db [] left kind some more = absurd (omega arith)
next_parameter db (k ∷ kinds) [] kind some more = absurd (omega arith)
next_parameter db (k ∷ kinds) (n ∷ left) kind some more =
    let other_kinds : suc (length kinds) - 1 ≡ length kinds = omega arith in
    let others : suc (length left) - 1 ≡ length left = omega arith in
    rw (other_kinds, others, take-length kinds, take-length left) refl

-- four opcodes, each with what the ones before it leave
pub four_faults : (db : Database) (numbers left l₁ l₂ l₃ l₄ : List ℕ) (f₁ f₂ f₃ f₄ : Option Fault) → length numbers ≡ 4
    → l₁ ≡ left → l₂ ≡ drop (uses (opcode_of (get_or numbers 0 0))) l₁
    → l₃ ≡ drop (uses (opcode_of (get_or numbers 1 0))) l₂ → l₄ ≡ drop (uses (opcode_of (get_or numbers 2 0))) l₃
    → f₁ ≡ opcode_fault db (get_or numbers 0 0) l₁ → f₂ ≡ opcode_fault db (get_or numbers 1 0) l₂
    → f₃ ≡ opcode_fault db (get_or numbers 2 0) l₃ → f₄ ≡ opcode_fault db (get_or numbers 3 0) l₄
    → f₁ ∷ f₂ ∷ f₃ ∷ f₄ ∷ [] ≡ opcode_faults db numbers left
four_faults db [] left l₁ l₂ l₃ l₄ f₁ f₂ f₃ f₄ four e₁ e₂ e₃ e₄ h₁ h₂ h₃ h₄ = absurd (omega arith)
four_faults db (a ∷ []) left l₁ l₂ l₃ l₄ f₁ f₂ f₃ f₄ four e₁ e₂ e₃ e₄ h₁ h₂ h₃ h₄ = absurd (omega arith)
four_faults db (a ∷ b ∷ []) left l₁ l₂ l₃ l₄ f₁ f₂ f₃ f₄ four e₁ e₂ e₃ e₄ h₁ h₂ h₃ h₄ = absurd (omega arith)
four_faults db (a ∷ b ∷ c ∷ []) left l₁ l₂ l₃ l₄ f₁ f₂ f₃ f₄ four e₁ e₂ e₃ e₄ h₁ h₂ h₃ h₄ = absurd (omega arith)
four_faults db (a ∷ b ∷ c ∷ d ∷ []) left l₁ l₂ l₃ l₄ f₁ f₂ f₃ f₄ four e₁ e₂ e₃ e₄ h₁ h₂ h₃ h₄ = rw (h₁, h₂, h₃, h₄, e₄, e₃, e₂, e₁) refl
four_faults db (a ∷ b ∷ c ∷ d ∷ e ∷ numbers) left l₁ l₂ l₃ l₄ f₁ f₂ f₃ f₄ four e₁ e₂ e₃ e₄ h₁ h₂ h₃ h₄ = absurd (omega arith)

-- an exit that isn't negative names a room
pub exit_named : (db : Database) (exit : ℤ) → int_le (pos 0) exit ≡ true → naming_fault db Room (unsigned_abs exit) ≡ exit_fault db exit
exit_named db (pos n) there = refl
exit_named db (negsuc n) there = cc
