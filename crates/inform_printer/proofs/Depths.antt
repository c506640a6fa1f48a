-- What a depth leaves of the openers: an expression or a condition of depth d opens d at most, and
-- a statement twice as many.
use Rattle.std.proofs.Common.{◌≡◌, ℕ, suc, ◌+◌, ◌*◌, ◌≤◌, ◌<◌, true, arith}
use Rattle.std.specs.Prelude.{max}
use Rattle.std.proofs.lemmas.Bool.{lt-ltb}
use Rattle.inform_grammar.specs.Reading.{within_limit}
use Rattle.inform_grammar.specs.declared.limits.TheConstants.{OPENER_LIMIT}

room : (o : ℕ) → o < 200 → within_limit o ≡ true
room o h = lt-ltb o OPENER_LIMIT h

-- ---- expressions and conditions

-- one opens here
pub opens : (o d : ℕ) → o + (d + 1) ≤ 200 → within_limit o ≡ true
opens o d h = room o (omega arith)

-- what stands inside, where one more is open or not
pub inside : (o d : ℕ) → o + (d + 1) ≤ 200 → suc o + d ≤ 200
inside o d h = omega arith

pub beside : (o d : ℕ) → o + (d + 1) ≤ 200 → o + d ≤ 200
beside o d h = omega arith

-- of two parts, the one and the other
pub left : (o a b : ℕ) → o + max a b ≤ 200 → o + a ≤ 200
left o a b h = omega arith

pub right : (o a b : ℕ) → o + max a b ≤ 200 → o + b ≤ 200
right o a b h = omega arith

-- ---- statements

pub opens_first : (o d : ℕ) → o + 2 * (d + 1) ≤ 200 → within_limit o ≡ true
opens_first o d h = room o (omega arith)

pub opens_second : (o d : ℕ) → o + 2 * (d + 1) ≤ 200 → within_limit (suc o) ≡ true
opens_second o d h = room (suc o) (omega arith)

-- what stands inside of a statement, where up to two more are open
pub body_inside : (o d : ℕ) → o + 2 * (d + 1) ≤ 200 → suc (suc o) + 2 * d ≤ 200
body_inside o d h = omega arith

pub body_beside : (o d : ℕ) → o + 2 * (d + 1) ≤ 200 → suc o + 2 * d ≤ 200
body_beside o d h = omega arith

pub value_inside : (o d : ℕ) → o + 2 * (d + 1) ≤ 200 → suc (suc o) + d ≤ 200
value_inside o d h = omega arith

pub value_beside : (o d : ℕ) → o + 2 * (d + 1) ≤ 200 → suc o + d ≤ 200
value_beside o d h = omega arith

pub value_here : (o d : ℕ) → o + 2 * (d + 1) ≤ 200 → o + d ≤ 200
value_here o d h = omega arith

pub first_body : (o a b : ℕ) → o + 2 * max a b ≤ 200 → o + 2 * a ≤ 200
first_body o a b h = omega arith

pub other_body : (o a b : ℕ) → o + 2 * max a b ≤ 200 → o + 2 * b ≤ 200
other_body o a b h = omega arith
