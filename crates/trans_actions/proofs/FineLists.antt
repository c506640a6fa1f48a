-- Names that end in a number, and lists of statements that have a text.
use Rattle.std.proofs.Common.{◌≡◌, ◌∙◌, arith, ℕ, ◌+◌, ◌<◌, ◌≤◌, ◌^◌, ◌%◌, Bool, true, ◌&&◌, List, [], ◌∷◌, ◌++◌, length, decimal, refl}
use Rattle.std.specs.List.{AllByRecursion, list_all}
use Rattle.std.proofs.lemmas.List.Folds.{list_all-append}
use Rattle.std.proofs.lemmas.Fmt.{decimal_by_steps, length-decimal-le}
use Rattle.inform_tree.specs.Statements.{Statement, statements}
use Rattle.inform_tree.specs.Words.{is_name, is_name_byte}
use Rattle.inform_tree.specs.Depths.{statement_depth, statements_depth}
use Rattle.inform_tree.specs.Formed.{is_formed_statement, are_formed_statements}
use Rattle.trans_specs.specs.Names.{message_name, condition_name, opcode_name, line_name}

-- ---- names that end in a number

pub both : (a b : Bool) → a ≡ true → b ≡ true → a && b ≡ true
both a b h k = rw (h, k) refl

digit_in_name : (n : ℕ) → n < 10 → is_name_byte (48 + n) ≡ true
digit_in_name n h = grind (arith, h)

digits_in_name : (m : ℕ) → m < 2 ^ 64 → list_all is_name_byte (decimal m) ≡ true
digits_in_name m small = decimal_by_steps (λ n digits. list_all is_name_byte digits ≡ true)
    (λ n h. both (is_name_byte (48 + n)) true (digit_in_name n h) refl)
    (λ n digits h own. list_all-append is_name_byte digits ((48 + n % 10) ∷ [])
    ∙ both (list_all is_name_byte digits) (is_name_byte (48 + n % 10) && true) own
    (both (is_name_byte (48 + n % 10)) true (digit_in_name (n % 10) (omega arith)) refl))
    m small

few_digits : (m : ℕ) → m < 2 ^ 32 → length (decimal m) ≤ 10
few_digits m small = length-decimal-le 10 m (omega arith) (omega (arith, small))
    (omega (arith, small))

pub message_named : (m : ℕ) → m < 2 ^ 32 → is_name (message_name m) ≡ true
message_named m small = both (list_all is_name_byte (decimal m)) _
    (digits_in_name m (omega (arith, small)))
    (both _ true (grind (arith, few_digits m small)) refl)

pub condition_named : (m : ℕ) → m < 2 ^ 32 → is_name (condition_name m) ≡ true
condition_named m small = both (list_all is_name_byte (decimal m)) _
    (digits_in_name m (omega (arith, small)))
    (both _ true (grind (arith, few_digits m small)) refl)

pub opcode_named : (m : ℕ) → m < 2 ^ 32 → is_name (opcode_name m) ≡ true
opcode_named m small = both (list_all is_name_byte (decimal m)) _
    (digits_in_name m (omega (arith, small)))
    (both _ true (grind (arith, few_digits m small)) refl)

pub line_named : (m : ℕ) → m < 2 ^ 32 → is_name (line_name m) ≡ true
line_named m small = both (list_all is_name_byte (decimal m)) _
    (digits_in_name m (omega (arith, small)))
    (both _ true (grind (arith, few_digits m small)) refl)

-- ---- lists of statements

-- formed, and no deeper than this
pub record Fine (most : ℕ) (x : Statement) : Type 0 where
  pub formed : is_formed_statement x ≡ true
  pub shallow : statement_depth x ≤ most

abbrev pub AllFine : ℕ → List Statement → Type 0
AllFine most xs = AllByRecursion (Fine most) xs

pub joined : (most : ℕ) (xs ys : List Statement) → AllFine most xs → AllFine most ys
    → AllFine most (xs ++ ys)
joined most [] ys h k = k
joined most (x ∷ xs) ys h k = (h.0, joined most xs ys h.1 k)

pub raised : (most more : ℕ) (xs : List Statement) → most ≤ more → AllFine most xs → AllFine more xs
raised most more [] up h = tt
raised most more (x ∷ xs) up h = (
  record {
    formed = h.0.formed;
    shallow = omega (arith, h.0.shallow, up);
  },
  raised most more xs up h.1,
)

pub all_formed : (most : ℕ) (xs : List Statement) → AllFine most xs
    → are_formed_statements (statements xs) ≡ true
all_formed most [] h = refl
all_formed most (x ∷ xs) h = both (is_formed_statement x) (are_formed_statements (statements xs))
    h.0.formed (all_formed most xs h.1)

pub all_shallow : (most : ℕ) (xs : List Statement) → AllFine most xs
    → statements_depth (statements xs) ≤ most
all_shallow most [] h = omega arith
all_shallow most (x ∷ xs) h = omega (arith, h.0.shallow, all_shallow most xs h.1)
