-- What a number or a string leaves of the bytes before it: never more than there were, and some
-- where the last byte can end neither.
use Rattle.std.proofs.Common.{◌≡◌, ℕ, suc, ◌-◌, ◌≤◌, ◌<◌, Bool, true, false, eqb, get_or, List, [], ◌∷◌, length, ℤ, refl, sym, ap, subst, ◌∙◌, arith}
use Rattle.std.specs.Prelude.{◌||◌}
use Rattle.std.specs.Char.{is_ascii_digit}
use Rattle.adv_text.specs.Spelling.{AfterWhitespace, here, space, Digits, last, digit, Amount, Signed, bare, plus, minus, BeginsNumber, Number, BigNumber, Inside, here as inside_here, plain, two_quotes, grave, return, Opened, Closes, Quoted, Overlong}
use Rattle.scott_format.specs.Pieces.{last_or, may_end}

or_true : (a b : Bool) → a ≡ true → (a || b) ≡ true
or_true true b e = refl
or_true false b e = absurd cc

pub digit_may_end : (b : ℕ) → is_ascii_digit b ≡ true → may_end b ≡ true
digit_may_end b e = or_true (is_ascii_digit b) _ e

-- the last byte by its place
pub last_at : (bytes : List ℕ) (b : ℕ) → 0 < length bytes → get_or bytes (length bytes - 1) 0 ≡ last_or b bytes
last_at [] b some = absurd (omega arith)
last_at (c ∷ []) b some = refl
last_at (c ∷ d ∷ bytes) b some =
    let e : length (c ∷ d ∷ bytes) - 1 ≡ suc (length (d ∷ bytes) - 1) = omega arith in
    ap (λ (i : ℕ). get_or (c ∷ d ∷ bytes) i 0) e ∙ last_at (d ∷ bytes) c (omega arith)

or_false : (a b : Bool) → a ≡ false → b ≡ (a || b)
or_false true b e = absurd cc
or_false false b e = refl

-- a last byte that is a digit, and one that is none
pub digit_ends : (bytes : List ℕ) (r : Bool) → 1 ≤ length bytes → r ≡ is_ascii_digit (get_or bytes (length bytes - 1) 0) → r ≡ true
    → r ≡ may_end (last_or 34 bytes)
digit_ends bytes r some is e =
    e ∙ sym (digit_may_end (get_or bytes (length bytes - 1) 0) (sym is ∙ e)) ∙ ap may_end (last_at bytes 34 (omega (arith, some)))

pub quote_ends : (bytes : List ℕ) (r : Bool) → 1 ≤ length bytes → r ≡ is_ascii_digit (get_or bytes (length bytes - 1) 0) → r ≡ false
    → eqb (get_or bytes (length bytes - 1) 0) 34 ≡ may_end (last_or 34 bytes)
quote_ends bytes r some is e =
    or_false (is_ascii_digit (get_or bytes (length bytes - 1) 0)) (eqb (get_or bytes (length bytes - 1) 0) 34) (sym is ∙ e)
    ∙ ap may_end (last_at bytes 34 (omega (arith, some)))

-- what is left of bytes that a byte stands before
abbrev pub Leaves : ℕ → List ℕ → List ℕ → Type 0
Leaves b bytes rest =
    (length rest ≤ length bytes)
    × (may_end (last_or b bytes) ≡ false → (0 < length rest) × (last_or 34 rest ≡ last_or b bytes))

-- all is left, where the byte before it may end a number or a string
all_left : (b : ℕ) (bytes : List ℕ) → may_end b ≡ true → Leaves b bytes bytes
all_left b [] ends = (omega arith, λ other. absurd (let e : true ≡ false = sym ends ∙ other in cc))
all_left b (c ∷ bytes) ends = (omega arith, λ other. (omega arith, refl))

one_more : (b c : ℕ) (bytes rest : List ℕ) → Leaves c bytes rest → Leaves b (c ∷ bytes) rest
one_more b c bytes rest h = (omega (arith, h.0), h.1)

digits_leave : (b n m : ℕ) (bytes rest : List ℕ) → may_end b ≡ true → Digits n m bytes rest → Leaves b bytes rest
digits_leave b n m bytes rest ends (last none) = all_left b bytes ends
digits_leave b n m bytes rest ends (digit {b = c} {bytes = more} is more_digits) =
    one_more b c more rest (digits_leave c _ m more rest (digit_may_end c is) more_digits)

amount_leaves : (b n : ℕ) (bytes rest : List ℕ) → Amount n bytes rest → Leaves b bytes rest
amount_leaves b n [] rest h = absurd h
amount_leaves b n (c ∷ bytes) rest h = one_more b c bytes rest (digits_leave c _ n bytes rest (digit_may_end c h.0) h.1)

signed_leaves : (b : ℕ) (negative : Bool) (n : ℕ) (bytes rest : List ℕ) → Signed negative n bytes rest → Leaves b bytes rest
signed_leaves b negative n bytes rest (bare amount) = amount_leaves b n bytes rest amount
signed_leaves b negative n bytes rest (plus {bytes = more} amount) = one_more b 43 more rest (amount_leaves 43 n more rest amount)
signed_leaves b negative n bytes rest (minus {bytes = more} amount) = one_more b 45 more rest (amount_leaves 45 n more rest amount)

number_from : (z : ℤ) (rest : List ℕ) (b k : ℕ) (bytes : List ℕ) → AfterWhitespace (BeginsNumber z rest) k bytes → Leaves b bytes rest
number_from z rest b k bytes (here h) = signed_leaves b h.negative h.amount bytes rest h.spelled
number_from z rest b k bytes (space {k = j} {b = c} {bytes = more} is h) = one_more b c more rest (number_from z rest c j more h)

pub number_leaves : (z : ℤ) (bytes rest : List ℕ) → Number z bytes rest → Leaves 34 bytes rest
number_leaves z bytes rest h = number_from z rest 34 h.0 bytes h.1

inside_leaves : (b : ℕ) (text bytes tail rest : List ℕ) → tail ≡ 34 ∷ rest → Inside text bytes tail → Leaves b bytes rest
inside_leaves b text bytes tail rest e inside_here =
    subst (λ (t : List ℕ). Leaves b t rest) (sym e) (one_more b 34 rest rest (all_left 34 rest refl))
inside_leaves b text bytes tail rest e (plain {b = c} {text = t} {bytes = more} is h) = one_more b c more rest (inside_leaves c t more tail rest e h)
inside_leaves b text bytes tail rest e (two_quotes {text = t} {bytes = more} h) =
    one_more b 34 (34 ∷ more) rest (one_more 34 34 more rest (inside_leaves 34 t more tail rest e h))
inside_leaves b text bytes tail rest e (grave {text = t} {bytes = more} h) = one_more b 96 more rest (inside_leaves 96 t more tail rest e h)
inside_leaves b text bytes tail rest e (return {text = t} {bytes = more} h) = one_more b 13 more rest (inside_leaves 13 t more tail rest e h)

opened_leaves : (b : ℕ) (text bytes rest : List ℕ) → Opened (Closes text rest) bytes → Leaves b bytes rest
opened_leaves b text [] rest h = absurd h
opened_leaves b text (c ∷ bytes) rest h = one_more b c bytes rest (inside_leaves c text bytes (34 ∷ rest) rest refl h.1.inside)

string_from : (text rest : List ℕ) (b k : ℕ) (bytes : List ℕ) → AfterWhitespace (Opened (Closes text rest)) k bytes → Leaves b bytes rest
string_from text rest b k bytes (here h) = opened_leaves b text bytes rest h
string_from text rest b k bytes (space {k = j} {b = c} {bytes = more} is h) = one_more b c more rest (string_from text rest c j more h)

pub string_leaves : (text bytes rest : List ℕ) → Quoted text bytes rest → Leaves 34 bytes rest
string_leaves text bytes rest h = string_from text rest 34 h.0 bytes h.1

-- ---- faults that need a byte

some_after : (P : List ℕ → Type 0) → ((bytes : List ℕ) → P bytes → 0 < length bytes) → (k : ℕ) (bytes : List ℕ) → AfterWhitespace P k bytes → 0 < length bytes
some_after P some k bytes (here h) = some bytes h
some_after P some k bytes (space is h) = omega arith

some_signed : (negative : Bool) (n : ℕ) (bytes rest : List ℕ) → Signed negative n bytes rest → 0 < length bytes
some_signed negative n [] rest (bare amount) = absurd amount
some_signed negative n (b ∷ bytes) rest (bare amount) = omega arith
some_signed negative n bytes rest (plus amount) = omega arith
some_signed negative n bytes rest (minus amount) = omega arith

pub some_big : (k : ℕ) (bytes : List ℕ) → AfterWhitespace BigNumber k bytes → 0 < length bytes
some_big k bytes h = some_after BigNumber (λ (b : List ℕ) (big : BigNumber b). some_signed big.negative big.amount b big.rest big.spelled) k bytes h

some_opened : (P : List ℕ → Type 0) (bytes : List ℕ) → Opened P bytes → 0 < length bytes
some_opened P [] h = absurd h
some_opened P (b ∷ bytes) h = omega arith

pub some_long : (k : ℕ) (bytes : List ℕ) → AfterWhitespace (Opened Overlong) k bytes → 0 < length bytes
some_long k bytes h = some_after (Opened Overlong) (some_opened Overlong) k bytes h
