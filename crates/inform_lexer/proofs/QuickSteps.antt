-- The steps of a string that most of its bytes take.
use Rattle.std.proofs.Common.{◌≡◌, ℕ, ◌+◌, Bool, true, false, not, cond, eqb, List, [], ◌∷◌, take, refl, sym, ap, subst, arith}
use Rattle.std.specs.List.{prefix_len, list_any}
use Rattle.std.specs.Char.{is_ascii_alphabetic}
use Rattle.std.proofs.lemmas.Bool.{and_parts, eqb-true, not-true}
use Rattle.std.proofs.lemmas.Bool.Decides.{nat_tests}
use Rattle.inform_lexer.specs.Bytes.{is_blank, is_break, is_plain}
use Rattle.inform_lexer.specs.Strings.{string_step, says, spaces_of, is_lone_space}
use Rattle.inform_lexer.proofs.WrittenStrings.{plain_step}

-- a letter stands for itself
pub letter_step : (c : Bool) (at b : ℕ) (bytes : List ℕ) → is_ascii_alphabetic b ≡ true
    → string_step c at (b ∷ bytes) ≡ says 1 b 0
letter_step c at b bytes letter =
    let plain : is_plain b ≡ true = grind (arith, nat_tests) in plain_step c at b bytes plain

-- and so does a space that no blank follows, since it is said once
pub lone_step : (c : Bool) (at b : ℕ) (bytes : List ℕ) → is_lone_space b bytes ≡ true
    → string_step c at (b ∷ bytes) ≡ says 1 b 0
unfolding string_step
lone_step c at b [] lone =
    subst (λ (x : ℕ). string_step c at (x ∷ []) ≡ says 1 x 0) (sym (eqb-true b 32 lone)) refl
lone_step c at b (d ∷ bytes) lone =
    let parts = and_parts (eqb b 32) (not (is_blank d)) lone in
    let none : is_blank d ≡ false = not-true (is_blank d) parts.1 in
    subst (λ (x : ℕ). string_step c at (x ∷ d ∷ bytes) ≡ says 1 x 0) (sym (eqb-true b 32 parts.0))
    (ap (λ (blank : Bool). says (spaces_of c (list_any is_break (32 ∷ take (cond blank (1 + prefix_len is_blank bytes) 0) (d ∷ bytes)))
    (cond blank (1 + prefix_len is_blank bytes) 0 + 1)) 32 (cond blank (1 + prefix_len is_blank bytes) 0)) none)
