-- The inside of a string is read from piece to piece. The slice from a place on is `take (length
-- whole - at) (drop at whole)`.
use Rattle.std.proofs.Common.{◌≡◌, ℕ, ◌+◌, ◌-◌, ◌≤◌, ◌<◌, Bool, false, List, [], ◌++◌, length, take, drop, Result, Ok, Err, refl, sym, ap, ◌∙◌, arith, length-drop}
use Rattle.std.proofs.lemmas.List.{take_rest}
use Rattle.inform_lexer.specs.Pieces.{Piece, added, cut}
use Rattle.inform_lexer.specs.Strings.{string_step, inside_said}
use Rattle.inform_lexer.specs.Spans.{or_nothing}
use Rattle.inform_lexer.specs.Views.{refused_at}
use Rattle.inform_lexer.proofs.Cutting.{goes_on, stops, added_twice}

abbrev pub rest : List ℕ → ℕ → List ℕ
rest whole at = take (length whole - at) (drop at whole)

abbrev pub read : Bool → ℕ → List ℕ → Result (List ℕ) ℕ
read caret at whole = cut string_step 0 caret at (drop at whole)

pub begun : (whole : List ℕ) → inside_said whole ≡ read false 0 whole
unfolding inside_said
begun whole = refl

pub said_on : (whole : List ℕ) (at : ℕ) (caret : Bool) (p : Piece Bool ℕ) → at < length whole → Ok p ≡ string_step caret at (rest whole at)
    → read caret at whole ≡ added p.gives (read p.next (at + 1 + p.more) whole)
said_on whole at caret p inside is =
    goes_on string_step whole at caret p inside (ap (λ (bytes : List ℕ). string_step caret at bytes) (sym (take_rest whole at)) ∙ sym is)

pub said_no_more : (whole : List ℕ) (at : ℕ) (caret : Bool) (place : ℕ) → at < length whole → Err place ≡ string_step caret at (rest whole at)
    → read caret at whole ≡ Err place
said_no_more whole at caret place inside is =
    stops string_step whole at caret place inside (ap (λ (bytes : List ℕ). string_step caret at bytes) (sym (take_rest whole at)) ∙ sym is)

pub within : (whole : List ℕ) (at more : ℕ) → at < length whole → 1 + more ≤ length (rest whole at) → at + 1 + more ≤ length whole
within whole at more inside few = omega (arith, ap length (take_rest whole at), length-drop at whole, few)

same_refusal : (xs : List ℕ) (r : Result (List ℕ) ℕ) → refused_at (added xs r) ≡ refused_at r
same_refusal xs (Ok ys) = refl
same_refusal xs (Err place) = refl

-- ---- what is refused

pub refused_on : (whole : List ℕ) (at : ℕ) (caret : Bool) (p : Piece Bool ℕ) → at < length whole → Ok p ≡ string_step caret at (rest whole at)
    → refused_at (read p.next (at + 1 + p.more) whole) ≡ refused_at (read caret at whole)
refused_on whole at caret p inside is = sym (ap refused_at (said_on whole at caret p inside is) ∙ same_refusal p.gives _)

-- ---- what is said

pub text_on : (whole text : List ℕ) (at : ℕ) (caret : Bool) (p : Piece Bool ℕ) → at < length whole → Ok p ≡ string_step caret at (rest whole at)
    → added (text ++ p.gives) (read p.next (at + 1 + p.more) whole) ≡ added text (read caret at whole)
text_on whole text at caret p inside is =
    sym (ap (λ (r : Result (List ℕ) ℕ). added text r) (said_on whole at caret p inside is) ∙ added_twice text p.gives _)

pub text_refused : (whole text : List ℕ) (at : ℕ) (caret : Bool) (place : ℕ) → at < length whole → Err place ≡ string_step caret at (rest whole at)
    → added text (read caret at whole) ≡ inside_said whole → or_nothing (inside_said whole) ≡ []
text_refused whole text at caret place inside is same =
    ap or_nothing (sym same ∙ ap (λ (r : Result (List ℕ) ℕ). added text r) (said_no_more whole at caret place inside is))
