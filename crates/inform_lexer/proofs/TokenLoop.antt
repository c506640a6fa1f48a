-- A text is read from piece to piece. The slice from a place on is `take (length whole - at) (drop
-- at whole)`.
use Rattle.std.proofs.Common.{◌≡◌, ℕ, ◌+◌, ◌-◌, ◌≤◌, ◌<◌, List, [], ◌∷◌, ◌++◌, length, take, drop, Option, Some, None, Result, Ok, Err, refl, sym, ap, ◌∙◌, arith}
use Rattle.std.proofs.lemmas.List.{take_rest}
use Rattle.inform_lexer.specs.declared.kinds.Kind.{Kind}
use Rattle.inform_lexer.specs.declared.kinds.Token.{Token}
use Rattle.inform_lexer.specs.declared.faults.LexFault.{LexFault}
use Rattle.inform_lexer.specs.Pieces.{Piece, added, cut}
use Rattle.inform_lexer.specs.Tokens.{TokenStep, token_step, lexed, InOrder}
use Rattle.inform_lexer.specs.Views.{given, Reads}
use Rattle.inform_lexer.proofs.Cutting.{goes_on, added_twice}

abbrev pub rest : List ℕ → ℕ → List ℕ
rest whole at = take (length whole - at) (drop at whole)

abbrev pub read : ℕ → List ℕ → Result (List Token) LexFault
read at whole = cut token_step 0 tt at (drop at whole)

pub begun : (whole : List ℕ) → lexed whole ≡ read 0 whole
unfolding lexed
begun whole = refl

pub read_on : (whole : List ℕ) (tokens : List Token) (at : ℕ) (p : Piece (Unit {0}) Token) → at < length whole → Ok p ≡ token_step tt at (rest whole at)
    → added (tokens ++ p.gives) (read (at + 1 + p.more) whole) ≡ added tokens (read at whole)
read_on whole tokens at p inside is =
    let there : token_step tt at (drop at whole) ≡ Ok p = ap (λ (bytes : List ℕ). token_step tt at bytes) (sym (take_rest whole at)) ∙ sym is in
    sym (ap (λ (r : Result (List Token) LexFault). added tokens r) (goes_on token_step whole at tt p inside there) ∙ added_twice tokens p.gives _)

-- the same of what a call added to the tokens
pub reads_on : (whole : List ℕ) (before after : List Token) (at more : ℕ) (step : TokenStep) → at < length whole
    → step ≡ token_step tt at (rest whole at) → Reads step before after (Ok more)
    → added after (read (at + 1 + more) whole) ≡ added before (read at whole)
reads_on whole before after at more (Ok p) inside is reads =
    ap (λ (xs : List Token). added xs (read (at + 1 + more) whole)) reads.0
    ∙ ap (λ (n : ℕ). added (before ++ p.gives) (read (at + 1 + n) whole)) reads.1
    ∙ read_on whole before at p inside is
reads_on whole before after at more (Err fault) inside is reads = absurd reads

-- ---- spans

-- nothing after the last one changes the order
pub wider : (small large at : ℕ) (tokens : List Token) → small ≤ large → InOrder small at tokens → InOrder large at tokens
wider small large at [] more order = omega arith
wider small large at (t ∷ tokens) more order = (order.0, order.1, wider small large t.end tokens more order.2)

-- a piece at a place keeps the order
pub next_one : (at begin : ℕ) (tokens : List Token) (kind : Option Kind) (more : ℕ) → InOrder at begin tokens
    → InOrder (at + 1 + more) begin (tokens ++ given at kind more)
next_one at begin [] None more order = omega arith
next_one at begin [] (Some kind) more order = (order, omega arith, omega arith)
next_one at begin (t ∷ tokens) kind more order = (order.0, order.1, next_one at t.end tokens kind more order.2)
