-- The inside of a written string reads back.
use Rattle.std.proofs.Common.{◌≡◌, ℕ, suc, ◌^◌, ◌+◌, ◌<◌, Bool, true, false, not, cond, ◌&&◌, ◌||◌, eqb, leb, List, [], ◌∷◌, ◌++◌, length, take, drop, Result, Ok, Err, inl, inr, refl, sym, ap, subst, ◌∙◌, arith}
use Rattle.std.specs.Prelude.{replicate}
use Rattle.std.specs.List.{prefix_len, list_all, list_any}
use Rattle.std.specs.Fmt.{decimal}
use Rattle.std.specs.Str.Parse.{digits_value}
use Rattle.std.proofs.lemmas.Bool.{and_parts, or_cases, eqb-true, le-leb, not-true}
use Rattle.std.proofs.lemmas.Bool.Decides.{nat_tests}
use Rattle.std.proofs.lemmas.List.{take_at, drop_at}
use Rattle.std.proofs.lemmas.List.Folds.{list_all-append}
use Rattle.inform_tree.specs.Words.{is_byte}
use Rattle.inform_lexer.specs.Pieces.{added, cut}
use Rattle.inform_lexer.specs.Bytes.{is_blank, is_break, is_comment_byte, is_digit_in, is_inside, is_plain}
use Rattle.inform_lexer.specs.Strings.{StringStep, string_step, run_here, escape_here, says, spaces_of}
use Rattle.inform_lexer.specs.Written.{is_shown, escape_text, string_text}
use Rattle.inform_lexer.proofs.Cutting.{piece_read, added_twice}
use Rattle.inform_lexer.proofs.Fronts.{front, stops_at, all_of, decimal_digits, decimal_some, decimal_value, no_break, no_break_before}

abbrev read : Bool → ℕ → List ℕ → Result (List ℕ) ℕ
read caret at bytes = cut string_step 0 caret at bytes

-- ---- what a written string never has

-- a test that all bytes of written strings pass
pub record Passes (p : ℕ → Bool) : Type 0 where
  caret : p 94 ≡ true
  tilde : p 126 ≡ true
  at_sign : p 64 ≡ true
  plain : (b : ℕ) → is_plain b ≡ true → p b ≡ true
  space : p 32 ≡ true
  digit : (b : ℕ) → is_digit_in 10 b ≡ true → p b ≡ true

-- the chain of tests of a byte, at given truth values
abbrev chain : Bool → Bool → Bool → ℕ → List ℕ → List ℕ → List ℕ
chain ten quote shown b plain escaped =
    cond ten (94 ∷ plain) (cond quote (126 ∷ plain) (cond shown (b ∷ plain) (escape_text b ++ escaped)))

chained : (escaped : Bool) (b : ℕ) (text : List ℕ)
    → string_text escaped (b ∷ text) ≡ chain (eqb b 10) (eqb b 34) (is_shown escaped b) b (string_text false text) (string_text true text)
unfolding string_text
chained escaped b text = refl

shown_passes : (p : ℕ → Bool) → Passes p → (escaped : Bool) (b : ℕ) → is_shown escaped b ≡ true → p b ≡ true
shown_passes p passes escaped b shown =
    let parts = and_parts (is_plain b || eqb b 32) (not (escaped && is_digit_in 10 b)) shown in
    elim (or_cases (is_plain b) (eqb b 32) parts.0) [
      | inl plain ↦ passes.plain b plain
      | inr space ↦ ap p (eqb-true b 32 space) ∙ passes.space
    ]

escape_passes : (p : ℕ → Bool) → Passes p → (b : ℕ) → is_byte b ≡ true → list_all p (escape_text b) ≡ true
escape_passes p passes b byte =
    let small : b < 2 ^ 64 = grind (arith, nat_tests) in
    ap (λ (t : Bool). t && (p 64 && list_all p (decimal b))) passes.at_sign
    ∙ ap (λ (t : Bool). t && list_all p (decimal b)) passes.at_sign
    ∙ all_of (is_digit_in 10) p (decimal b) passes.digit (decimal_digits b small)

chain_passes : (p : ℕ → Bool) → Passes p → (ten quote shown : Bool) (b : ℕ) (plain escaped : List ℕ) → is_byte b ≡ true
    → (shown ≡ true → p b ≡ true) → list_all p plain ≡ true → list_all p escaped ≡ true → list_all p (chain ten quote shown b plain escaped) ≡ true
chain_passes p passes true quote shown b plain escaped byte here rest later = ap (λ (t : Bool). t && list_all p plain) passes.caret ∙ rest
chain_passes p passes false true shown b plain escaped byte here rest later = ap (λ (t : Bool). t && list_all p plain) passes.tilde ∙ rest
chain_passes p passes false false true b plain escaped byte here rest later = ap (λ (t : Bool). t && list_all p plain) (here refl) ∙ rest
chain_passes p passes false false false b plain escaped byte here rest later =
    list_all-append p (escape_text b) escaped
    ∙ ap (λ (t : Bool). t && list_all p escaped) (escape_passes p passes b byte) ∙ later

pub text_passes : (p : ℕ → Bool) → Passes p → (escaped : Bool) (text : List ℕ) → list_all is_byte text ≡ true → list_all p (string_text escaped text) ≡ true
unfolding string_text
text_passes p passes escaped [] bytes = refl
text_passes p passes escaped (b ∷ text) bytes =
    let parts = and_parts (is_byte b) (list_all is_byte text) bytes in
    chain_passes p passes (eqb b 10) (eqb b 34) (is_shown escaped b) b (string_text false text) (string_text true text) parts.0
    (shown_passes p passes escaped b) (text_passes p passes false text parts.1) (text_passes p passes true text parts.1)

plain_is_inside : (b : ℕ) → is_plain b ≡ true → is_inside b ≡ true
plain_is_inside b plain = grind (arith, nat_tests)

digit_is_inside : (b : ℕ) → is_digit_in 10 b ≡ true → is_inside b ≡ true
digit_is_inside b digit = grind (arith, nat_tests)

plain_is_unbroken : (b : ℕ) → is_plain b ≡ true → is_comment_byte b ≡ true
plain_is_unbroken b plain = grind (arith, nat_tests)

digit_is_unbroken : (b : ℕ) → is_digit_in 10 b ≡ true → is_comment_byte b ≡ true
digit_is_unbroken b digit = grind (arith, nat_tests)

-- no quote
pub text_is_inside : (escaped : Bool) (text : List ℕ) → list_all is_byte text ≡ true → list_all is_inside (string_text escaped text) ≡ true
text_is_inside = text_passes is_inside (record {
  caret = refl;
  tilde = refl;
  at_sign = refl;
  plain = plain_is_inside;
  space = refl;
  digit = digit_is_inside;
})

-- and no break
text_is_unbroken : (escaped : Bool) (text : List ℕ) → list_all is_byte text ≡ true → list_any is_break (string_text escaped text) ≡ false
text_is_unbroken escaped text bytes =
    no_break (string_text escaped text) (text_passes is_comment_byte (record {
      caret = refl;
      tilde = refl;
      at_sign = refl;
      plain = plain_is_unbroken;
      space = refl;
      digit = digit_is_unbroken;
    }) escaped text bytes)

-- an escape has no digit after its own
no_digit_there : (ten quote shown : Bool) (b : ℕ) (plain escaped : List ℕ) → (shown ≡ true → is_digit_in 10 b ≡ false)
    → prefix_len (is_digit_in 10) (chain ten quote shown b plain escaped) ≡ 0
no_digit_there true quote shown b plain escaped other = refl
no_digit_there false true shown b plain escaped other = refl
no_digit_there false false true b plain escaped other = stops_at (is_digit_in 10) b plain (other refl)
no_digit_there false false false b plain escaped other = refl

shown_is_no_digit : (b : ℕ) → is_shown true b ≡ true → is_digit_in 10 b ≡ false
shown_is_no_digit b shown = not-true (is_digit_in 10 b) (and_parts (is_plain b || eqb b 32) (not (is_digit_in 10 b)) shown).1

no_digit_after : (text : List ℕ) → prefix_len (is_digit_in 10) (string_text true text) ≡ 0
unfolding string_text
no_digit_after [] = refl
no_digit_after (b ∷ text) =
    no_digit_there (eqb b 10) (eqb b 34) (is_shown true b) b (string_text false text) (string_text true text) (shown_is_no_digit b)

-- ---- the steps

-- the chain of tests of the first byte, at given truth values
abbrev picked : Bool → Bool → Bool → Bool → Bool → Bool → ℕ → ℕ → List ℕ → StringStep
picked blank caret tilde at_sign plain after_caret at b bytes =
    cond blank (run_here after_caret b bytes)
    (cond caret (Ok (record { gives = 10 ∷ []; more = 0; next = true }))
    (cond tilde (says 1 34 0) (cond at_sign (escape_here at bytes) (cond plain (says 1 b 0) (Err at)))))

step_is : (c : Bool) (at b : ℕ) (bytes : List ℕ)
    → string_step c at (b ∷ bytes) ≡ picked (is_blank b) (eqb b 94) (eqb b 126) (eqb b 64) (is_plain b) c at b bytes
unfolding string_step
step_is c at b bytes = refl

-- a plain byte in a string says itself, with no byte more
pub plain_step : (c : Bool) (at b : ℕ) (bytes : List ℕ) → is_plain b ≡ true → string_step c at (b ∷ bytes) ≡ says 1 b 0
plain_step c at b bytes plain =
    let blank : is_blank b ≡ false = grind (arith, nat_tests) in
    let caret : eqb b 94 ≡ false = grind (arith, nat_tests) in
    let tilde : eqb b 126 ≡ false = grind (arith, nat_tests) in
    let at_sign : eqb b 64 ≡ false = grind (arith, nat_tests) in
    step_is c at b bytes
    ∙ ap (λ (t : Bool). picked t (eqb b 94) (eqb b 126) (eqb b 64) (is_plain b) c at b bytes) blank
    ∙ ap (λ (t : Bool). picked false t (eqb b 126) (eqb b 64) (is_plain b) c at b bytes) caret
    ∙ ap (λ (t : Bool). picked false false t (eqb b 64) (is_plain b) c at b bytes) tilde
    ∙ ap (λ (t : Bool). picked false false false t (is_plain b) c at b bytes) at_sign
    ∙ ap (λ (t : Bool). picked false false false false t c at b bytes) plain

-- what an escape with so many digits is
abbrev escape_by : ℕ → List ℕ → ℕ → StringStep
escape_by at bytes size =
    cond (leb 1 size && is_byte (digits_value 10 (take size bytes))) (says 1 (digits_value 10 (take size bytes)) (1 + size)) (Err at)

-- the escape of a byte in decimal digits says that byte, where no other digit follows
escape_step : (c : Bool) (at b : ℕ) (rest : List ℕ) → is_byte b ≡ true → prefix_len (is_digit_in 10) rest ≡ 0
    → string_step c at (64 ∷ 64 ∷ (decimal b ++ rest)) ≡ says 1 b (1 + length (decimal b))
escape_step c at b rest byte stops =
    let ds = decimal b in
    let small : b < 2 ^ 64 = grind (arith, nat_tests) in
    let some : leb 1 (length ds) ≡ true = le-leb 1 (length ds) (decimal_some b small) in
    let digits : take (length ds) (ds ++ rest) ≡ ds = take_at ds rest (length ds) refl in
    step_is c at 64 (64 ∷ (ds ++ rest))
    ∙ ap (λ (n : ℕ). escape_by at (ds ++ rest) n) (front (is_digit_in 10) ds rest (decimal_digits b small) stops)
    ∙ ap (λ (xs : List ℕ). cond (leb 1 (length ds) && is_byte (digits_value 10 xs)) (says 1 (digits_value 10 xs) (1 + length ds)) (Err at)) digits
    ∙ ap (λ (n : ℕ). cond (leb 1 (length ds) && is_byte n) (says 1 n (1 + length ds)) (Err at)) (decimal_value b small)
    ∙ ap (λ (t : Bool). cond (t && is_byte b) (says 1 b (1 + length ds)) (Err at)) some
    ∙ ap (λ (t : Bool). cond t (says 1 b (1 + length ds)) (Err at)) byte

run_step : (c : Bool) (at b : ℕ) (bytes : List ℕ) → is_blank b ≡ true → list_any is_break (b ∷ bytes) ≡ false
    → string_step c at (b ∷ bytes) ≡ says (prefix_len is_blank bytes + 1) 32 (prefix_len is_blank bytes)
run_step c at b bytes blank unbroken =
    let more = prefix_len is_blank bytes in
    step_is c at b bytes
    ∙ ap (λ (t : Bool). picked t (eqb b 94) (eqb b 126) (eqb b 64) (is_plain b) c at b bytes) blank
    ∙ ap (λ (t : Bool). says (spaces_of c t (more + 1)) 32 more) (no_break_before (suc more) (b ∷ bytes) unbroken)

-- ---- reading

-- a piece of one byte
read_one : (c : Bool) (at b : ℕ) (bytes : List ℕ) (said : ℕ) (caret : Bool) → string_step c at (b ∷ bytes) ≡ Ok (record { gives = said ∷ []; more = 0; next = caret })
    → read c at (b ∷ bytes) ≡ added (said ∷ []) (read caret (at + 1) bytes)
read_one c at b bytes said caret is =
    let there : at + 1 + 0 ≡ at + 1 = omega arith in
    piece_read string_step c at b bytes (record { gives = said ∷ []; more = 0; next = caret }) is
    ∙ ap (λ (n : ℕ). added (said ∷ []) (read caret n bytes)) there

read_run : (c : Bool) (at b : ℕ) (bytes : List ℕ) (m : ℕ) → prefix_len is_blank bytes ≡ m → is_blank b ≡ true → list_any is_break (b ∷ bytes) ≡ false
    → read c at (b ∷ bytes) ≡ added (replicate (m + 1) 32) (read false (at + 1 + m) (drop m bytes))
read_run c at b bytes m size blank unbroken =
    let is : string_step c at (b ∷ bytes) ≡ says (m + 1) 32 m = run_step c at b bytes blank unbroken ∙ ap (λ (n : ℕ). says (n + 1) 32 n) size in
    piece_read string_step c at b bytes (record { gives = replicate (m + 1) 32; more = m; next = false }) is

-- a space in front of a text without breaks is one space more, whether it begins a run or not
read_space : (c : Bool) (at : ℕ) (bytes : List ℕ) → list_any is_break bytes ≡ false → read c at (32 ∷ bytes) ≡ added (32 ∷ []) (read false (at + 1) bytes)
read_space c at [] unbroken = read_run c at 32 [] 0 refl refl refl
read_space c at (b ∷ bytes) unbroken = by (is_blank b) refl
  where
    by : (t : Bool) → is_blank b ≡ t → read c at (32 ∷ b ∷ bytes) ≡ added (32 ∷ []) (read false (at + 1) (b ∷ bytes))
    by false other =
        let there : at + 1 + 0 ≡ at + 1 = omega arith in
        read_run c at 32 (b ∷ bytes) 0 (stops_at is_blank b bytes other) refl unbroken
        ∙ ap (λ (n : ℕ). added (32 ∷ []) (read false n (b ∷ bytes))) there
    by true blank =
        let k = prefix_len is_blank bytes in
        let size : prefix_len is_blank (b ∷ bytes) ≡ suc k = ap (λ (t : Bool). cond t (1 + k) 0) blank ∙ omega arith in
        let there : at + 1 + suc k ≡ at + 1 + 1 + k = omega arith in
        let count : suc k + 1 ≡ suc (k + 1) = omega arith in
        read_run c at 32 (b ∷ bytes) (suc k) size refl unbroken
        ∙ ap (λ (n : ℕ). added (replicate (suc k + 1) 32) (read false n (drop k bytes))) there
        ∙ ap (λ (n : ℕ). added (replicate n 32) (read false (at + 1 + 1 + k) (drop k bytes))) count
        ∙ sym (added_twice (32 ∷ []) (replicate (k + 1) 32) (read false (at + 1 + 1 + k) (drop k bytes)))
        ∙ ap (λ (r : Result (List ℕ) ℕ). added (32 ∷ []) r) (sym (read_run false (at + 1) b bytes k refl blank unbroken))

read_escape : (c : Bool) (at b : ℕ) (rest : List ℕ) → is_byte b ≡ true → prefix_len (is_digit_in 10) rest ≡ 0
    → read c at (escape_text b ++ rest) ≡ added (b ∷ []) (read false (at + 1 + (1 + length (decimal b))) rest)
read_escape c at b rest byte stops =
    let ds = decimal b in
    let size : 1 + length ds ≡ suc (length ds) = omega arith in
    piece_read string_step c at 64 (64 ∷ (ds ++ rest)) (record { gives = b ∷ []; more = 1 + length ds; next = false }) (escape_step c at b rest byte stops)
    ∙ ap (λ (n : ℕ). added (b ∷ []) (read false (at + 1 + (1 + length ds)) (drop n (64 ∷ (ds ++ rest))))) size
    ∙ ap (λ (bytes : List ℕ). added (b ∷ []) (read false (at + 1 + (1 + length ds)) bytes)) (drop_at ds rest (length ds) refl)

abbrev ReadsAs : List ℕ → List ℕ → Type 0
ReadsAs bytes text = (c : Bool) (at : ℕ) → read c at bytes ≡ Ok text

then_text : (said : ℕ) (text bytes : List ℕ) (c : Bool) (at : ℕ) → ReadsAs bytes text → added (said ∷ []) (read c at bytes) ≡ Ok (said ∷ text)
then_text said text bytes c at reads = ap (λ (r : Result (List ℕ) ℕ). added (said ∷ []) r) (reads c at)

shown_reads : (b : ℕ) (plain text : List ℕ) → (is_plain b || eqb b 32) ≡ true → list_any is_break plain ≡ false → ReadsAs plain text → ReadsAs (b ∷ plain) (b ∷ text)
shown_reads b plain text shown unbroken reads c at =
    elim (or_cases (is_plain b) (eqb b 32) shown) [
      | inl itself ↦ read_one c at b plain b false (plain_step c at b plain itself) ∙ then_text b text plain false (at + 1) reads
      | inr space ↦
          let same : 32 ≡ b = sym (eqb-true b 32 space) in
          subst (λ (x : ℕ). read c at (x ∷ plain) ≡ Ok (x ∷ text)) same
          (read_space c at plain unbroken ∙ then_text 32 text plain false (at + 1) reads)
    ]

-- however the first byte of a text is written, it reads as itself, and what follows as the rest
chain_reads : (ten quote shown : Bool) (b : ℕ) (plain escaped text : List ℕ) → is_byte b ≡ true
    → eqb b 10 ≡ ten → eqb b 34 ≡ quote → (shown ≡ true → (is_plain b || eqb b 32) ≡ true)
    → list_any is_break plain ≡ false → prefix_len (is_digit_in 10) escaped ≡ 0
    → ReadsAs plain text → ReadsAs escaped text → ReadsAs (chain ten quote shown b plain escaped) (b ∷ text)
unfolding string_step
chain_reads true quote shown b plain escaped text byte ten_is quote_is shown_is unbroken stops reads later c at =
    read_one c at 94 plain 10 true refl ∙ then_text 10 text plain true (at + 1) reads ∙ ap (λ (x : ℕ). Ok (x ∷ text)) (sym (eqb-true b 10 ten_is))
chain_reads false true shown b plain escaped text byte ten_is quote_is shown_is unbroken stops reads later c at =
    read_one c at 126 plain 34 false refl ∙ then_text 34 text plain false (at + 1) reads ∙ ap (λ (x : ℕ). Ok (x ∷ text)) (sym (eqb-true b 34 quote_is))
chain_reads false false true b plain escaped text byte ten_is quote_is shown_is unbroken stops reads later c at =
    shown_reads b plain text (shown_is refl) unbroken reads c at
chain_reads false false false b plain escaped text byte ten_is quote_is shown_is unbroken stops reads later c at =
    read_escape c at b escaped byte stops ∙ then_text b text escaped false (at + 1 + (1 + length (decimal b))) later

-- whatever stands before it, and whether a digit may stand first or not
pub reads_back : (escaped : Bool) (text : List ℕ) → list_all is_byte text ≡ true → ReadsAs (string_text escaped text) text
unfolding string_text
reads_back escaped [] bytes c at = refl
reads_back escaped (b ∷ text) bytes c at =
    let parts = and_parts (is_byte b) (list_all is_byte text) bytes in
    chain_reads (eqb b 10) (eqb b 34) (is_shown escaped b) b (string_text false text) (string_text true text) text parts.0 refl refl
    (λ shown. (and_parts (is_plain b || eqb b 32) (not (escaped && is_digit_in 10 b)) shown).0)
    (text_is_unbroken false text parts.1) (no_digit_after text)
    (reads_back false text parts.1) (reads_back true text parts.1) c at
