-- What tokens say has a text.
use Rattle.std.specs.Prelude.{slice_index, replicate}
use Rattle.std.proofs.Common.{◌≡◌, ℕ, zero, suc, ◌+◌, ◌-◌, Bool, true, false, not, cond, ◌&&◌, eqb, leb, ltb, List, [], ◌∷◌, length, take, drop, map, Option, Some, None, Result, Ok, Err, refl, sym, ap, subst, ◌∙◌, arith}
use Rattle.std.specs.Char.{to_ascii_lowercase}
use Rattle.std.specs.List.{prefix_len, list_all}
use Rattle.std.specs.Str.Parse.{digits_value}
use Rattle.std.proofs.lemmas.Bool.{and_parts, and_from, eqb-true, eq-eqb}
use Rattle.std.proofs.lemmas.Bool.Decides.{nat_tests}
use Rattle.std.proofs.lemmas.List.{drop-drop, length-map, length-take-le}
use Rattle.std.proofs.lemmas.List.Sums.{prefix_len-le-length}
use Rattle.std.proofs.lemmas.List.Folds.{list_all-append, list_all-map}
use Rattle.inform_tree.specs.Words.{is_number, is_byte, is_character, is_reserved, begins_name, is_name_byte}
use Rattle.inform_tree.specs.declared.words.TheConstants.{NAME_LIMIT}
use Rattle.inform_lexemes.specs.declared.keywords.Keyword.{Keyword}
use Rattle.inform_lexemes.specs.declared.symbols.Symbol.{Symbol}
use Rattle.inform_lexemes.specs.Keywords.{keyword_spelled}
use Rattle.inform_lexemes.specs.Symbols.{symbol_text, symbol_spelled}
use Rattle.inform_lexemes.specs.Lexemes.{Reserved, Name, word_lexeme, word_or_name}
use Rattle.inform_lexer.specs.declared.kinds.Kind.{Kind}
use Rattle.inform_lexer.specs.declared.kinds.Kind.TheVariants as kind
use Rattle.inform_lexer.specs.declared.kinds.Token.{Token}
use Rattle.inform_lexer.specs.declared.faults.LexFault.TheVariants.{BadByte, LongName, BadCharacter, OpenString}
use Rattle.inform_lexer.specs.Pieces.{Piece, Pieces, none, first}
use Rattle.inform_lexer.specs.Bytes.{begins_word, is_word_byte, is_blank, is_digit_in, is_plain, is_comment_byte}
use Rattle.inform_lexer.specs.Numbers.{number_in}
use Rattle.inform_lexer.specs.Strings.{string_step, run_here, escape_here, says, inside_said}
use Rattle.inform_lexer.specs.Tokens.{token, gap, number_token, quoted, word_here, decimal_here, based_here, string_here, character_here, dollar_here, symbol_token, symbol_first, token_step}
use Rattle.inform_lexer.specs.Spans.{number_said, number_lexeme, sign_lexeme, or_nothing, inside, lexeme_of, lexeme_at}
use Rattle.inform_lexer.specs.Written.{is_read}
use Rattle.inform_lexer.specs.Laws.{TokensAreWritable}
use Rattle.inform_lexer.proofs.Exact.{read_pieces}

-- ---- numbers, symbols and strings, whatever the span

number_read : (n : Option ℕ) → ((m : ℕ) → n ≡ Some m → is_number m ≡ true) → is_read (number_lexeme n) ≡ true
number_read (Some n) fits = fits n refl
number_read None fits = refl

fits_by : (n m : ℕ) (t : Bool) → is_number n ≡ t → cond t (Some n) None ≡ Some m → is_number m ≡ true
fits_by n m true is e = let same : n ≡ m = cc in subst (λ (k : ℕ). is_number k ≡ true) same is
fits_by n m false is e = absurd (cc)

number_fits : (base : ℕ) (digits : List ℕ) (m : ℕ) → number_in base digits ≡ Some m → is_number m ≡ true
number_fits base digits m e = fits_by (digits_value base digits) m (is_number (digits_value base digits)) refl e

by_base : (a b : Bool) (bytes binary hexadecimal decimal_digits : List ℕ) (m : ℕ)
    → cond a (cond b (number_in 2 binary) (number_in 16 hexadecimal)) (number_in 10 decimal_digits) ≡ Some m → is_number m ≡ true
by_base true true bytes binary hexadecimal decimal_digits m e = number_fits 2 binary m e
by_base true false bytes binary hexadecimal decimal_digits m e = number_fits 16 hexadecimal m e
by_base false b bytes binary hexadecimal decimal_digits m e = number_fits 10 decimal_digits m e

said_fits : (bytes : List ℕ) (m : ℕ) → number_said bytes ≡ Some m → is_number m ≡ true
said_fits [] m e = number_fits 10 [] m e
said_fits (b ∷ bytes) m e = by_base (eqb b 36) (eqb (slice_index bytes 0) 36) bytes (drop 1 bytes) bytes (b ∷ bytes) m e

any_number : (bytes : List ℕ) → is_read (lexeme_of kind.Number bytes) ≡ true
any_number bytes = number_read (number_said bytes) (said_fits bytes)

sign_read : (s : Option Symbol) → is_read (sign_lexeme s) ≡ true
sign_read (Some s) = refl
sign_read None = refl

any_sign : (bytes : List ℕ) → is_read (lexeme_of kind.Symbol bytes) ≡ true
any_sign bytes = sign_read (symbol_spelled bytes)

-- ---- strings say bytes

-- so many times a byte
repeated : (n b : ℕ) → is_byte b ≡ true → list_all is_byte (replicate n b) ≡ true
repeated zero b byte = refl
repeated (suc n) b byte = ap (λ (t : Bool). t && list_all is_byte (replicate n b)) byte ∙ repeated n b byte

says_bytes : (n b more : ℕ) (p : Piece Bool ℕ) → says n b more ≡ Ok p → is_byte b ≡ true → list_all is_byte p.gives ≡ true
says_bytes n b more p e byte =
    let made : Piece Bool ℕ = record { gives = replicate n b; more = more; next = false } in
    let same : made ≡ p = cc in subst (λ (q : Piece Bool ℕ). list_all is_byte q.gives ≡ true) same (repeated n b byte)

escape_by_test : (t : Bool) (value size at : ℕ) (p : Piece Bool ℕ) → (t ≡ true → is_byte value ≡ true) → cond t (says 1 value size) (Err at) ≡ Ok p
    → list_all is_byte p.gives ≡ true
escape_by_test true value size at p byte e = says_bytes 1 value size p e (byte refl)
escape_by_test false value size at p byte e = absurd (cc)

escape_bytes : (at : ℕ) (bytes : List ℕ) (p : Piece Bool ℕ) → escape_here at bytes ≡ Ok p → list_all is_byte p.gives ≡ true
escape_bytes at [] p e = absurd (cc)
escape_bytes at (b ∷ bytes) p e =
    let size = prefix_len (is_digit_in 10) bytes in
    let value = digits_value 10 (take size bytes) in
    escape_by_test (eqb b 64 && (leb 1 size && is_byte value)) value (1 + size) at p
    (λ both. (and_parts (leb 1 size) (is_byte value) (and_parts (eqb b 64) (leb 1 size && is_byte value) both).1).1) e

plain_is_byte : (b : ℕ) → is_plain b ≡ true → is_byte b ≡ true
plain_is_byte b plain = grind (arith, nat_tests)

line_piece : (p : Piece Bool ℕ) → (let made : Result (Piece Bool ℕ) ℕ = Ok (record { gives = 10 ∷ []; more = 0; next = true }) in made ≡ Ok p)
    → list_all is_byte p.gives ≡ true
line_piece p e =
    let made : Piece Bool ℕ = record { gives = 10 ∷ []; more = 0; next = true } in
    let same : made ≡ p = cc in subst (λ (q : Piece Bool ℕ). list_all is_byte q.gives ≡ true) same refl

string_piece_bytes : (blank caret tilde at_sign plain c : Bool) (at b : ℕ) (bytes : List ℕ) (p : Piece Bool ℕ) → (plain ≡ true → is_byte b ≡ true)
    → cond blank (run_here c b bytes) (cond caret (Ok (record { gives = 10 ∷ []; more = 0; next = true }))
    (cond tilde (says 1 34 0) (cond at_sign (escape_here at bytes) (cond plain (says 1 b 0) (Err at))))) ≡ Ok p
    → list_all is_byte p.gives ≡ true
string_piece_bytes true caret tilde at_sign plain c at b bytes p byte e = says_bytes _ 32 _ p e refl
string_piece_bytes false true tilde at_sign plain c at b bytes p byte e = line_piece p e
string_piece_bytes false false true at_sign plain c at b bytes p byte e = says_bytes 1 34 0 p e refl
string_piece_bytes false false false true plain c at b bytes p byte e = escape_bytes at bytes p e
string_piece_bytes false false false false true c at b bytes p byte e = says_bytes 1 b 0 p e (byte refl)
string_piece_bytes false false false false false c at b bytes p byte e = absurd (cc)

string_step_bytes : (c : Bool) (at b : ℕ) (bytes : List ℕ) (p : Piece Bool ℕ) → string_step c at (b ∷ bytes) ≡ Ok p → list_all is_byte p.gives ≡ true
unfolding string_step
string_step_bytes c at b bytes p e =
    string_piece_bytes (is_blank b) (eqb b 94) (eqb b 126) (eqb b 64) (is_plain b) c at b bytes p (plain_is_byte b) e

string_pieces_bytes : (c : Bool) (at : ℕ) (bytes text : List ℕ) → Pieces string_step c at bytes text → list_all is_byte text ≡ true
string_pieces_bytes c at _ _ none = refl
string_pieces_bytes c at _ _ (first {b = b} {bytes = bytes} {xs = xs} p is rest) =
    list_all-append is_byte p.gives xs
    ∙ ap (λ (t : Bool). t && list_all is_byte xs) (string_step_bytes c at b bytes p is)
    ∙ string_pieces_bytes p.next (at + 1 + p.more) (drop p.more bytes) xs rest

string_read : (bytes : List ℕ) (r : Result (List ℕ) ℕ) → inside_said bytes ≡ r → list_all is_byte (or_nothing r) ≡ true
unfolding inside_said
string_read bytes (Ok text) is = string_pieces_bytes false 0 bytes text (read_pieces string_step 0 false 0 bytes text is)
string_read bytes (Err place) is = refl

any_string : (bytes : List ℕ) → is_read (lexeme_of kind.Quoted bytes) ≡ true
any_string bytes = string_read (inside bytes) (inside_said (inside bytes)) refl

-- ---- words

-- what a run has passes its test
run_passes : (p : ℕ → Bool) (bytes : List ℕ) → list_all p (take (prefix_len p bytes) bytes) ≡ true
run_passes p [] = refl
run_passes p (b ∷ bytes) = by (p b) refl (run_passes p bytes)
  where
    by : (t : Bool) → p b ≡ t → list_all p (take (prefix_len p bytes) bytes) ≡ true → list_all p (take (cond t (1 + prefix_len p bytes) 0) (b ∷ bytes)) ≡ true
    by true passes rest =
        let size : 1 + prefix_len p bytes ≡ suc (prefix_len p bytes) = omega arith in
        ap (λ (n : ℕ). list_all p (take n (b ∷ bytes))) size ∙ ap (λ (t : Bool). t && list_all p (take (prefix_len p bytes) bytes)) passes ∙ rest
    by false fails rest = refl

lower_is_name_byte : (b : ℕ) → is_word_byte b ≡ true → is_name_byte (to_ascii_lowercase b) ≡ true
lower_is_name_byte b is = grind (arith, nat_tests)

lower_begins_name : (b : ℕ) → begins_word b ≡ true → begins_name (to_ascii_lowercase b) ≡ true
lower_begins_name b is = grind (arith, nat_tests)

lower_bytes : (bytes : List ℕ) → list_all is_word_byte bytes ≡ true → list_all is_name_byte (map to_ascii_lowercase bytes) ≡ true
lower_bytes [] all = refl
lower_bytes (b ∷ bytes) all =
    let parts = and_parts (is_word_byte b) (list_all is_word_byte bytes) all in
    and_from (is_name_byte (to_ascii_lowercase b)) (list_all is_name_byte (map to_ascii_lowercase bytes)) (lower_is_name_byte b parts.0) (lower_bytes bytes parts.1)

free_name : (b : ℕ) (bytes : List ℕ) (reserved : Bool) → begins_name b ≡ true → list_all is_name_byte bytes ≡ true → ltb (length bytes) NAME_LIMIT ≡ true
    → is_reserved (b ∷ bytes) ≡ reserved → is_read (cond reserved Reserved (Name (b ∷ bytes))) ≡ true
free_name b bytes true begins all short is = refl
free_name b bytes false begins all short is =
    and_from (begins_name b) _ begins (and_from (list_all is_name_byte bytes) _ all (and_from (ltb (length bytes) NAME_LIMIT) _ short (ap not is)))

keyword_or_name : (o : Option Keyword) (b : ℕ) (bytes : List ℕ) → begins_name b ≡ true → list_all is_name_byte bytes ≡ true → ltb (length bytes) NAME_LIMIT ≡ true
    → is_read (word_or_name o (b ∷ bytes)) ≡ true
keyword_or_name (Some keyword) b bytes begins all short = refl
keyword_or_name None b bytes begins all short = free_name b bytes (is_reserved (b ∷ bytes)) begins all short refl

fitting_word : (t : Bool) (b : ℕ) (bytes : List ℕ) → begins_name b ≡ true → list_all is_name_byte bytes ≡ true → ltb (length bytes) NAME_LIMIT ≡ true
    → is_read (cond t (word_lexeme (b ∷ bytes)) Reserved) ≡ true
unfolding word_lexeme
fitting_word true b bytes begins all short = keyword_or_name (keyword_spelled (b ∷ bytes)) b bytes begins all short
fitting_word false b bytes begins all short = refl

word_read : (b : ℕ) (bytes : List ℕ) → begins_word b ≡ true → list_all is_word_byte bytes ≡ true → ltb (length bytes) NAME_LIMIT ≡ true
    → is_read (lexeme_of kind.Word (b ∷ bytes)) ≡ true
word_read b bytes begins all short =
    fitting_word (leb (length (b ∷ bytes)) NAME_LIMIT) (to_ascii_lowercase b) (map to_ascii_lowercase bytes) (lower_begins_name b begins) (lower_bytes bytes all)
    (ap (λ (n : ℕ). ltb n NAME_LIMIT) (length-map bytes to_ascii_lowercase) ∙ short)

-- ---- the pieces of a text

-- each token of a piece begins where the piece does, and says what has a text
abbrev Sound : ℕ → List ℕ → Piece (Unit {0}) Token → Type 0
Sound at bytes p = list_all (λ t. eqb t.start at && is_read (lexeme_of t.kind (take (t.end - t.start) bytes))) p.gives ≡ true

gap_sound : (more at : ℕ) (bytes : List ℕ) (p : Piece (Unit {0}) Token) → gap more ≡ Ok p → Sound at bytes p
gap_sound more at bytes p e =
    let made : Piece (Unit {0}) Token = record { gives = []; more = more; next = tt } in
    let same : made ≡ p = cc in subst (Sound at bytes) same refl

token_sound : (k : Kind) (at more b : ℕ) (bytes : List ℕ) (p : Piece (Unit {0}) Token) → is_read (lexeme_of k (b ∷ take more bytes)) ≡ true
    → token k at more ≡ Ok p → Sound at (b ∷ bytes) p
token_sound k at more b bytes p is e =
    let made : Piece (Unit {0}) Token = record { gives = record { kind = k; start = at; end = at + 1 + more } ∷ []; more = more; next = tt } in
    let same : made ≡ p = cc in
    let size : at + 1 + more - at ≡ suc more = omega arith in
    let read : is_read (lexeme_of k (take (at + 1 + more - at) (b ∷ bytes))) ≡ true = ap (λ (n : ℕ). is_read (lexeme_of k (take n (b ∷ bytes)))) size ∙ is in
    subst (Sound at (b ∷ bytes)) same (and_from _ true (and_from (eqb at at) _ (eq-eqb at at refl) read) refl)

word_sound : (t : Bool) (at b : ℕ) (bytes : List ℕ) (p : Piece (Unit {0}) Token) → begins_word b ≡ true → ltb (prefix_len is_word_byte bytes) NAME_LIMIT ≡ t
    → cond t (token kind.Word at (prefix_len is_word_byte bytes)) (Err (LongName at)) ≡ Ok p → Sound at (b ∷ bytes) p
word_sound true at b bytes p begins short e =
    let more = prefix_len is_word_byte bytes in
    let few : ltb (length (take more bytes)) NAME_LIMIT ≡ true =
    ap (λ (n : ℕ). ltb n NAME_LIMIT) (length-take-le more bytes (prefix_len-le-length is_word_byte bytes)) ∙ short in
    token_sound kind.Word at more b bytes p (word_read b (take more bytes) begins (run_passes is_word_byte bytes) few) e
word_sound false at b bytes p begins short e = absurd (cc)

number_sound : (at more b : ℕ) (o : Option ℕ) (bytes : List ℕ) (p : Piece (Unit {0}) Token) → number_token at more o ≡ Ok p → Sound at (b ∷ bytes) p
number_sound at more b (Some n) bytes p e = token_sound kind.Number at more b bytes p (any_number (b ∷ take more bytes)) e
number_sound at more b None bytes p e = absurd (cc)

based_sound : (t : Bool) (at more b : ℕ) (o : Option ℕ) (bytes : List ℕ) (p : Piece (Unit {0}) Token)
    → cond t (number_token at more o) (Err (BadByte at)) ≡ Ok p → Sound at (b ∷ bytes) p
based_sound true at more b o bytes p e = number_sound at more b o bytes p e
based_sound false at more b o bytes p e = absurd (cc)

second_sign : (t : Bool) (at b c : ℕ) (bytes : List ℕ) (p : Piece (Unit {0}) Token)
    → cond t (based_here at 2 1 bytes) (based_here at 16 0 (c ∷ bytes)) ≡ Ok p → Sound at (b ∷ c ∷ bytes) p
second_sign true at b c bytes p e = based_sound _ at _ b _ (c ∷ bytes) p e
second_sign false at b c bytes p e = based_sound _ at _ b _ (c ∷ bytes) p e

dollar_sound : (at b : ℕ) (bytes : List ℕ) (p : Piece (Unit {0}) Token) → dollar_here at bytes ≡ Ok p → Sound at (b ∷ bytes) p
dollar_sound at b [] p e = absurd (cc)
dollar_sound at b (c ∷ bytes) p e = second_sign (eqb c 36) at b c bytes p e

quoted_sound : (at size b : ℕ) (r : Result (List ℕ) ℕ) (bytes : List ℕ) (p : Piece (Unit {0}) Token) → quoted at size r ≡ Ok p → Sound at (b ∷ bytes) p
quoted_sound at size b (Ok text) bytes p e = token_sound kind.Quoted at (size + 1) b bytes p (any_string (b ∷ take (size + 1) bytes)) e
quoted_sound at size b (Err place) bytes p e = absurd (cc)

string_sound : (t : Bool) (at size b : ℕ) (r : Result (List ℕ) ℕ) (bytes : List ℕ) (p : Piece (Unit {0}) Token)
    → cond t (quoted at size r) (Err (OpenString at)) ≡ Ok p → Sound at (b ∷ bytes) p
string_sound true at size b r bytes p e = quoted_sound at size b r bytes p e
string_sound false at size b r bytes p e = absurd (cc)

character_by : (t : Bool) (at b c d : ℕ) (bytes : List ℕ) (p : Piece (Unit {0}) Token) → (t ≡ true → is_character c ≡ true)
    → cond t (token kind.Character at 2) (Err (BadCharacter at)) ≡ Ok p → Sound at (b ∷ c ∷ d ∷ bytes) p
character_by true at b c d bytes p is e = token_sound kind.Character at 2 b (c ∷ d ∷ bytes) p (is refl) e
character_by false at b c d bytes p is e = absurd (cc)

character_sound : (at b : ℕ) (bytes : List ℕ) (p : Piece (Unit {0}) Token) → character_here at bytes ≡ Ok p → Sound at (b ∷ bytes) p
character_sound at b [] p e = absurd (cc)
character_sound at b (c ∷ []) p e = absurd (cc)
character_sound at b (c ∷ d ∷ bytes) p e =
    character_by (is_character c && eqb d 39) at b c d bytes p (λ both. (and_parts (is_character c) (eqb d 39) both).0) e

symbol_sound : (at b : ℕ) (o : Option Symbol) (bytes : List ℕ) (p : Piece (Unit {0}) Token) → symbol_token at o ≡ Ok p → Sound at (b ∷ bytes) p
symbol_sound at b None bytes p e = absurd (cc)
symbol_sound at b (Some symbol) bytes p e = token_sound kind.Symbol at (length (symbol_text symbol) - 1) b bytes p (any_sign (b ∷ take (length (symbol_text symbol) - 1) bytes)) e

-- whichever test its first byte passes, the token of a piece begins there and says what has a text
piece_sound : (blank word digit quote apostrophe mark dollar : Bool) (at b : ℕ) (bytes : List ℕ) (p : Piece (Unit {0}) Token) → begins_word b ≡ word
    → cond blank (gap (prefix_len is_blank bytes)) (cond word (word_here at bytes) (cond digit (decimal_here at (b ∷ bytes))
    (cond quote (string_here at bytes) (cond apostrophe (character_here at bytes) (cond mark (gap (prefix_len is_comment_byte bytes))
    (cond dollar (dollar_here at bytes) (symbol_token at (symbol_first (b ∷ bytes))))))))) ≡ Ok p
    → Sound at (b ∷ bytes) p
piece_sound true word digit quote apostrophe mark dollar at b bytes p is e = gap_sound _ at (b ∷ bytes) p e
piece_sound false true digit quote apostrophe mark dollar at b bytes p is e = word_sound (ltb (prefix_len is_word_byte bytes) NAME_LIMIT) at b bytes p is refl e
piece_sound false false true quote apostrophe mark dollar at b bytes p is e = number_sound at _ b _ bytes p e
piece_sound false false false true apostrophe mark dollar at b bytes p is e = string_sound _ at _ b _ bytes p e
piece_sound false false false false true mark dollar at b bytes p is e = character_sound at b bytes p e
piece_sound false false false false false true dollar at b bytes p is e = gap_sound _ at (b ∷ bytes) p e
piece_sound false false false false false false true at b bytes p is e = dollar_sound at b bytes p e
piece_sound false false false false false false false at b bytes p is e = symbol_sound at b (symbol_first (b ∷ bytes)) bytes p e

step_sound : (known : Unit {0}) (at b : ℕ) (bytes : List ℕ) (p : Piece (Unit {0}) Token) → token_step known at (b ∷ bytes) ≡ Ok p → Sound at (b ∷ bytes) p
unfolding token_step
step_sound known at b bytes p e =
    piece_sound (is_blank b) (begins_word b) (is_digit_in 10 b) (eqb b 34) (eqb b 39) (eqb b 33) (eqb b 36) at b bytes p refl e

-- ---- the whole text

located : (whole : List ℕ) (at : ℕ) (tokens : List Token)
    → list_all (λ t. eqb t.start at && is_read (lexeme_of t.kind (take (t.end - t.start) (drop at whole)))) tokens ≡ true
    → list_all (λ t. is_read (lexeme_at whole t)) tokens ≡ true
located whole at [] all = refl
located whole at (t ∷ tokens) all =
    let parts = and_parts (eqb t.start at && is_read (lexeme_of t.kind (take (t.end - t.start) (drop at whole)))) _ all in
    let here = and_parts (eqb t.start at) (is_read (lexeme_of t.kind (take (t.end - t.start) (drop at whole)))) parts.0 in
    let there : at ≡ t.start = sym (eqb-true t.start at here.0) in
    and_from (is_read (lexeme_at whole t)) _ (subst (λ (n : ℕ). is_read (lexeme_of t.kind (take (t.end - t.start) (drop n whole))) ≡ true) there here.1)
    (located whole at tokens parts.1)

-- each token of the pieces of a text says a lexeme that has a text
pieces_sound : (known : Unit {0}) (at : ℕ) (bytes : List ℕ) (tokens : List Token) → Pieces token_step known at bytes tokens
    → (whole : List ℕ) → drop at whole ≡ bytes → list_all (λ t. is_read (lexeme_at whole t)) tokens ≡ true
pieces_sound known at _ _ none whole there = refl
pieces_sound known at _ _ (first {b = b} {bytes = bytes} {xs = xs} p is rest) whole there =
    let size : at + 1 + p.more ≡ at + suc p.more = omega arith in
    let onward : drop (at + 1 + p.more) whole ≡ drop p.more bytes =
    ap (λ (n : ℕ). drop n whole) size ∙ sym (drop-drop (suc p.more) at whole) ∙ ap (λ (ys : List ℕ). drop (suc p.more) ys) there in
    let sound : Sound at (drop at whole) p = subst (λ (ys : List ℕ). Sound at ys p) (sym there) (step_sound known at b bytes p is) in
    list_all-append (λ t. is_read (lexeme_at whole t)) p.gives xs
    ∙ and_from (list_all (λ t. is_read (lexeme_at whole t)) p.gives) _ (located whole at p.gives sound)
    (pieces_sound p.next (at + 1 + p.more) (drop p.more bytes) xs rest whole onward)

pub tokens_are_writable : TokensAreWritable
tokens_are_writable bytes tokens spelled = list_all-map is_read (lexeme_at bytes) tokens ∙ pieces_sound tt 0 bytes tokens spelled bytes refl
