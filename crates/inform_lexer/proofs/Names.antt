-- A word that isn't reserved is a name; and what is reserved has the length of a reserved word with
-- its first byte.
use Rattle.std.specs.Prelude.{nat_eq, slice_index}
use Rattle.std.specs.List.{filter, list_any}
use Rattle.std.proofs.Common.{◌≡◌, ℕ, Bool, true, false, cond, List, [], ◌∷◌, length, map, Option, Some, None, refl, sym, ap, subst, ◌∙◌, ◌||◌}
use Rattle.std.specs.Cmp.Lexicographic.{pointwise}
use Rattle.std.proofs.lemmas.Bool.{both_ways, eq-eqb}
use Rattle.std.proofs.lemmas.Slice.Eq.{bytes_eq-Decides}
use Rattle.inform_tree.specs.Words.{is_reserved}
use Rattle.inform_lexemes.specs.declared.keywords.Keyword.{Keyword}
use Rattle.inform_lexemes.specs.declared.keywords.Keyword.TheVariants as k
use Rattle.inform_lexemes.specs.declared.keywords.TheConstants.{KEYWORDS}
use Rattle.inform_lexemes.specs.Keywords.{keyword_text, keyword_spelled}
use Rattle.inform_lexemes.specs.Lexemes.{Reserved, Name, word_lexeme, word_or_name}
use Rattle.inform_lexer.specs.Reserved.{reserved_sizes}
use Rattle.inform_lexer.specs.Spans.{word_said}
use Rattle.std.specs.Char.{to_ascii_lowercase}
use Rattle.std.proofs.lemmas.List.{length-map}
use Rattle.inform_tree.specs.declared.words.TheConstants.{RESERVED}
use Rattle.inform_lexer.proofs.LongestSymbol.{found_passes}

-- each word of the grammar is reserved, and so no name

-- the text of each is one of the reserved words
keyword_is_reserved : (keyword : Keyword) → is_reserved (keyword_text keyword) ≡ true
keyword_is_reserved k.Array = refl
keyword_is_reserved k.Break = refl
keyword_is_reserved k.Char = refl
keyword_is_reserved k.Constant = refl
keyword_is_reserved k.Continue = refl
keyword_is_reserved k.Default = refl
keyword_is_reserved k.Do = refl
keyword_is_reserved k.Else = refl
keyword_is_reserved k.For = refl
keyword_is_reserved k.Global = refl
keyword_is_reserved k.If = refl
keyword_is_reserved k.NewLine = refl
keyword_is_reserved k.Print = refl
keyword_is_reserved k.Quit = refl
keyword_is_reserved k.Random = refl
keyword_is_reserved k.Read = refl
keyword_is_reserved k.Return = refl
keyword_is_reserved k.Rfalse = refl
keyword_is_reserved k.Rtrue = refl
keyword_is_reserved k.Switch = refl
keyword_is_reserved k.To = refl
keyword_is_reserved k.Until = refl
keyword_is_reserved k.While = refl

spelled_word : (word : List ℕ) (keyword : Keyword) → keyword_spelled word ≡ Some keyword → word ≡ keyword_text keyword
unfolding keyword_spelled
spelled_word word keyword e =
    (bytes_eq-Decides word (keyword_text keyword)).0 (found_passes (λ (other : Keyword). pointwise nat_eq word (keyword_text other)) KEYWORDS keyword e)

no_keyword : (o : Option Keyword) (word : List ℕ) → keyword_spelled word ≡ o → is_reserved word ≡ false → o ≡ None
unfolding keyword_spelled
no_keyword None word is free = refl
no_keyword (Some keyword) word is free =
    let same : word ≡ keyword_text keyword = spelled_word word keyword is in
    absurd (both_ways (is_reserved word) free (ap is_reserved same ∙ keyword_is_reserved keyword))

-- a word that isn't reserved is a name
pub free_word : (word : List ℕ) → is_reserved word ≡ false → word_lexeme word ≡ Name word
unfolding word_lexeme
free_word word free =
    ap (λ (o : Option Keyword). word_or_name o word) (no_keyword (keyword_spelled word) word refl free)
    ∙ ap (λ (t : Bool). cond t Reserved (Name word)) free

-- what doesn't look reserved, where all that is does, is a name
pub unseen_word : (word : List ℕ) (seen : Bool) → (is_reserved word ≡ true → seen ≡ true) → seen ≡ false → word_lexeme word ≡ Name word
unseen_word word seen all none = free_word word (by (is_reserved word) refl)
  where
    by : (t : Bool) → is_reserved word ≡ t → is_reserved word ≡ false
    by true e = absurd (both_ways seen none (all e))
    by false e = e

-- ---- a word among others has the length of one of those with its first byte

-- the lengths of the words that begin with a byte
abbrev sizes_among : ℕ → List (List ℕ) → List ℕ
sizes_among b words = map length (filter (λ other. nat_eq b (slice_index other 0)) words)

abbrev pub has_size : ℕ → List ℕ → Bool
has_size n sizes = list_any (λ size. nat_eq n size) sizes

or_true : (t : Bool) → (t || true) ≡ true
or_true true = refl
or_true false = refl

-- a word more, where the length is found among the others, and where it is its own
more_by : (t : Bool) (n : ℕ) (other : List ℕ) (words : List (List ℕ)) → has_size n (map length words) ≡ true → has_size n (map length (cond t (other ∷ words) words)) ≡ true
more_by true n other words e = ap (λ found. nat_eq n (length other) || found) e ∙ or_true (nat_eq n (length other))
more_by false n other words e = e

own_by : (t : Bool) (word : List ℕ) (words : List (List ℕ)) → t ≡ true → has_size (length word) (map length (cond t (word ∷ words) words)) ≡ true
own_by true word words e = ap (λ same. same || has_size (length word) (map length words)) (eq-eqb (length word) (length word) refl)
own_by false word words e = absurd (cc)

-- a word that is among others has the length of one of them with its first byte
among_looks : (word : List ℕ) (words : List (List ℕ)) → list_any (pointwise nat_eq word) words ≡ true
    → has_size (length word) (sizes_among (slice_index word 0) words) ≡ true
among_looks word [] e = absurd (cc)
among_looks word (other ∷ words) e = by (pointwise nat_eq word other) refl e (among_looks word words)
  where
    by : (same : Bool) → pointwise nat_eq word other ≡ same → (same || list_any (pointwise nat_eq word) words) ≡ true
        → (list_any (pointwise nat_eq word) words ≡ true → has_size (length word) (sizes_among (slice_index word 0) words) ≡ true)
        → has_size (length word) (sizes_among (slice_index word 0) (other ∷ words)) ≡ true
    by true s e rest =
        subst (λ (other : List ℕ). has_size (length word) (sizes_among (slice_index word 0) (other ∷ words)) ≡ true)
        ((bytes_eq-Decides word other).0 s)
        (own_by (nat_eq (slice_index word 0) (slice_index word 0)) word (filter (λ other. nat_eq (slice_index word 0) (slice_index other 0)) words)
        (eq-eqb (slice_index word 0) (slice_index word 0) refl))
    by false s e rest =
        more_by (nat_eq (slice_index word 0) (slice_index other 0)) (length word) other
        (filter (λ other. nat_eq (slice_index word 0) (slice_index other 0)) words) (rest e)

pub reserved_looks : (word : List ℕ) → is_reserved word ≡ true → has_size (length word) (reserved_sizes (slice_index word 0)) ≡ true
unfolding reserved_sizes
reserved_looks word e = among_looks word (map (λ w. w.now) RESERVED) e

-- the same of a word as it is written
pub said_looks : (word : List ℕ) → is_reserved (word_said word) ≡ true
    → has_size (length word) (reserved_sizes (to_ascii_lowercase (slice_index word 0))) ≡ true
said_looks [] e = absurd (cc)
said_looks (b ∷ bs) e =
    subst (λ (n : ℕ). has_size n (reserved_sizes (to_ascii_lowercase b)) ≡ true)
    (length-map (b ∷ bs) to_ascii_lowercase) (reserved_looks (word_said (b ∷ bs)) e)

-- ---- a word of the grammar is spelled in lower case

-- the text of each stays the same where its bytes are turned into lower case
lower_case : (keyword : Keyword) → word_said (keyword_text keyword) ≡ keyword_text keyword
lower_case k.Array = refl
lower_case k.Break = refl
lower_case k.Char = refl
lower_case k.Constant = refl
lower_case k.Continue = refl
lower_case k.Default = refl
lower_case k.Do = refl
lower_case k.Else = refl
lower_case k.For = refl
lower_case k.Global = refl
lower_case k.If = refl
lower_case k.NewLine = refl
lower_case k.Print = refl
lower_case k.Quit = refl
lower_case k.Random = refl
lower_case k.Read = refl
lower_case k.Return = refl
lower_case k.Rfalse = refl
lower_case k.Rtrue = refl
lower_case k.Switch = refl
lower_case k.To = refl
lower_case k.Until = refl
lower_case k.While = refl

-- so what is spelled as one says it
pub spelled_says : (word : List ℕ) (keyword : Keyword) → keyword_spelled word ≡ Some keyword
    → keyword_spelled (word_said word) ≡ Some keyword
spelled_says word keyword is =
    let same : word ≡ keyword_text keyword = spelled_word word keyword is in
    let said : word_said word ≡ word = ap word_said same ∙ lower_case keyword ∙ sym same in
    ap keyword_spelled said ∙ is
