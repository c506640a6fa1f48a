-- The plans of one thing each: a number, a string, a name, a mark.
use Rattle.std.specs.Prelude.{ℕ, ◌==◌, ◌||◌, Bool, true, false, if◌then◌else◌, List, ℤ, codes}
use Rattle.std.specs.Str.{bytes_eq}
use Rattle.source_reader.specs.declared.tokens.Token.{Token}
use Rattle.source_reader.specs.declared.tokens.Token.TheVariants as token
use Rattle.source_reader.specs.declared.tree.At.{At}
use Rattle.source_reader.specs.declared.tree.Ref.{Ref}
use Rattle.source_reader.specs.declared.tree.Ref.TheVariants as ref
use Rattle.source_reader.specs.declared.tree.Spot.{Spot as Place}
use Rattle.source_reader.specs.declared.tree.Spot.TheVariants as place
use Rattle.source_reader.specs.declared.tree.Vocab.{Vocab}
use Rattle.source_reader.specs.declared.tree.Vocab.TheVariants as vocab
use Rattle.source_reader.specs.Plan.{Plan, done, refuse, next, ◌>>=◌}
use Rattle.source_reader.specs.Names.{is_name}

abbrev pub here : {X : Type 0} → ℕ → X → At X
here at x = record { at = at; what = x }

-- ---- tests of a token

abbrev pub is_mark : ℕ → Token → Bool
is_mark b (token.Mark c) = c == b
is_mark b _ = false

abbrev pub is_word : List ℕ → Token → Bool
is_word word (token.Word w) = bytes_eq w word
is_word word _ = false

abbrev pub is_end : Token → Bool
is_end token.End = true
is_end _ = false

-- ---- any token, and a token that is known

unfoldable pub any_token : Plan (At Token)
any_token = next (λ at t. done (here at t))

-- the token passes the test, or it can't stand there
abbrev pub only : (Token → Bool) → At Token → Plan (Unit {0})
only test t = if test t.what then done tt else refuse t.at

-- a mark of the language: `{ } : , ; ( )`
unfoldable pub symbol : ℕ → Plan (Unit {0})
symbol b = any_token >>= only (is_mark b)

-- a mark that mostly stands right after what it ends: `;`, `,` or `)`
abbrev pub is_end_mark : ℕ → Bool
is_end_mark b = b == 59 || (b == 44 || b == 41)

-- a word of the language
unfoldable pub key : List ℕ → Plan (Unit {0})
key word = any_token >>= only (is_word word)

-- the end of the text
unfoldable pub end_of_text : Plan (Unit {0})
end_of_text = any_token >>= only is_end

-- ---- numbers, strings and names

abbrev pub number_of : ℕ → Token → Plan (At ℤ)
number_of at (token.Number z) = done (here at z)
number_of at _ = refuse at

unfoldable pub number : Plan (At ℤ)
number = any_token >>= λ t. number_of t.at t.what

abbrev pub string_of : ℕ → Token → Plan (List ℕ)
string_of at (token.Quoted text) = done text
string_of at _ = refuse at

unfoldable pub string : Plan (List ℕ)
string = any_token >>= λ t. string_of t.at t.what

-- a number, or a name
abbrev pub reference_of : ℕ → Token → Plan (At Ref)
reference_of at (token.Number z) = done (here at (ref.Number z))
reference_of at (token.Word w) = if is_name w then done (here at (ref.Name w)) else refuse at
reference_of at _ = refuse at

unfoldable pub reference : Plan (At Ref)
reference = any_token >>= λ t. reference_of t.at t.what

-- a room, `carried` or `nowhere`
abbrev pub place_of : ℕ → Token → Plan (At Place)
place_of at (token.Number z) = done (here at (place.Room (ref.Number z)))
place_of at (token.Word w) =
    if bytes_eq w (codes "carried") then done (here at place.Carried)
    else if bytes_eq w (codes "nowhere") then done (here at place.Nowhere)
    else if is_name w then done (here at (place.Room (ref.Name w))) else refuse at
place_of at _ = refuse at

unfoldable pub item_place : Plan (At Place)
item_place = any_token >>= λ t. place_of t.at t.what

-- a verb or a noun: a number, or a string
abbrev pub vocab_of : ℕ → Token → Plan (At Vocab)
vocab_of at (token.Number z) = done (here at (vocab.Number z))
vocab_of at (token.Quoted text) = done (here at (vocab.Exact text))
vocab_of at _ = refuse at

unfoldable pub vocab_word : Plan (At Vocab)
vocab_word = any_token >>= λ t. vocab_of t.at t.what
