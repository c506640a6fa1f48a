-- A text of tokens: each is written after nothing, a space or a line feed.
use Rattle.std.specs.Prelude.{ℕ, pos, List, [], ◌∷◌, ◌++◌, flat_map}
use Rattle.adv_io.specs.Text.{newline, space}
use Rattle.adv_text.specs.Writing.{number_text, quoted_text}
use Rattle.source_reader.specs.declared.tokens.Token.{Token}
use Rattle.source_reader.specs.declared.tokens.Token.TheVariants as token

-- what stands before a token
pub data Lead : Type 0 where
  joined : Lead
  spaced : Lead
  below : Lead

abbrev pub lead_text : Lead → List ℕ
lead_text joined = []
lead_text spaced = space ∷ []
lead_text below = newline ∷ []

-- a token, and what stands before it
pub record Chunk : Type 0 where
  pub lead : Lead
  pub token : Token

abbrev pub chunk : Lead → Token → Chunk
chunk lead token = record { lead = lead; token = token }

-- the bytes of a token
abbrev pub token_text : Token → List ℕ
token_text (token.Number z) = number_text z
token_text (token.Quoted text) = quoted_text text
token_text (token.Word word) = word
token_text (token.Mark b) = b ∷ []
token_text token.End = []

abbrev pub chunk_text : Chunk → List ℕ
chunk_text c = lead_text c.lead ++ token_text c.token

-- the bytes of tokens, one after another
abbrev pub text_of : List Chunk → List ℕ
text_of chunks = flat_map chunk_text chunks

-- ---- chunks of one token

abbrev pub word : Lead → List ℕ → Chunk
word lead bytes = chunk lead (token.Word bytes)

abbrev pub number : Lead → ℕ → Chunk
number lead n = chunk lead (token.Number (pos n))

abbrev pub quoted : Lead → List ℕ → Chunk
quoted lead text = chunk lead (token.Quoted text)

-- ---- marks: `;` is 59, `,` is 44, `:` is 58, `(` is 40, `)` is 41, `{` is 123, `}` is 125

abbrev pub mark : Lead → ℕ → Chunk
mark lead b = chunk lead (token.Mark b)

abbrev pub semicolon : Chunk
semicolon = mark joined 59

-- tokens after `, ` each
abbrev pub more_listed : List Token → List Chunk
more_listed tokens = flat_map (λ t. mark joined 44 ∷ chunk spaced t ∷ []) tokens

-- tokens with `, ` between them, the first one with this lead
abbrev pub listed : Lead → List Token → List Chunk
listed lead [] = []
listed lead (t ∷ tokens) = chunk lead t ∷ more_listed tokens

-- chunks between braces on one line, and lines between braces
abbrev pub braced : List Chunk → List Chunk
braced chunks = mark spaced 123 ∷ (chunks ++ mark spaced 125 ∷ [])

abbrev pub section : Lead → List ℕ → List Chunk → List Chunk
section lead name lines = word lead name ∷ mark spaced 123 ∷ (lines ++ mark below 125 ∷ [])
