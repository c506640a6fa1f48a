-- A list: entries one after another, up to a closing brace (125).
use Rattle.std.specs.Prelude.{ℕ, zero, suc, if◌then◌else◌, List, [], ◌∷◌}
use Rattle.source_reader.specs.declared.tokens.Token.{Token}
use Rattle.source_reader.specs.declared.tree.At.{At}
use Rattle.source_reader.specs.declared.tree.Entries.{Entries}
use Rattle.source_reader.specs.Plan.{Plan, done, refuse, ◌>>=◌, ◌>>◌}
use Rattle.source_reader.specs.Singles.{here, is_mark, any_token, symbol, key}

abbrev pub no_entries : {X : Type 0} → ℕ → Entries X
no_entries end = record { entries = []; end = end }

abbrev pub with_first : {X : Type 0} → At X → Entries X → Entries X
with_first x more = record { entries = x ∷ more.entries; end = more.end }

-- the brace ends the list; any other token begins an entry, which the piece reads on from there,
-- and then the others follow
abbrev pub entry_or_end : {X : Type 0} → (ℕ → Token → Plan X) → Plan (Entries X) → At Token
    → Plan (Entries X)
entry_or_end piece others t =
    if is_mark 125 t.what then done (no_entries t.at)
    else piece t.at t.what >>= λ x. others >>= λ more. done (with_first (here t.at x) more)

-- fewer than so many entries
unfoldable pub up_to : {X : Type 0} → (ℕ → Token → Plan X) → ℕ → Plan (Entries X)
up_to piece zero = refuse 0
up_to piece (suc n) = any_token >>= entry_or_end piece (up_to piece n)

-- more than any text has bytes
abbrev pub most : ℕ
most = 18446744073709551615

-- any number of entries: each takes a byte at least, so no text has as many as the bound
unfoldable pub many : {X : Type 0} → (ℕ → Token → Plan X) → Plan (Entries X)
many piece = up_to piece most

-- a list between braces; `{` is 123
unfoldable pub braced : {X : Type 0} → (ℕ → Token → Plan X) → Plan (Entries X)
braced piece = symbol 123 >> many piece

-- the same, under its word
unfoldable pub listing : {X : Type 0} → List ℕ → (ℕ → Token → Plan X) → Plan (Entries X)
listing word piece = key word >> braced piece
