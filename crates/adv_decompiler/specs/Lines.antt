-- The text of an action, on one line.
use Rattle.std.specs.Prelude.{ℕ, ◌==◌, if◌then◌else◌, List, [], ◌∷◌, ◌++◌, flat_map, codes}
use Rattle.scott_types.specs.declared.parts.Action.{Action}
use Rattle.scott_types.specs.Action.{verb_of, noun_of, argument_of, condition_code}
use Rattle.scott_types.specs.Condition.{condition_of, names_of}
use Rattle.scott_types.specs.Opcode.{opcode_of}
use Rattle.scott_types.specs.Opcode.{parameters_of as kinds_of}
use Rattle.scott_types.specs.declared.parameters.Parameter.{Parameter}
use Rattle.source_reader.specs.declared.tokens.Token.{Token}
use Rattle.source_reader.specs.Names.{condition_word, opcode_word}
use Rattle.adv_decompiler.specs.declared.sizes.Sizes.{Sizes}
use Rattle.adv_decompiler.specs.Layout.{Chunk, joined, spaced, below, chunk, word, number, quoted, mark, semicolon, listed, braced}
use Rattle.adv_decompiler.specs.References.{message_token, thing_token}
use Rattle.adv_decompiler.specs.Written.{Piece, says, numbered, named, bracketed, written}

-- the head of a vocabulary
abbrev pub head : ℕ → List Chunk
head vocab =
    if vocab == 0 then word below (codes "also") ∷ []
    else if verb_of vocab == 0 then word below (codes "auto") ∷ number spaced (noun_of vocab) ∷ []
    else word below (codes "line") ∷ number spaced (verb_of vocab) ∷ number spaced (noun_of vocab)
    ∷ []

-- a condition, with what its argument names
abbrev pub condition : Sizes → ℕ → List Chunk
condition sizes c =
    word spaced (condition_word (condition_code c))
    ∷ chunk spaced (thing_token sizes (names_of (condition_of (condition_code c))) (argument_of c))
    ∷ semicolon ∷ []

-- the tokens of parameters, each with what it names
abbrev pub parameter_tokens : Sizes → List Parameter → List ℕ → List Token
parameter_tokens sizes [] parameters = []
parameter_tokens sizes (kind ∷ kinds) [] = []
parameter_tokens sizes (kind ∷ kinds) (p ∷ parameters) =
    thing_token sizes kind p ∷ parameter_tokens sizes kinds parameters

abbrev pub opcode : Sizes → Piece → List Chunk
opcode sizes (says message) =
    word spaced (codes "say") ∷ chunk spaced (message_token sizes message) ∷ semicolon ∷ []
opcode sizes (numbered n) = word spaced (codes "op") ∷ number spaced n ∷ semicolon ∷ []
opcode sizes (named n) = word spaced (opcode_word n) ∷ semicolon ∷ []
opcode sizes (bracketed n parameters) =
    word spaced (opcode_word n) ∷ mark joined 40
    ∷ (listed joined (parameter_tokens sizes (kinds_of (opcode_of n)) parameters) ++ mark joined 41
    ∷ semicolon ∷ [])

-- the line of an action, and its comment
abbrev pub action_line : Sizes → ℕ → Action × List ℕ → List Chunk
action_line sizes k line =
    head line.0.vocab
    ++ (braced (flat_map (condition sizes) (written line.0).conds)
    ++ (braced (flat_map (opcode sizes) (written line.0).ops)
    ++ quoted spaced line.1 ∷ semicolon ∷ []))
