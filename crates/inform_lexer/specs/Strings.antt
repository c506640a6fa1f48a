-- What stands between the quotes of a string, and what it says.
use Rattle.std.specs.Prelude.{ℕ, ◌==◌, ◌&&◌, ◌+◌, nat_le, Bool, true, false, not, if◌then◌else◌, List, [], ◌∷◌, take, replicate, Result, Ok, Err}
use Rattle.std.specs.List.{list_any, prefix_len}
use Rattle.std.specs.Str.Parse.{digits_value}
use Rattle.inform_tree.specs.Words.{is_byte}
use Rattle.inform_lexer.specs.Pieces.{Piece, cut}
use Rattle.inform_lexer.specs.Bytes.{is_blank, is_break, is_digit_in, is_plain}

-- A piece, or the place of the byte that can't stand there. What is known at a byte is whether a
-- caret stands directly before it.
abbrev pub StringStep : Type 0
StringStep = Result (Piece Bool ℕ) ℕ

-- a space, and no blank follows it
abbrev pub is_lone_space : ℕ → List ℕ → Bool
is_lone_space b [] = b == 32
is_lone_space b (c ∷ bytes) = b == 32 && not (is_blank c)

-- so many times this byte
abbrev pub says : ℕ → ℕ → ℕ → StringStep
says count byte more = Ok (record { gives = replicate count byte; more = more; next = false })

-- a run of blanks with a break in it is nothing after a caret, and else one space; any other blank
-- is a space
abbrev pub spaces_of : Bool → Bool → ℕ → ℕ
spaces_of caret broken size = if broken then (if caret then 0 else 1) else size

abbrev pub run_here : Bool → ℕ → List ℕ → StringStep
run_here caret b bytes =
    let more = prefix_len is_blank bytes in
    says (spaces_of caret (list_any is_break (b ∷ take more bytes)) (more + 1)) 32 more

-- after a first `@` (64): a second one, and all digits that follow, which are the byte of that
-- value
abbrev pub escape_here : ℕ → List ℕ → StringStep
escape_here at [] = Err at
escape_here at (b ∷ bytes) =
    let size = prefix_len (is_digit_in 10) bytes in
    let value = digits_value 10 (take size bytes) in
    if b == 64 && (nat_le 1 size && is_byte value) then says 1 value (1 + size) else Err at

-- the first piece: blanks, `^` (94), which is a line feed, `~` (126), which is a quote, an escape,
-- or a byte that stands for itself
unfoldable pub string_step : Bool → ℕ → List ℕ → StringStep
string_step caret at [] = Err at
string_step caret at (b ∷ bytes) =
    if is_blank b then run_here caret b bytes else
    if b == 94 then Ok (record { gives = 10 ∷ []; more = 0; next = true }) else
    if b == 126 then says 1 34 0 else
    if b == 64 then escape_here at bytes else
    if is_plain b then says 1 b 0 else Err at

-- what all of it says, or the place of the first byte that can't stand there
unfoldable pub inside_said : List ℕ → Result (List ℕ) ℕ
inside_said bytes = cut string_step 0 false 0 bytes
