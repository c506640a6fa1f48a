-- The entries of the lists. Each is read on from its first token, at its place.
use Rattle.std.specs.Prelude.{ℕ, ◌==◌, if◌then◌else◌, List, [], ◌∷◌, Option, Some, None, codes}
use Rattle.std.specs.Str.{bytes_eq}
use Rattle.scott_types.specs.Opcode.{opcode_of, uses}
use Rattle.source_reader.specs.declared.tokens.Token.{Token}
use Rattle.source_reader.specs.declared.tokens.Token.TheVariants as token
use Rattle.source_reader.specs.declared.titles.Title.{Title}
use Rattle.source_reader.specs.declared.tree.At.{At}
use Rattle.source_reader.specs.declared.tree.Ref.{Ref}
use Rattle.source_reader.specs.declared.tree.Head.{Head}
use Rattle.source_reader.specs.declared.tree.Head.TheVariants as head
use Rattle.source_reader.specs.declared.tree.Cond.{Cond}
use Rattle.source_reader.specs.declared.tree.Op.{Op}
use Rattle.source_reader.specs.declared.tree.Op.TheVariants as op
use Rattle.source_reader.specs.declared.tree.WordPart.{WordPart}
use Rattle.source_reader.specs.declared.tree.RoomPart.{RoomPart}
use Rattle.source_reader.specs.declared.tree.MessagePart.{MessagePart}
use Rattle.source_reader.specs.declared.tree.ItemPart.{ItemPart}
use Rattle.source_reader.specs.declared.tree.LinePart.{LinePart}
use Rattle.source_reader.specs.Plan.{Plan, done, refuse, ◌>>=◌, ◌>>◌}
use Rattle.source_reader.specs.Names.{condition_code, opcode_number, is_name}
use Rattle.source_reader.specs.Singles.{here, is_mark, is_word, any_token, symbol, number, string, reference, item_place, vocab_word}
use Rattle.source_reader.specs.Lists.{braced}

-- ---- a name and a text

abbrev pub title_of : ℕ → Token → Plan Title
title_of at (token.Quoted text) = done (record { name = None; text = text })
title_of at (token.Word w) =
    if is_name w then (string >>= λ text. done (record { name = Some (here at w); text = text }))
    else refuse at
title_of at _ = refuse at

-- a name or none, and a string
unfoldable pub titled : Plan Title
titled = any_token >>= λ t. title_of t.at t.what

-- ---- words, rooms, messages and items; `;` is 59, `:` is 58, `,` is 44

abbrev pub word_part : ℕ → Token → Plan WordPart
word_part at (token.Quoted verb) =
    string >>= λ noun. symbol 59 >> done (record { verb = verb; noun = noun })
word_part at _ = refuse at

unfoldable pub next_reference : Plan (At Ref)
next_reference = symbol 44 >> reference

-- the six exits, and what ends them
unfoldable pub exits : Plan (List (At Ref))
exits = do
  north ← reference
  south ← next_reference
  east ← next_reference
  west ← next_reference
  up ← next_reference
  down ← next_reference
  symbol 59 >> done (north ∷ south ∷ east ∷ west ∷ up ∷ down ∷ [])

unfoldable pub room_rest : Plan RoomPart
room_rest = do
  name ← titled
  ways ← symbol 58 >> exits
  done (record { name = name.name; text = name.text; exits = ways })

abbrev pub room_part : ℕ → Token → Plan RoomPart
room_part at t = if is_word (codes "room") t then room_rest else refuse at

unfoldable pub message_rest : Plan MessagePart
message_rest = titled >>= λ name. symbol 59 >> done (record { name = name.name; text = name.text })

abbrev pub message_part : ℕ → Token → Plan MessagePart
message_part at t = if is_word (codes "message") t then message_rest else refuse at

unfoldable pub item_rest : Plan ItemPart
item_rest = do
  name ← titled
  where_it_is ← symbol 58 >> item_place
  symbol 59 >> done (record { name = name.name; text = name.text; place = where_it_is })

abbrev pub item_part : ℕ → Token → Plan ItemPart
item_part at t = if is_word (codes "item") t then item_rest else refuse at

-- ---- conditions

abbrev pub condition_of : ℕ → Option ℕ → Plan Cond
condition_of at (Some code) =
    reference >>= λ arg. symbol 59 >> done (record { code = code; arg = arg })
condition_of at None = refuse at

abbrev pub condition : ℕ → Token → Plan Cond
condition at (token.Word w) = condition_of at (condition_code w)
condition at _ = refuse at

-- ---- opcodes; `(` is 40, `)` is 41

-- one parameter or two, as many as the opcode takes
unfoldable pub one_parameter : ℕ → Plan Op
one_parameter n = reference >>= λ p. symbol 41 >> symbol 59 >> done (op.With n (p ∷ []))

unfoldable pub two_parameters : ℕ → Plan Op
two_parameters n =
    reference >>= λ p. next_reference >>= λ q. symbol 41 >> symbol 59
    >> done (op.With n (p ∷ q ∷ []))

-- after the bracket at this place; an opcode without parameters has none
abbrev pub parameters : ℕ → ℕ → Plan Op
parameters n at =
    if uses (opcode_of n) == 1 then one_parameter n
    else if uses (opcode_of n) == 2 then two_parameters n else refuse at

abbrev pub after_name : ℕ → ℕ → Token → Plan Op
after_name n at t =
    if is_mark 59 t then done (op.Named n) else if is_mark 40 t then parameters n at else refuse at

unfoldable pub named_opcode : ℕ → Plan Op
named_opcode n = any_token >>= λ t. after_name n t.at t.what

abbrev pub opcode_named : ℕ → Option ℕ → Plan Op
opcode_named at (Some n) = named_opcode n
opcode_named at None = refuse at

unfoldable pub message_said : Plan Op
message_said = reference >>= λ m. symbol 59 >> done (op.Say m)

unfoldable pub opcode_numbered : Plan Op
opcode_numbered = number >>= λ n. symbol 59 >> done (op.Number n)

abbrev pub opcode : ℕ → Token → Plan Op
opcode at (token.Word w) =
    if bytes_eq w (codes "say") then message_said
    else if bytes_eq w (codes "op") then opcode_numbered
    else opcode_named at (opcode_number w)
opcode at _ = refuse at

-- ---- lines; `{` is 123

unfoldable pub command_head : Plan Head
command_head = vocab_word >>= λ verb. vocab_word >>= λ noun. done (head.Line verb noun)

unfoldable pub automatic_head : Plan Head
automatic_head = number >>= λ n. done (head.Auto n)

unfoldable pub line_head : ℕ → Token → Plan Head
line_head at t =
    if is_word (codes "line") t then command_head
    else if is_word (codes "auto") t then automatic_head
    else if is_word (codes "also") t then done head.Also
    else refuse at

abbrev pub comment_of : ℕ → Token → Plan (List ℕ)
comment_of at (token.Quoted text) = symbol 59 >> done text
comment_of at (token.Mark b) = if b == 59 then done [] else refuse at
comment_of at _ = refuse at

-- a comment or none, and what ends the line
unfoldable pub comment : Plan (List ℕ)
comment = any_token >>= λ t. comment_of t.at t.what

abbrev pub line_part : ℕ → Token → Plan LinePart
line_part at t = do
  first ← line_head at t
  conds ← braced condition
  ops ← braced opcode
  text ← comment
  done (record { head = first; conds = conds.entries; ops = ops.entries; comment = text })
