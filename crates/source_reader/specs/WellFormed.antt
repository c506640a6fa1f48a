-- What holds of each source that has a text, and of each that can be compiled.
use Rattle.std.specs.Prelude.{◌==◌, ◌&&◌, Bool, true, nat_lt, List, length, IsTrue}
use Rattle.std.specs.List.{list_all}
use Rattle.scott_types.specs.Limits.{is_file_text}
use Rattle.scott_types.specs.Opcode.{opcode_of, uses}
use Rattle.source_reader.specs.declared.tree.At.{At}
use Rattle.source_reader.specs.declared.tree.Cond.{Cond}
use Rattle.source_reader.specs.declared.tree.Op.{Op}
use Rattle.source_reader.specs.declared.tree.Op.TheVariants.{With}
use Rattle.source_reader.specs.declared.tree.WordPart.{WordPart}
use Rattle.source_reader.specs.declared.tree.RoomPart.{RoomPart}
use Rattle.source_reader.specs.declared.tree.MessagePart.{MessagePart}
use Rattle.source_reader.specs.declared.tree.ItemPart.{ItemPart}
use Rattle.source_reader.specs.declared.tree.LinePart.{LinePart}
use Rattle.source_reader.specs.declared.tree.Source.{Source}

-- strings are texts of a database: at most 4,096 bytes, neither a return nor a grave accent

abbrev pub is_word_part : WordPart → Bool
is_word_part w = is_file_text w.verb && is_file_text w.noun

abbrev pub is_room_part : RoomPart → Bool
is_room_part r = is_file_text r.text

abbrev pub is_message_part : MessagePart → Bool
is_message_part m = is_file_text m.text

abbrev pub is_item_part : ItemPart → Bool
is_item_part i = is_file_text i.text

-- the code of a condition is one of the twenty
abbrev pub is_condition : Cond → Bool
is_condition c = nat_lt c.code 20

-- an opcode with brackets has just the parameters that it takes
abbrev pub is_opcode : Op → Bool
is_opcode (With n parameters) = length parameters == uses (opcode_of n)
is_opcode _ = true

abbrev pub all_of : {X : Type 0} → (X → Bool) → List (At X) → Bool
all_of test xs = list_all (λ x. test x.what) xs

abbrev pub is_line_part : LinePart → Bool
is_line_part l = all_of is_condition l.conds && (all_of is_opcode l.ops && is_file_text l.comment)

pub record WellFormed (tree : Source) : Type 0 where
  pub words : IsTrue (all_of is_word_part tree.words.entries)
  pub rooms : IsTrue (all_of is_room_part tree.rooms.entries)
  pub messages : IsTrue (all_of is_message_part tree.messages.entries)
  pub items : IsTrue (all_of is_item_part tree.items.entries)
  pub lines : IsTrue (all_of is_line_part tree.lines.entries)
