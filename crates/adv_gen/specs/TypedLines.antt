-- The lines of play of a game that is made.
use Rattle.std.specs.Prelude.{ℕ, ◌+◌, ◌*◌, ◌%◌, List, [], ◌∷◌, ◌++◌, map, slice_index_or, codes}
use Rattle.std.specs.Char.{to_ascii_lowercase}
use Rattle.adv_gen.specs.declared.typed_lines.Form.{Form}
use Rattle.adv_gen.specs.declared.typed_lines.Form.TheVariants.{Direction, GetItem, DropAll, VerbAndItem}
use Rattle.rand_pcg.specs.Lcg.{Lcg}
use Rattle.adv_gen.specs.Picks.{pick, picked}
use Rattle.adv_gen.specs.Vocabulary.{verb, noun, thing_noun}

-- of every four lines
abbrev pub forms : List Form
forms = Direction ∷ GetItem ∷ DropAll ∷ VerbAndItem ∷ []

abbrev pub form_of : ℕ → Form
form_of j = slice_index_or forms (j % 4) VerbAndItem

-- the words of a line
abbrev pub command : Form → ℕ → Lcg → List ℕ
command Direction size generator = noun (1 + pick generator 0 6)
command GetItem size generator = codes "get " ++ thing_noun size (pick generator 0 (2 * size))
command DropAll size generator = codes "drop all"
command VerbAndItem size generator =
    verb (3 + pick generator 0 7) ++ codes " " ++ thing_noun size (pick generator 1 (2 * size))

abbrev pub command_picks : Form → ℕ
command_picks Direction = 1
command_picks GetItem = 1
command_picks DropAll = 0
command_picks VerbAndItem = 2

-- in lower case
abbrev pub typed_line : ℕ → ℕ → Lcg → List ℕ
typed_line size j generator = map to_ascii_lowercase (command (form_of j) size generator)

abbrev pub line_picks : ℕ → ℕ
line_picks j = command_picks (form_of j)

abbrev pub typed_lines : ℕ → Lcg → List (List ℕ)
typed_lines size generator = picked line_picks (typed_line size) (10 * size) generator
