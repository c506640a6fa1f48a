-- What comes of a way: the texts and the ending of a walk, by whether it is dark and the room
-- beyond the exit.
use Rattle.std.specs.Prelude.{ℕ, ◌==◌, ◌&&◌, Bool, List, Option, Some, None, if◌then◌else◌}
use Rattle.scott_types.specs.declared.styles.Style.{Style}
use Rattle.scott_types.specs.declared.phrases.Phrase.TheVariants.{Moved, BrokenNeck, NoExitThere}
use Rattle.scott_types.specs.Phrase.{text_of, text_in}
use Rattle.scott_rules.specs.Opcodes.{by_fall}

abbrev pub way_text : Style → Bool → ℕ → List ℕ
way_text style dark room =
    if room == 0 then (if dark then text_in style BrokenNeck else text_in style NoExitThere)
    else text_of Moved

abbrev pub way_over : Bool → ℕ → Option ℕ
way_over dark room = if room == 0 && dark then Some by_fall else None
