-- What each entry of a list, and the trailer, begin with.
use Rattle.std.proofs.Common.{ℕ, refl}
use Rattle.adv_text.specs.Reading.{number_at, quoted_at}
use Rattle.scott_format.specs.declared.stops.Due.TheVariants.{Number, Text}
use Rattle.scott_format.specs.Sections.{sizes, head, action, word, room, string, item, trailer}
use Rattle.scott_format.specs.Pieces.{IsDue}

pub head_due : IsDue Number head
unfolding head sizes number_at
head_due at = refl

pub action_due : (k : ℕ) → IsDue Number (action k)
unfolding action number_at
action_due k at = refl

pub word_due : IsDue Text word
unfolding word quoted_at
word_due at = refl

pub room_due : IsDue Number room
unfolding room number_at
room_due at = refl

pub string_due : IsDue Text string
unfolding quoted_at
string_due at = refl

pub item_due : IsDue Text item
unfolding item quoted_at
item_due at = refl

pub trailer_due : IsDue Number trailer
unfolding trailer number_at
trailer_due at = refl
