-- An entry of a list is steady: all that it consists of must be there.
use Rattle.std.specs.Prelude.{ℕ}
use Rattle.scott_format.specs.Sections.{sizes, play_numbers, closing, head, action, word, room, string, item}
use Rattle.scott_format.specs.Pieces.{IsSteady}

pub action_steady : (k : ℕ) → IsSteady (action k)
unfolding action
action_steady k = λ a. (tt, λ b. (tt, λ c. (tt, λ d. (tt, λ e. (tt, λ f. (tt, λ g. (tt, λ h. (tt, tt))))))))

pub word_steady : (k : ℕ) → IsSteady word
unfolding word
word_steady k = λ verb noun. tt

pub room_steady : (k : ℕ) → IsSteady room
unfolding room
room_steady k = λ a b c d e f text. tt

pub string_steady : (k : ℕ) → IsSteady string
string_steady k = λ text. tt

pub item_steady : (k : ℕ) → IsSteady item
unfolding item
item_steady k = λ text place. tt

pub head_steady : (k : ℕ) → IsSteady head
unfolding head sizes play_numbers closing
head_steady k = λ unused items. (tt, λ actions. (tt, λ words. (tt, λ rooms. (tt, λ carry start. (tt, λ treasures length. (tt, λ light. (tt, λ messages. (tt, λ home. tt))))))))
