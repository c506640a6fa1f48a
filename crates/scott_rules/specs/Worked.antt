-- Worked plays: what the rules give on small games.
use Prim.Native.String.{String}
use Rattle.std.specs.Prelude.{ℕ, ◌≡◌, true, false, List, [], ◌∷◌, ◌++◌, flat_map, codes, ℤ, pos, negsuc, Some, None}
use Rattle.scott_types.specs.declared.commands.Column.TheVariants.{Verbs}
use Rattle.scott_types.specs.declared.commands.Heard.TheVariants.{Unknown, Command}
use Rattle.scott_types.specs.declared.endings.Ran.TheVariants.{Not, Passed}
use Rattle.scott_types.specs.declared.endings.Position.{Position}
use Rattle.scott_types.specs.declared.endings.Position.TheVariants.{Line, Draw, Over}
use Rattle.scott_types.specs.declared.styles.Style.{Style}
use Rattle.scott_types.specs.State.{start, place_of, flag_of, lamp, out_flag}
use Rattle.scott_types.specs.Style.{in_style, plain}
use Rattle.adv_io.specs.Steps.{Drew, Noted, Step, Took, Traced, noted, said_steps}
use Rattle.scott_rules.specs.Words.{which}
use Rattle.scott_rules.specs.Commands.{heard}
use Rattle.scott_rules.specs.Actions.{action_result}
use Rattle.scott_rules.specs.Play.{PlayEnd, go, play}
use Rattle.scott_rules.specs.Games.{hill, full_hands, full_counter, odd_message, cell, chance, last_pin, no_treasure, one_treasure, lamp_for, nightfall, not_carried, no_parameter}

-- ---- how a play is written down

-- lines, as they are typed
abbrev pub typing : List String → List (List ℕ)
typing [] = []
typing (text ∷ texts) = codes text ∷ typing texts

abbrev pub text : String → List Step
text s = said_steps (codes s)

abbrev pub typed : String → List Step
typed s = Took (codes s) ∷ []

abbrev pub drew : ℕ → List Step
drew draw = Drew draw ∷ []

abbrev pub tries : ℕ → List Step
tries line = Noted line ∷ []

abbrev pub ask : List Step
ask = text "\nTell me what to do ? "

-- the hall, with what is seen in it
abbrev pub hall : String → List Step
hall items =
    text "I'm in a hall\nObvious exits: North.\n\nI can also see: " ++ (text items ++ text "\n")

-- what happened in a play, where it stopped, and the lines and draws that were left
pub record Plays (t : Traced Step PlayEnd) (steps : List (List Step)) (position : Position)
    (lines : List (List ℕ)) (draws : List ℕ) : Type 0 where
  pub events_are : t.events ≡ flat_map (λ part. part) steps
  pub stopped : t.value.position ≡ position
  pub lines_left : t.value.lines ≡ lines
  pub draws_left : t.value.draws ≡ draws

-- ---- words

-- a synonym names the base entry before it, and an unknown word stands where it was typed
pub record WordsHeard : Type 0 where
  pub synonym : which hill Verbs (codes "walking") ≡ Some 1
  pub no_entry : which hill Verbs (codes "xyzzy") ≡ None
  pub direction : heard hill (codes "north") ≡ Command 1 (Some 1)
  pub letter : heard hill (codes "  w ") ≡ Command 1 (Some 4)
  pub unknown : heard hill (codes " xyzzy rug") ≡ Unknown 1 5

-- ---- plays

abbrev pub HallAndHill : Type 0
HallAndHill =
    Plays (play (plain hill) (typing ("n" ∷ "go south" ∷ "xyzzy" ∷ [])) [])
    (hall "Rug" ∷ ask ∷ typed "n" ∷ text "O.K.\nI'm on a hill\nObvious exits: South.\n" ∷ ask
    ∷ typed "go south" ∷ text "O.K.\n"
    ∷ hall "Rug" ∷ ask ∷ typed "xyzzy" ∷ text "\"xyzzy\" is a word I don't know. " ∷ ask ∷ [])
    Line [] []

abbrev pub BlankLineAsksAgain : Type 0
BlankLineAsksAgain =
    Plays (play (plain hill) (typing ("walk north" ∷ "" ∷ [])) [])
    (hall "Rug" ∷ ask ∷ typed "walk north" ∷ text "O.K.\nI'm on a hill\nObvious exits: South.\n"
    ∷ ask ∷ typed "" ∷ ask ∷ [])
    Line [] []

abbrev pub OneOfEach : Type 0
OneOfEach =
    Plays (play (plain cell) (typing ("n" ∷ [])) [])
    (text "I'm in a cell\nObvious exits: none.\n\nI can also see: Rug\n" ∷ ask ∷ typed "n"
    ∷ text "\"n\" is a word I don't know. " ∷ ask ∷ [])
    Line [] []

-- the get is refused and leaves item 0 to the drop: the rug stays here, and the pin carried
pub record RefusedGetLeavesItsParameter : Type 0 where
  pub said : (action_result (plain full_hands) [] 0 (start full_hands)).events
      ≡ codes "I've too much to carry! "
  pub ran : (action_result (plain full_hands) [] 0 (start full_hands)).value.ran ≡ Passed false
  pub state : (action_result (plain full_hands) [] 0 (start full_hands)).value.state
      ≡ start full_hands
  pub played : Plays (play (plain full_hands) (typing ("look" ∷ [])) [])
      (hall "Rug" ∷ ask ∷ typed "look" ∷ tries 0 ∷ text "I've too much to carry! " ∷ hall "Rug"
      ∷ ask ∷ []) Line [] []

pub record CounterIsCapped : Type 0 where
  pub said : (action_result (plain full_counter) [] 0 (start full_counter)).events ≡ codes "32767\n"
  pub counter : (action_result (plain full_counter) [] 0 (start full_counter)).value.state.counter
      ≡ pos 32767
  pub played : Plays (play (plain full_counter) (typing ("look" ∷ [])) [])
      (hall "Rug" ∷ ask ∷ typed "look" ∷ tries 0 ∷ text "32767\n" ∷ ask ∷ []) Line [] []

abbrev pub MessageIsSaid : Type 0
MessageIsSaid =
    Plays (play (plain odd_message) (typing ("look" ∷ [])) [])
    (hall "Rug" ∷ ask ∷ typed "look" ∷ tries 0 ∷ text "@5 ~ ^ \\\n" ∷ ask ∷ []) Line [] []

-- the first head is passed over, the second does its tail, and tails take no draw
abbrev pub DrawsPassAHeadOver : Type 0
DrawsPassAHeadOver =
    Plays (play (plain chance) [] (2 ∷ 100 ∷ 100 ∷ []))
    (hall "Rug" ∷ drew 2 ∷ drew 100 ∷ tries 2 ∷ text "two\n" ∷ tries 3 ∷ text "four\n" ∷ drew 100
    ∷ tries 4 ∷ text "three\n" ∷ ask ∷ [])
    Line [] []

abbrev pub DrawsTryAllHeads : Type 0
DrawsTryAllHeads =
    Plays (play (plain chance) [] (1 ∷ 100 ∷ 100 ∷ []))
    (hall "Rug" ∷ drew 1 ∷ tries 1 ∷ text "one\n" ∷ drew 100 ∷ tries 2 ∷ text "two\n" ∷ tries 3
    ∷ text "four\n" ∷ drew 100 ∷ tries 4 ∷ text "three\n" ∷ ask ∷ [])
    Line [] []

-- no draw is left for the head of line 4: the play waits there, and goes on from there
pub record DrawsRunOut : Type 0 where
  pub waits : Plays (play (plain chance) [] (1 ∷ 100 ∷ []))
      (hall "Rug" ∷ drew 1 ∷ tries 1 ∷ text "one\n" ∷ drew 100 ∷ tries 2 ∷ text "two\n" ∷ tries 3
      ∷ text "four\n" ∷ [])
      (Draw 4) [] []
  pub goes_on : Plays
      (go (plain chance) (Draw 4) (play (plain chance) [] (1 ∷ 100 ∷ [])).value.state [] (100 ∷ []))
      (drew 100 ∷ tries 4 ∷ text "three\n" ∷ ask ∷ []) Line [] []

-- the actions that were tried, in their order; one that is all zeros is not noted
pub record ActionsNoted : Type 0 where
  pub by_chance : noted (play (plain chance) [] (2 ∷ 100 ∷ 100 ∷ [])).events ≡ 2 ∷ 3 ∷ 4 ∷ []
  pub on_the_hill : noted (play (plain hill) (typing ("n" ∷ [])) []).events ≡ []

-- the rug is taken, and the lines for the pin end the game: the pin stays where it was
pub record GetAllEndsTheGame : Type 0 where
  pub played : Plays (play (plain last_pin) (typing ("get all" ∷ "look" ∷ [])) [])
      (hall "Rug - Pin" ∷ ask ∷ typed "get all" ∷ text "Rug: O.K.\n" ∷ tries 0
      ∷ text "The game is now over.\n" ∷ [])
      (Over 1) (typing ("look" ∷ [])) []
  pub rug : place_of (play (plain last_pin) (typing ("get all" ∷ "look" ∷ [])) []).value.state 0
      ≡ 255
  pub pin : place_of (play (plain last_pin) (typing ("get all" ∷ "look" ∷ [])) []).value.state 1 ≡ 1

-- one item is got and dropped again, and nothing is left to drop
abbrev pub GetAndDrop : Type 0
GetAndDrop =
    Plays (play (plain last_pin) (typing ("get rug" ∷ "drop all" ∷ "drop all" ∷ "get" ∷ [])) [])
    (hall "Rug - Pin" ∷ ask ∷ typed "get rug" ∷ text "O.K. " ∷ hall "Pin" ∷ ask ∷ typed "drop all"
    ∷ text "Rug: O.K.\n" ∷ hall "Rug - Pin" ∷ ask
    ∷ typed "drop all" ∷ text "Nothing dropped. " ∷ ask ∷ typed "get" ∷ text "What ? " ∷ ask ∷ [])
    Line [] []

abbrev pub ScoreGoesOn : Type 0
ScoreGoesOn =
    Plays (play (plain no_treasure) (typing ("look" ∷ [])) [])
    (hall "Rug" ∷ ask ∷ typed "look" ∷ tries 0
    ∷ text "I've stored 0 treasures.  On a scale of 0 to 100, that rates 0.\n" ∷ ask ∷ [])
    Line [] []

abbrev pub FullScoreEnds : Type 0
FullScoreEnds =
    Plays (play (plain one_treasure) (typing ("look" ∷ [])) [])
    (hall "*Rug*" ∷ ask ∷ typed "look" ∷ tries 0
    ∷ text "I've stored 1 treasures.  On a scale of 0 to 100, that rates 100.\nWell done.\nThe game is now over.\n" ∷ [])
    (Over 3) [] []

-- what LOOK says where no line is there for it
abbrev pub not_understood : List Step
not_understood = text "I don't understand your command. "

-- the light's last text comes at 0 and once more at -1, and then never again
pub record LightRunsOut : Type 0 where
  pub played : Plays
      (play (plain (lamp_for 2)) (typing ("look" ∷ "look" ∷ "look" ∷ "look" ∷ [])) [])
      (hall "Rug" ∷ ask ∷ typed "look" ∷ not_understood ∷ ask ∷ typed "look" ∷ not_understood
      ∷ text "Your light has run out. " ∷ ask
      ∷ typed "look" ∷ not_understood ∷ text "Your light has run out. " ∷ ask ∷ typed "look"
      ∷ not_understood ∷ ask ∷ [])
      Line [] []
  pub light
      : (play (plain (lamp_for 2)) (typing ("look" ∷ "look" ∷ "look" ∷ "look" ∷ []))
      []).value.state.light ≡ negsuc 0
  pub flag : flag_of
      (play (plain (lamp_for 2)) (typing ("look" ∷ "look" ∷ "look" ∷ "look" ∷ [])) []).value.state
      out_flag ≡ true

abbrev pub LightGrowsDim : Type 0
LightGrowsDim =
    Plays (play (plain (lamp_for 21)) (typing ("look" ∷ [])) [])
    (hall "Rug" ∷ ask ∷ typed "look" ∷ not_understood ∷ text "Your light is growing dim. " ∷ ask
    ∷ []) Line [] []

abbrev pub DarkIsDangerous : Type 0
DarkIsDangerous =
    Plays (play (plain nightfall) (typing ("n" ∷ "n" ∷ [])) (1 ∷ 1 ∷ 1 ∷ []))
    (hall "Rug" ∷ drew 1 ∷ tries 0 ∷ ask ∷ typed "n"
    ∷ text "Dangerous to move in the dark! O.K.\nI can't see. It is too dark!\n" ∷ drew 1
    ∷ tries 0 ∷ ask
    ∷ typed "n" ∷ text "Dangerous to move in the dark! I fell down and broke my neck. " ∷ [])
    (Over 2) [] (1 ∷ [])

-- a condition fails, and the line does nothing
pub record ConditionFails : Type 0 where
  pub said : (action_result (plain not_carried) [] 0 (start not_carried)).events ≡ []
  pub ran : (action_result (plain not_carried) [] 0 (start not_carried)).value.ran ≡ Not
  pub state : (action_result (plain not_carried) [] 0 (start not_carried)).value.state
      ≡ start not_carried
  pub played : Plays (play (plain not_carried) (typing ("look" ∷ [])) [])
      (hall "Rug" ∷ ask ∷ typed "look" ∷ tries 0 ∷ text "I can't do that yet. " ∷ ask ∷ []) Line []
      []

-- past the last parameter each is 0: the rug is dropped where it lies, and the hall is described
-- again
abbrev pub MissingParameterIsZero : Type 0
MissingParameterIsZero =
    Plays (play (plain no_parameter) (typing ("look" ∷ [])) [])
    (hall "Rug" ∷ ask ∷ typed "look" ∷ tries 0 ∷ hall "Rug" ∷ ask ∷ []) Line [] []

-- ---- plays in the other styles

-- the same hall in the second person
abbrev pub your_hall : List Step
your_hall = text "You are in a hall\nObvious exits: North.\n\nYou can also see: Rug\n"

abbrev pub my_refusal : List Step
my_refusal = text "I can't go in that direction. "

abbrev pub your_refusal : List Step
your_refusal = text "You can't go in that direction. "

-- the last turn of a light, where turns are counted
abbrev pub last_turn : List Step
last_turn = text "Your light runs out in 1 turns. "

abbrev pub run_out : List Step
run_out = text "Your light has run out. "

abbrev pub four_looks : List (List ℕ)
four_looks = typing ("look" ∷ "look" ∷ "look" ∷ "look" ∷ [])

-- What is seen in a style of two plays: of a way that isn't there, and of a lamp that lasts for two
-- turns, which say what is said with one turn left, and what at the turn after the last; where the
-- lamp is then, and how long its light lasts.
pub record InStyle (style : Style) (seen refusal low again : List Step) (place : ℕ) (left : ℤ)
    : Type 0 where
  pub no_way : Plays (play (in_style style hill) (typing ("go south" ∷ [])) [])
      (seen ∷ ask ∷ typed "go south" ∷ refusal ∷ ask ∷ []) Line [] []
  pub light : Plays (play (in_style style (lamp_for 2)) four_looks [])
      (seen ∷ ask ∷ typed "look" ∷ not_understood ∷ low ∷ ask ∷ typed "look" ∷ not_understood
      ∷ run_out ∷ ask
      ∷ typed "look" ∷ not_understood ∷ again ∷ ask ∷ typed "look" ∷ not_understood ∷ ask ∷ [])
      Line [] []
  pub place_after : place_of (play (in_style style (lamp_for 2)) four_looks []).value.state lamp
      ≡ place
  pub light_after : (play (in_style style (lamp_for 2)) four_looks []).value.state.light ≡ left
  pub out : flag_of (play (in_style style (lamp_for 2)) four_looks []).value.state out_flag ≡ true

-- whom a play speaks to is one matter, how its light runs low another, and how it ends the third
pub record EachStyle : Type 0 where
  pub is_plain : InStyle (record { you = false; counted = false; vanish = false }) (hall "Rug")
      my_refusal [] run_out 255 (negsuc 0)
  pub you : InStyle (record { you = true; counted = false; vanish = false }) your_hall your_refusal
      [] run_out 255 (negsuc 0)
  pub counted : InStyle (record { you = false; counted = true; vanish = false }) (hall "Rug")
      my_refusal last_turn run_out 255 (negsuc 0)
  pub vanish : InStyle (record { you = false; counted = false; vanish = true }) (hall "Rug")
      my_refusal [] [] 0 (pos 0)
  pub you_counted : InStyle (record { you = true; counted = true; vanish = false }) your_hall
      your_refusal last_turn run_out 255 (negsuc 0)
  pub you_vanish : InStyle (record { you = true; counted = false; vanish = true }) your_hall
      your_refusal [] [] 0 (pos 0)
  pub counted_vanish : InStyle (record { you = false; counted = true; vanish = true }) (hall "Rug")
      my_refusal last_turn [] 0 (pos 0)
  pub all_three : InStyle (record { you = true; counted = true; vanish = true }) your_hall
      your_refusal last_turn [] 0 (pos 0)
