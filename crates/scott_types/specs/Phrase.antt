-- The one table of the fixed texts.
use Rattle.std.specs.Prelude.{ℕ, List, codes, if◌then◌else◌}
use Rattle.scott_types.specs.declared.styles.Style.{Style}
use Rattle.scott_types.specs.declared.phrases.Phrase.{Phrase}
use Rattle.scott_types.specs.declared.phrases.Phrase.TheVariants.{TooDark, InA, ObviousExits, North, South, East, West, Up, Down, NoExits, BetweenExits, ListEnd, AlsoSee, BetweenItems, CarryingList, NothingCarried, Stored, Rating, WellDone, GameOver, LightOut, LightDim, LightLasts, LightTurns, TooMuch, Dead, NoSaving, Newline, Prompt, UnknownOpening, UnknownBack, NeedDirection, DarkMove, Moved, BrokenNeck, NoExitThere, NotYet, NotUnderstood, DarkGet, ItemDone, NothingTaken, NothingDropped, WhatItem, Done, BeyondPower}

-- the bytes of a fixed text, in the plain style
unfoldable pub text_of : Phrase → List ℕ
text_of TooDark = codes "I can't see. It is too dark!\n"
text_of InA = codes "I'm in a "
text_of ObviousExits = codes "\nObvious exits: "
text_of North = codes "North"
text_of South = codes "South"
text_of East = codes "East"
text_of West = codes "West"
text_of Up = codes "Up"
text_of Down = codes "Down"
text_of NoExits = codes "none"
text_of BetweenExits = codes ", "
text_of ListEnd = codes ".\n"
text_of AlsoSee = codes "\nI can also see: "
text_of BetweenItems = codes " - "
text_of CarryingList = codes "I'm carrying:\n"
text_of NothingCarried = codes "Nothing"
text_of Stored = codes "I've stored "
text_of Rating = codes " treasures.  On a scale of 0 to 100, that rates "
text_of WellDone = codes "Well done.\n"
text_of GameOver = codes "The game is now over.\n"
text_of LightOut = codes "Your light has run out. "
text_of LightDim = codes "Your light is growing dim. "
text_of LightLasts = codes "Your light runs out in "
text_of LightTurns = codes " turns. "
text_of TooMuch = codes "I've too much to carry! "
text_of Dead = codes "I am dead.\n"
text_of NoSaving = codes "[Saving is left out.]\n"
text_of Newline = codes "\n"
text_of Prompt = codes "\nTell me what to do ? "
text_of UnknownOpening = codes "\""
text_of UnknownBack = codes "\" is a word I don't know. "
text_of NeedDirection = codes "Give me a direction too. "
text_of DarkMove = codes "Dangerous to move in the dark! "
text_of Moved = codes "O.K.\n"
text_of BrokenNeck = codes "I fell down and broke my neck. "
text_of NoExitThere = codes "I can't go in that direction. "
text_of NotYet = codes "I can't do that yet. "
text_of NotUnderstood = codes "I don't understand your command. "
text_of DarkGet = codes "It is dark.\n"
text_of ItemDone = codes ": O.K.\n"
text_of NothingTaken = codes "Nothing taken. "
text_of NothingDropped = codes "Nothing dropped. "
text_of WhatItem = codes "What ? "
text_of Done = codes "O.K. "
text_of BeyondPower = codes "It's beyond my power to do that. "

-- the same in the second person; a text without a first person stays
unfoldable pub second_person : Phrase → List ℕ
second_person TooDark = codes "You can't see. It is too dark!\n"
second_person InA = codes "You are in a "
second_person AlsoSee = codes "\nYou can also see: "
second_person CarryingList = codes "You are carrying:\n"
second_person Stored = codes "You have stored "
second_person TooMuch = codes "You have too much to carry! "
second_person Dead = codes "You are dead.\n"
second_person BrokenNeck = codes "You fell down and broke your neck. "
second_person NoExitThere = codes "You can't go in that direction. "
second_person BeyondPower = codes "It's beyond your power to do that. "
second_person NotYet = codes "You can't do that yet. "
second_person phrase = text_of phrase

-- the bytes of a fixed text in a style
abbrev pub text_in : Style → Phrase → List ℕ
text_in style phrase = if style.you then second_person phrase else text_of phrase
