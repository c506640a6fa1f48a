-- The directives that declare the globals and arrays of a translated game, as they are written.
use Rattle.std.specs.Prelude.{ℕ, ◌+◌, ℤ, pos, negsuc, true, false, List, [], ◌∷◌, ◌++◌, map, codes, Some}
use Rattle.inform_tree.specs.declared.values.Const.{Const}
use Rattle.inform_tree.specs.declared.values.Const.TheVariants.{Number, Minus}
use Rattle.inform_tree.specs.Programs.{DirectiveTree, Global, Array}
use Rattle.scott_types.specs.declared.states.State.{State}
use Rattle.scott_types.specs.declared.commands.Column.TheVariants.{Verbs, Nouns}
use Rattle.scott_types.specs.Database.{Database}
use Rattle.trans_specs.specs.Tables.{bit, guarded, start_places, exits, word_letters, word_bases, noun_classes, item_classes, item_nouns, items_with_words, treasures, buffer_length}

-- ---- constants

-- a whole number as it is written
abbrev pub written : ℤ → Const
written (pos n) = Number n
written (negsuc n) = Minus (n + 1)

abbrev pub global : List ℕ → ℤ → DirectiveTree
global name z = Global name (Some (written z))

-- an array of words and one of bytes with these entries
abbrev pub integers : List ℕ → List ℤ → DirectiveTree
integers name zs = Array name true (map written zs)

abbrev pub words : List ℕ → List ℕ → DirectiveTree
words name xs = Array name true (map Number xs)

abbrev pub bytes : List ℕ → List ℕ → DirectiveTree
bytes name xs = Array name false (map Number xs)

-- an array of so many bytes, each 0
abbrev pub zero_bytes : List ℕ → ℕ → DirectiveTree
zero_bytes name size = Array name false (Number size ∷ [])

-- ---- globals: those of the state, and those with which a turn works

abbrev pub state_globals : State → List DirectiveTree
state_globals s = global (codes "here") (pos s.room)
    ∷ global (codes "saved") (pos s.saved)
    ∷ global (codes "cur") s.counter
    ∷ global (codes "light") s.light
    ∷ global (codes "redraw") (pos (bit s.redraw))
    ∷ []

abbrev pub turn_globals : List DirectiveTree
turn_globals = global (codes "over") (pos 0)
    ∷ global (codes "vnum") (pos 0)
    ∷ global (codes "nnum") (pos 0)
    ∷ global (codes "wa") (pos 0)
    ∷ global (codes "na") (pos 0)
    ∷ global (codes "wb") (pos 0)
    ∷ global (codes "nb") (pos 0)
    ∷ []

-- ---- arrays: those of the state, those that never change, and those that a line is read into

abbrev pub state_arrays : State → List DirectiveTree
state_arrays s = words (codes "item") (guarded s.places.items)
    ∷ words (codes "flag") (map bit s.flags)
    ∷ integers (codes "ctr") s.counters
    ∷ words (codes "rsave") s.rooms
    ∷ []

abbrev pub fixed_arrays : Database → List DirectiveTree
fixed_arrays db = words (codes "start") (start_places db)
    ∷ words (codes "exits") (exits db)
    ∷ bytes (codes "vword") (word_letters db Verbs)
    ∷ bytes (codes "nword") (word_letters db Nouns)
    ∷ words (codes "vroot") (word_bases db Verbs)
    ∷ words (codes "nroot") (word_bases db Nouns)
    ∷ words (codes "nclass") (noun_classes db)
    ∷ words (codes "iclass") (item_classes db)
    ∷ words (codes "inoun") (item_nouns db)
    ∷ words (codes "iget") (items_with_words db)
    ∷ words (codes "gold") (treasures db)
    ∷ []

abbrev pub buffers : List DirectiveTree
buffers = zero_bytes (codes "buf") buffer_length ∷ zero_bytes (codes "pbuf") 2 ∷ []

-- ---- all of them

abbrev pub global_directives : State → List DirectiveTree
global_directives s = state_globals s ++ turn_globals

abbrev pub array_directives : Database → State → List DirectiveTree
array_directives db s = state_arrays s ++ (fixed_arrays db ++ buffers)

-- the globals and then the arrays, and no constant
abbrev pub data_directives : Database → State → List DirectiveTree
data_directives db s = global_directives s ++ array_directives db s
