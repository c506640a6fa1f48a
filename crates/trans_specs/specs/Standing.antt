-- What a stage of a translated game stands for: a state, and a noun text.
use Rattle.std.specs.Prelude.{◌≡◌, ℕ, ℤ, pos, true, List, length, take, drop, slice_get, codes, Option, Some, is_some}
use Rattle.std.specs.List.{AllByRecursion}
use Rattle.std.specs.Char.{is_ascii_graphic}
use Rattle.scott_types.specs.declared.states.State.{State}
use Rattle.scott_types.specs.declared.commands.Column.TheVariants.{Verbs, Nouns}
use Rattle.scott_types.specs.Database.{Database}
use Rattle.scott_types.specs.State.{Fits}
use Rattle.inform_logic.specs.Stages.{Stage}
use Rattle.trans_specs.specs.Tables.{start_places, exits, word_letters, word_bases, noun_classes, item_classes, item_nouns, items_with_words, treasures, buffer_length}
use Rattle.trans_specs.specs.Views.{naturals, Shows}

-- ---- what never changes

-- these arrays hold what they held when the game opened
pub record Fixed (db : Database)
    (start exit vword nword vroot nroot nclass iclass inoun iget gold : Option (List ℤ)) : Type 0
  where
    pub start_is : start ≡ Some (naturals (start_places db))
    pub exits_are : exit ≡ Some (naturals (exits db))
    pub verbs_are : vword ≡ Some (naturals (word_letters db Verbs))
    pub nouns_are : nword ≡ Some (naturals (word_letters db Nouns))
    pub verb_bases_are : vroot ≡ Some (naturals (word_bases db Verbs))
    pub noun_bases_are : nroot ≡ Some (naturals (word_bases db Nouns))
    pub noun_classes_are : nclass ≡ Some (naturals (noun_classes db))
    pub item_classes_are : iclass ≡ Some (naturals (item_classes db))
    pub item_nouns_are : inoun ≡ Some (naturals (item_nouns db))
    pub words_are : iget ≡ Some (naturals (items_with_words db))
    pub treasures_are : gold ≡ Some (naturals (treasures db))

abbrev pub HasTables : Database → Stage → Type 0
HasTables db w = Fixed db (w.arrays (codes "start")) (w.arrays (codes "exits"))
    (w.arrays (codes "vword")) (w.arrays (codes "nword")) (w.arrays (codes "vroot"))
    (w.arrays (codes "nroot")) (w.arrays (codes "nclass")) (w.arrays (codes "iclass"))
    (w.arrays (codes "inoun")) (w.arrays (codes "iget")) (w.arrays (codes "gold"))

-- ---- what a turn works with

-- the globals of a turn are there, and so is a line buffer of the length that it is declared with
pub record Working (over vnum nnum wa na wb nb : Option ℤ) (buf : Option (List ℤ)) : Type 0 where
  pub over_there : is_some over ≡ true
  pub vnum_there : is_some vnum ≡ true
  pub nnum_there : is_some nnum ≡ true
  pub wa_there : is_some wa ≡ true
  pub na_there : is_some na ≡ true
  pub wb_there : is_some wb ≡ true
  pub nb_there : is_some nb ≡ true
  pub buffer : List ℤ
  pub buffer_is : buf ≡ Some buffer
  pub buffer_long : length buffer ≡ buffer_length

abbrev pub CanWork : Stage → Type 0
CanWork w = Working (w.globals (codes "over")) (w.globals (codes "vnum"))
    (w.globals (codes "nnum")) (w.globals (codes "wa")) (w.globals (codes "na"))
    (w.globals (codes "wb")) (w.globals (codes "nb")) (w.arrays (codes "buf"))

-- ---- a state

-- The stage shows the state, which fits the database, and has all that a turn needs.
pub record Ready (db : Database) (s : State) (w : Stage) : Type 0 where
  pub shows : Shows s w
  pub fits : Fits db s
  pub tables : HasTables db w
  pub working : CanWork w

-- ---- a noun text

-- these bytes stand among the entries from this one on
pub record BytesAt (bytes : List ℕ) (at : ℕ) (entries : Option (List ℤ)) : Type 0 where
  pub all : List ℤ
  pub all_are : entries ≡ Some all
  pub stand : take (length bytes) (drop at all) ≡ naturals bytes

-- a printable ASCII character, and no space
abbrev pub IsPrintable : ℕ → Type 0
IsPrintable byte = is_ascii_graphic byte ≡ true

-- The bytes of `buf` from entry `wb` on, as many as `nb` says, are the noun text, and can be
-- printed.
pub record NounSeen (noun : List ℕ) (wb nb : Option ℤ) (buf : Option (List ℤ)) : Type 0 where
  pub printable : AllByRecursion IsPrintable noun
  pub at : ℕ
  pub at_is : wb ≡ Some (pos at)
  pub size_is : nb ≡ Some (pos (length noun))
  pub stands : BytesAt noun at buf

abbrev pub HasNoun : List ℕ → Stage → Type 0
HasNoun noun w = NounSeen noun (w.globals (codes "wb")) (w.globals (codes "nb"))
    (w.arrays (codes "buf"))

-- ---- both

-- a stage stands for a state and a noun text
pub record StandsFor (db : Database) (s : State) (noun : List ℕ) (w : Stage) : Type 0 where
  pub ready : Ready db s w
  pub has_noun : HasNoun noun w

-- ---- a line

-- a line stands in the buffer from entry 2 on, with its length in entry 1
pub record LineSeen (line : List ℕ) (buf : Option (List ℤ)) : Type 0 where
  pub all : List ℤ
  pub all_are : buf ≡ Some all
  pub size_is : slice_get all 1 ≡ Some (pos (length line))
  pub stands : BytesAt line 2 buf

abbrev pub HasLine : List ℕ → Stage → Type 0
HasLine line w = LineSeen line (w.arrays (codes "buf"))
