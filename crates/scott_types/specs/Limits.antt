-- The limits that every database keeps.
use Rattle.std.specs.Prelude.{ℕ, ◌≤◌, ◌<◌, ◌≡◌, ◌==◌, ◌&&◌, Bool, List, [], ◌∷◌, length, nat_le, nat_lt, ℤ, pos, negsuc, ◌≤ℤ◌, int_le, IsTrue}
use Rattle.std.specs.List.{list_all}
use Rattle.adv_io.specs.Text.{is_text_byte, text_limit}
use Rattle.scott_types.specs.declared.parts.Header.{Header}
use Rattle.scott_types.specs.declared.parts.Action.{Action}
use Rattle.scott_types.specs.declared.parts.Word.{Word}
use Rattle.scott_types.specs.declared.parts.Room.{Room}
use Rattle.scott_types.specs.declared.parts.Item.{Item}
use Rattle.scott_types.specs.declared.parts.Trailer.{Trailer}
use Rattle.scott_types.specs.Database.{Database}

-- ---- one value

-- a byte that a string of a file can give
abbrev pub is_file_byte : ℕ → Bool
is_file_byte byte = nat_lt byte 256 && is_text_byte byte

-- so many of them at most
abbrev pub is_file_text : List ℕ → Bool
is_file_text text = nat_le (length text) text_limit && list_all is_file_byte text

-- a number of 32 bits with a sign
abbrev pub is_number : ℤ → Bool
is_number z = int_le (negsuc 2147483647) z && int_le z (pos 2147483647)

-- such a number that isn't negative
abbrev pub is_natural : ℕ → Bool
is_natural n = nat_le n 2147483647

-- ---- one entry of a list

abbrev pub is_action : Action → Bool
is_action a =
    is_natural a.vocab
    && (length a.conds == 5
    && (list_all is_natural a.conds
    && (length a.pairs == 2 && list_all is_natural a.pairs)))

abbrev pub is_word : Word → Bool
is_word w = is_file_text w.verb && is_file_text w.noun

abbrev pub is_room : Room → Bool
is_room r = length r.exits == 6 && (list_all is_number r.exits && is_file_text r.text)

abbrev pub is_item : Item → Bool
is_item i = is_file_text i.text && nat_le i.place 255

abbrev pub are_header_numbers : Header → Bool
are_header_numbers h = list_all is_number (h.unused ∷ h.carry ∷ h.treasures ∷ h.light ∷ h.home ∷ [])

abbrev pub is_trailer : Trailer → Bool
is_trailer t = list_all is_number (t.version ∷ t.adventure ∷ t.third ∷ [])

-- ---- the whole

-- a list has an entry, and no more than so many
abbrev pub is_list_of : {X : Type 0} → ℕ → List X → Bool
is_list_of most xs = nat_le 1 (length xs) && nat_le (length xs) most

pub record KeepsHeaderLimits (rooms : ℕ) (h : Header) : Type 0 where
  pub length_range : (1 ≤ h.length) × (h.length ≤ 20)
  pub light_range : negsuc 0 ≤ℤ h.light
  pub start_there : h.start < rooms
  pub numbers : IsTrue (are_header_numbers h)

pub record KeepsSizes (db : Database) : Type 0 where
  pub actions : IsTrue (is_list_of 5000 db.actions)
  pub words : IsTrue (is_list_of 1000 db.words)
  pub rooms : IsTrue (is_list_of 255 db.rooms)
  pub messages : IsTrue (is_list_of 1000 db.messages)
  pub items : IsTrue (is_list_of 255 db.items)

pub record KeepsEntryLimits (db : Database) : Type 0 where
  pub actions : IsTrue (list_all is_action db.actions)
  pub words : IsTrue (list_all is_word db.words)
  pub rooms : IsTrue (list_all is_room db.rooms)
  pub items : IsTrue (list_all is_item db.items)
  pub texts : IsTrue (list_all is_file_text db.messages && list_all is_file_text db.comments)

pub record KeepsLimits (db : Database) : Type 0 where
  pub header : KeepsHeaderLimits (length db.rooms) db.header
  pub sizes : KeepsSizes db
  pub entries : KeepsEntryLimits db
  pub commented : length db.comments ≡ length db.actions
  pub trailer : IsTrue (is_trailer db.trailer)
