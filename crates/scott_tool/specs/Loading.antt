-- The files that a request loads, before any of them is read.
use Rattle.std.specs.Prelude.{◌≡◌, ◌⊎◌, ℕ, nat_le, Bool, true, false, List, [], ◌∷◌, length, Option, Some, None, option_map, Result, Ok, Err, if◌then◌else◌}
use Rattle.std.specs.FinMap.{get}
use Rattle.adv_io.specs.Shelf.{Files}
use Rattle.scott_format.specs.declared.readers.TheConstants.{DATABASE_LIMIT}
use Rattle.scott_requests.specs.Settings.{DrawSource, listed, seeded}
use Rattle.scott_requests.specs.Request.{Request, check, compile, decompile, play, translate, run, hall, transfer, simplify, step, cover, calls, demo}
use Rattle.inform_reader.specs.declared.reading.TheConstants.{PROGRAM_LIMIT}
use Rattle.scott_tool.specs.declared.loads.TheConstants.{SOURCE_LIMIT, DRAWS_LIMIT, POSITION_LIMIT}
use Rattle.scott_tool.specs.Steps.{◌>>=◌}
use Rattle.scott_tool.specs.Refusal.{Refusal, unread, too_long}

-- the file of this name is loaded, if it has at most so many bytes
pub record Load : Type 0 where
  pub name : List ℕ
  pub limit : ℕ

abbrev pub database_load : List ℕ → Load
database_load name = record { name = name; limit = DATABASE_LIMIT }

-- the main file: the database of this name, or else another one
abbrev pub main_load : Option (List ℕ) → Option Load → Option Load
main_load (Some game) other = Some (database_load game)
main_load None other = other

abbrev pub source_load : List ℕ → Load
source_load name = record { name = name; limit = SOURCE_LIMIT }

abbrev pub program_load : List ℕ → Load
program_load name = record { name = name; limit = PROGRAM_LIMIT }

abbrev pub draws_load : DrawSource → Option Load
draws_load (listed name) = Some (record { name = name; limit = DRAWS_LIMIT })
draws_load (seeded seed) = None

abbrev pub position_load : List ℕ → Load
position_load name = record { name = name; limit = POSITION_LIMIT }

-- ---- what each request loads, in this order

-- its main file, then its draws, and then the position that it goes on from
pub record Loads : Type 0 where
  pub main : Option Load
  pub draws : Option Load
  pub position : Option Load

-- no file but the main one
abbrev pub only : Load → Loads
only load = record { main = Some load; draws = None; position = None }

-- no file
abbrev pub no_loads : Loads
no_loads = record { main = None; draws = None; position = None }

abbrev pub loads_of : Request → Loads
loads_of (check game) = only (database_load game)
loads_of (compile source game) = only (source_load source)
loads_of (decompile game source) = only (database_load game)
loads_of (play p) =
    record {
      main = Some (database_load p.game);
      draws = draws_load p.source;
      position = option_map position_load p.opened_from;
    }
loads_of (translate t) = only (database_load t.game)
loads_of (run r) = record (only (program_load r.program)) { draws = draws_load r.source }
loads_of (step s) = record (only (program_load s.run.program)) { draws = draws_load s.run.source }
loads_of (calls r) = record (only (program_load r.program)) { draws = draws_load r.source }
loads_of (demo n) = no_loads
loads_of (hall game count) = only (database_load game)
loads_of (cover c) = record (only (database_load c.game)) { draws = draws_load c.source }
loads_of (transfer t) =
    let game = only (database_load t.translation.game) in
    record game { position = Some (position_load t.opened_from) }
loads_of (simplify s) = only (program_load s.program)

abbrev pub main_of : Request → Option Load
main_of request = (loads_of request).main

abbrev pub draws_of : Request → Option Load
draws_of request = (loads_of request).draws

abbrev pub position_of : Request → Option Load
position_of request = (loads_of request).position

-- whether the main file is a database. What it reads as is kept of it then, and else its bytes.
abbrev pub has_game : Request → Bool
has_game (check game) = true
has_game (compile source game) = false
has_game (decompile game source) = true
has_game (play p) = true
has_game (translate t) = true
has_game (run r) = false
has_game (demo n) = false
has_game (hall game count) = true
has_game (transfer t) = true
has_game (cover c) = true
has_game (simplify s) = false
has_game (step s) = false
has_game (calls r) = false

-- the name of the file that a request stores
abbrev pub stores : Request → Option (List ℕ)
stores (check game) = None
stores (compile source game) = Some game
stores (decompile game source) = Some source
stores (play p) = p.saved_as
stores (translate t) = Some t.program
stores (run r) = None
stores (hall game count) = None
stores (transfer t) = Some t.translation.program
stores (cover c) = None
stores (simplify s) = Some s.simpler
stores (step s) = None
stores (calls r) = None
stores (demo n) = None

-- the statuses, besides 0, 3, 8 and 10, with which a request may have worked on the console: 2
-- where a file is stored after that, and 9 where memory is wanted after it
abbrev pub late_where : {X : Type 0} → Option X → List ℕ
late_where None = []
late_where (Some save) = 2 ∷ 9 ∷ []

abbrev pub late_statuses : Request → List ℕ
late_statuses (play p) = late_where p.saved_as
late_statuses (cover c) = 9 ∷ []
late_statuses (calls r) = 9 ∷ []
late_statuses request = []

-- one of the files that a request loads
abbrev pub IsLoad : Request → Load → Type 0
IsLoad request load =
    (main_of request ≡ Some load) ⊎ (draws_of request ≡ Some load)
    ⊎ (position_of request ≡ Some load)

-- ---- loading

-- a file is there and within its limit
abbrev pub within_limit : Load → Option (List ℕ) → Result (List ℕ) Refusal
within_limit load None = Err (unread load.name)
within_limit load (Some bytes) =
    if nat_le (length bytes) load.limit then Ok bytes else Err (too_long load.name load.limit)

-- the bytes of a file; where none is loaded, there are none
abbrev pub loaded : Files → Option Load → Result (List ℕ) Refusal
loaded files None = Ok []
loaded files (Some load) = within_limit load (get files load.name)

-- what a request loads
pub record Texts : Type 0 where
  pub main : List ℕ
  pub draws : List ℕ
  pub position : List ℕ

-- the draws, and then the position
abbrev pub later_texts_of : Files → Request → Result (List ℕ × List ℕ) Refusal
later_texts_of files request = do
  draws ← loaded files (draws_of request)
  position ← loaded files (position_of request)
  Ok (draws, position)

abbrev pub texts_of : Files → Request → Result Texts Refusal
texts_of files request = do
  main ← loaded files (main_of request)
  later ← later_texts_of files request
  Ok (record { main = main; draws = later.0; position = later.1 })
