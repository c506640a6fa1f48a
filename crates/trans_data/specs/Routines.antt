-- The routines whose codes are fixed, or chosen by the style or a sign.
use Rattle.std.specs.Prelude.{ℕ, ℤ, pos, int_lt, Bool, if◌then◌else◌, List, [], ◌∷◌, ◌++◌, map}
use Rattle.inform_tree.specs.Programs.{DirectiveTree}
use Rattle.inform_codes.specs.declared.codes.Code.{Code}
use Rattle.inform_codes.specs.Routines.{Row, rows_directives}
use Rattle.scott_types.specs.declared.styles.Style.{Style}
use Rattle.scott_types.specs.Database.{Database}
use Rattle.scott_types.specs.Phrase.{text_of, text_in}
use Rattle.trans_data.specs.declared.names.TheConstants.{NAMES, STYLED, PLAIN, N, HUNDREDTHS_NAME, SAY_LIGHT, LIGHT_OUT}
use Rattle.trans_data.specs.declared.scoring.TheConstants.{HUNDREDTHS, LESS_HUNDREDTHS}
use Rattle.trans_data.specs.declared.lights.TheConstants.{COUNTED_LIGHT, DIM_LIGHT, OUT, VANISHED}
use Rattle.trans_data.specs.declared.routines.TheConstants.{ROUTINES}
use Rattle.trans_data.specs.Numbers.{numbers}

-- names, and the texts of a style, by their places
unfoldable pub routine_names : Style → List (List ℕ)
routine_names style =
    map (λ name. name.now) NAMES ++ (map (text_in style) STYLED ++ map text_of PLAIN)

abbrev pub hundredths_codes : ℤ → List Code
hundredths_codes treasures = if int_lt treasures (pos 0) then LESS_HUNDREDTHS else HUNDREDTHS

abbrev pub light_codes : Bool → List Code
light_codes counted = if counted then COUNTED_LIGHT else DIM_LIGHT

abbrev pub out_codes : Bool → List Code
out_codes vanish = if vanish then VANISHED else OUT

unfoldable pub table_rows : List Row
table_rows = map (λ row. (row.0, row.1.now, row.2.now)) ROUTINES

abbrev pub chosen_rows : Style → Database → List Row
chosen_rows style db = (HUNDREDTHS_NAME, N ∷ [], hundredths_codes db.header.treasures)
    ∷ (SAY_LIGHT, [], light_codes style.counted) ∷ (LIGHT_OUT, [], out_codes style.vanish) ∷ []

abbrev pub fixed_directives : Style → Database → List DirectiveTree
fixed_directives style db = rows_directives (routine_names style) (numbers db) table_rows
    ++ rows_directives (routine_names style) (numbers db) (chosen_rows style db)
