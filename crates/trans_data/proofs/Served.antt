-- What a program that has the routines has of each.
use Rattle.std.proofs.Common.{◌≡◌, ◌∙◌, ℕ, List, [], ◌∷◌, codes, None, refl}
use Rattle.inform_tree.specs.declared.widths.Width.{Width}
use Rattle.inform_tree.specs.Programs.{RoutineTree, Routine}
use Rattle.inform_meaning.specs.Worlds.{Program}
use Rattle.inform_logic.specs.Holding.{Held, Holds, Has}
use Rattle.inform_logic.proofs.Holding.{holds_first, holds_rest}
use Rattle.inform_codes.specs.declared.codes.Code.{Code}
use Rattle.inform_codes.specs.Routines.{row_routine, rows_directives}
use Rattle.scott_types.specs.declared.styles.Style.{Style}
use Rattle.scott_types.specs.Database.{Database}
use Rattle.trans_specs.specs.Names.{line_number}
use Rattle.trans_specs.specs.Programs.{Serves}
use Rattle.trans_data.specs.declared.names.TheConstants as n
use Rattle.trans_data.specs.declared.helpers.TheConstants as h
use Rattle.trans_data.specs.declared.listing.TheConstants as t
use Rattle.trans_data.specs.declared.scoring.TheConstants as c
use Rattle.trans_data.specs.declared.lights.TheConstants as b
use Rattle.trans_data.specs.Numbers.{numbers}
use Rattle.trans_data.specs.Routines.{routine_names, table_rows, chosen_rows, fixed_directives, hundredths_codes, light_codes, out_codes}
use Rattle.trans_data.specs.Texts.{text_routine, message_directives, item_texts, room_texts, spoken_directives, text_directives}
use Rattle.trans_data.specs.Laws.{PartsAreServed}

-- a program that serves two lists of directives serves each of them
pub parts_are_served : PartsAreServed
parts_are_served width xs ys p h = (
  record {
    width_is = h.width_is;
    holds = holds_first p xs ys h.holds;
    notes_lines = h.notes_lines;
  },
  record {
    width_is = h.width_is;
    holds = holds_rest p xs ys h.holds;
    notes_lines = h.notes_lines;
  },
)

-- ---- the routines by their codes

abbrev pub tree : Style → Database → ℕ → List ℕ → List Code → RoutineTree
tree style db name locals xs =
    row_routine (routine_names style) (numbers db) (name, locals, xs)

-- a routine whose name isn't that of a line
pub has_it : {p : Program} {r : RoutineTree}
    → ((name : List ℕ) (at : ℕ) → p.notes name at ≡ line_number name)
    → line_number r.name ≡ None → Held p (Routine r) → Has p r
has_it {r = r} notes no_line held = record {
  at = held.0;
  there = held.1;
  unseen = notes r.name held.0 ∙ no_line;
}

pub record HasAll (style : Style) (db : Database) (p : Program) : Type 0 where
  pub place : Has p (tree style db n.PLACE_NAME (n.I ∷ []) h.PLACE)
  pub near : Has p (tree style db n.NEAR_NAME (n.I ∷ []) h.NEAR)
  pub dark : Has p (tree style db n.DARK_NAME [] h.DARK)
  pub count : Has p (tree style db n.COUNT_NAME (n.AT ∷ n.I ∷ n.N ∷ []) h.COUNT)
  pub carried : Has p (tree style db n.CARRIED_NAME [] h.CARRIED)
  pub full : Has p (tree style db n.FULL_NAME [] h.FULL)
  pub say_way : Has p (tree style db n.SAY_WAY (n.I ∷ []) t.WAY)
  pub list_items : Has p (tree style db n.LIST_ITEMS (n.AT ∷ n.I ∷ n.N ∷ []) t.LISTED_ITEMS)
  pub list_exits : Has p (tree style db n.LIST_EXITS (n.I ∷ n.N ∷ []) t.LISTED_EXITS)
  pub look : Has p (tree style db n.LOOK_NAME [] t.LOOK)
  pub inventory : Has p (tree style db n.INVENTORY_NAME [] t.INVENTORY)
  pub stored : Has p (tree style db n.STORED_NAME (n.I ∷ n.N ∷ []) c.STORED)
  pub score : Has p (tree style db n.SCORE_NAME (n.N ∷ []) c.SCORE)
  pub burn : Has p (tree style db n.BURN_NAME [] b.BURN)
  pub hundredths : Has p (tree style db n.HUNDREDTHS_NAME (n.N ∷ [])
      (hundredths_codes db.header.treasures))
  pub say_light : Has p (tree style db n.SAY_LIGHT [] (light_codes style.counted))
  pub light_out : Has p (tree style db n.LIGHT_OUT [] (out_codes style.vanish))
  pub say_item : Has p (text_routine (codes "say_item") (item_texts db))
  pub say_room : Has p (text_routine (codes "say_room") (room_texts style db))
  pub messages : Holds p (message_directives 0 db.messages)

-- a program that serves the routines of texts has each of them
pub all_of_them : (style : Style) (db : Database) (width : Width) (p : Program)
    → Serves width (text_directives style db) p → HasAll style db p
unfolding table_rows routine_names
all_of_them style db width p serves =
    let fixed : Holds p (fixed_directives style db) =
    holds_first p (fixed_directives style db) (spoken_directives style db) serves.holds in
    let table : Holds p (rows_directives (routine_names style) (numbers db) table_rows) =
    holds_first p (rows_directives (routine_names style) (numbers db) table_rows)
    (rows_directives (routine_names style) (numbers db) (chosen_rows style db)) fixed in
    let chosen : Holds p (rows_directives (routine_names style) (numbers db) (chosen_rows style db))
    =
    holds_rest p (rows_directives (routine_names style) (numbers db) table_rows)
    (rows_directives (routine_names style) (numbers db) (chosen_rows style db)) fixed in
    let spoken : Holds p (spoken_directives style db) =
    holds_rest p (fixed_directives style db) (spoken_directives style db) serves.holds in
    record {
      place = has_it serves.notes_lines refl table.0;
      near = has_it serves.notes_lines refl table.1.0;
      dark = has_it serves.notes_lines refl table.1.1.0;
      count = has_it serves.notes_lines refl table.1.1.1.0;
      carried = has_it serves.notes_lines refl table.1.1.1.1.0;
      full = has_it serves.notes_lines refl table.1.1.1.1.1.0;
      say_way = has_it serves.notes_lines refl table.1.1.1.1.1.1.0;
      list_items = has_it serves.notes_lines refl table.1.1.1.1.1.1.1.0;
      list_exits = has_it serves.notes_lines refl table.1.1.1.1.1.1.1.1.0;
      look = has_it serves.notes_lines refl table.1.1.1.1.1.1.1.1.1.0;
      inventory = has_it serves.notes_lines refl table.1.1.1.1.1.1.1.1.1.1.0;
      stored = has_it serves.notes_lines refl table.1.1.1.1.1.1.1.1.1.1.1.0;
      score = has_it serves.notes_lines refl table.1.1.1.1.1.1.1.1.1.1.1.1.0;
      burn = has_it serves.notes_lines refl table.1.1.1.1.1.1.1.1.1.1.1.1.1.0;
      hundredths = has_it serves.notes_lines refl chosen.0;
      say_light = has_it serves.notes_lines refl chosen.1.0;
      light_out = has_it serves.notes_lines refl chosen.1.1.0;
      say_item = has_it serves.notes_lines refl spoken.0;
      say_room = has_it serves.notes_lines refl spoken.1.0;
      messages = spoken.1.1;
    }
