-- What is known of a program that has the routines of commands.
use Rattle.std.proofs.Common.{◌≤◌, List, [], ◌∷◌, length, codes}
use Rattle.inform_meaning.specs.Worlds.{Program}
use Rattle.inform_logic.specs.Holding.{Has}
use Rattle.inform_tree.specs.Statements.{Statements}
use Rattle.inform_codes.specs.declared.codes.Code.{Code}
use Rattle.inform_codes.specs.Grown.{body_of}
use Rattle.inform_codes.specs.Routines.{Row, row_routine}
use Rattle.scott_types.specs.declared.styles.Style.{Style}
use Rattle.scott_types.specs.Database.{Database}
use Rattle.scott_types.specs.Limits.{KeepsLimits}
use Rattle.scott_types.specs.Style.{in_style}
use Rattle.scott_rules.specs.Laws.{WalkFits, TransferFits, WordNamesLeastMatch}
use Rattle.trans_specs.proofs.Lengths.{few}
use Rattle.trans_specs.specs.HelperSpecs.{HelperSpecs}
use Rattle.trans_specs.specs.CommandSpecs.{SearchSpec}
use Rattle.trans_specs.specs.Laws.{ExitsStand, ClassesTell}
use Rattle.trans_specs.specs.Writes.{GlobalsWritten, EntriesWritten}
use Rattle.trans_commands.specs.declared.names.TheConstants.{COMMAND_NAME, OBEY_NAME, WALK_NAME, NO_WAY_NAME, TRANSFER_NAME, IS_ALL_NAME, MOVE_ALL_NAME, MOVE_NEXT_NAME, MOVE_ONE_NAME, FIND_ITEM_NAME, AT_HAND_NAME, CAN_TAKE_NAME, IS_REFUSED_NAME, PUT_ITEM_NAME, VERB, NOUN, MARK, CLASS, ROOM, INDEX}
use Rattle.trans_commands.specs.declared.commanding.TheConstants.{COMMAND, OBEY}
use Rattle.trans_commands.specs.declared.walking.TheConstants.{WALK, NO_WAY}
use Rattle.trans_commands.specs.declared.transfers.TheConstants.{TRANSFER, IS_ALL, MOVE_ALL, MOVE_NEXT, MOVE_ONE}
use Rattle.trans_commands.specs.declared.items.TheConstants.{AT_HAND, CAN_TAKE, IS_REFUSED, PUT_ITEM, FIND_ITEM}
use Rattle.trans_commands.specs.Names.{command_names, helper_names}

-- the laws on which the proofs stand
pub record Laws : Type 0 where
  pub walk_fits : WalkFits
  pub transfer_fits : TransferFits
  pub least_match : WordNamesLeastMatch
  pub globals_written : GlobalsWritten
  pub entries_written : EntriesWritten
  pub exits_stand : ExitsStand
  pub classes_tell : ClassesTell

-- the body that codes are in these games
abbrev pub body : Style → Database → List Code → Statements
body style db xs = body_of (command_names style) (length db.items ∷ []) xs

-- a program has the routine of a row, and doesn't note it
abbrev pub Own : Style → Database → Program → Row → Type 0
Own style db p row = Has p (row_routine (command_names style) (length db.items ∷ []) row)

pub record Known (style : Style) (db : Database) (p : Program) : Type 0 where
  pub limits : KeepsLimits db
  pub laws : Laws
  pub helpers : HelperSpecs (in_style style db) p helper_names
  pub searches : SearchSpec (in_style style db) p (codes "search")
  pub command : Own style db p (COMMAND_NAME, [], COMMAND)
  pub obey : Own style db p (OBEY_NAME, VERB ∷ NOUN ∷ MARK ∷ [], OBEY)
  pub walk : Own style db p (WALK_NAME, NOUN ∷ ROOM ∷ [], WALK)
  pub no_way : Own style db p (NO_WAY_NAME, [], NO_WAY)
  pub transfer : Own style db p (TRANSFER_NAME, VERB ∷ NOUN ∷ [], TRANSFER)
  pub is_all : Own style db p (IS_ALL_NAME, [], IS_ALL)
  pub move_all : Own style db p (MOVE_ALL_NAME, VERB ∷ INDEX ∷ MARK ∷ [], MOVE_ALL)
  pub move_next : Own style db p (MOVE_NEXT_NAME, VERB ∷ INDEX ∷ [], MOVE_NEXT)
  pub move_one : Own style db p (MOVE_ONE_NAME, VERB ∷ NOUN ∷ INDEX ∷ [], MOVE_ONE)
  pub find_item : Own style db p (FIND_ITEM_NAME, VERB ∷ CLASS ∷ INDEX ∷ [], FIND_ITEM)
  pub at_hand : Own style db p (AT_HAND_NAME, VERB ∷ INDEX ∷ [], AT_HAND)
  pub can_take : Own style db p (CAN_TAKE_NAME, VERB ∷ INDEX ∷ [], CAN_TAKE)
  pub is_refused : Own style db p (IS_REFUSED_NAME, VERB ∷ [], IS_REFUSED)
  pub put_item : Own style db p (PUT_ITEM_NAME, VERB ∷ INDEX ∷ [], PUT_ITEM)

-- there are 255 items at most
pub few_items : {style : Style} {db : Database} {p : Program} → Known style db p
    → length db.items ≤ 255
few_items {db = db} known = few 255 db.items known.limits.sizes.items
