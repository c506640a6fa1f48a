-- What the automatic step, the search and the commands leave fits the database.
use Rattle.std.proofs.Common.{ℕ, ◌+◌, ◌-◌, ◌==◌, Bool, true, false, List, [], ◌∷◌, length, nat_lt, nat_le, ℤ, pos, negsuc, Option, Some, None, refl}
use Rattle.std.specs.Prelude.{◌&&◌, IsTrue, slice_index_or}
use Rattle.std.proofs.lemmas.Bool.{cond_both, and_parts}
use Rattle.scott_types.specs.declared.states.State.{State}
use Rattle.scott_types.specs.declared.styles.Style.{Style}
use Rattle.scott_types.specs.declared.parts.Item.{Item}
use Rattle.scott_types.specs.declared.commands.Column.TheVariants.{Nouns}
use Rattle.scott_types.specs.declared.endings.Ran.{Ran}
use Rattle.scott_types.specs.declared.endings.Ran.TheVariants.{Not, Passed, Over as Ended}
use Rattle.scott_types.specs.declared.endings.Found.{Found}
use Rattle.scott_types.specs.declared.endings.Found.TheVariants.{Over, Done}
use Rattle.scott_types.specs.declared.endings.Transfer.{Transfer}
use Rattle.scott_types.specs.declared.endings.Transfer.TheVariants.{PickUp, PutDown}
use Rattle.scott_types.specs.ItemText.{get_word}
use Rattle.scott_types.specs.Action.{verb_of, noun_of}
use Rattle.scott_types.specs.Style.{Game}
use Rattle.scott_types.specs.Database.{Database, room_at}
use Rattle.scott_types.specs.Limits.{KeepsLimits}
use Rattle.scott_types.specs.Room.{room_beyond}
use Rattle.scott_types.specs.State.{is_place, Fits, is_room_of, is_dark}
use Rattle.adv_io.specs.Steps.{Step, Traced}
use Rattle.scott_rules.specs.Words.{root, which}
use Rattle.scott_rules.specs.Commands.{go_verb, get_verb, drop_verb, is_direction}
use Rattle.scott_rules.specs.Actions.{ActionOutcome}
use Rattle.scott_rules.specs.Groups.{Group, AutoOutcome, group_tried, groups, over_of, auto_after, auto_tried, auto_drawn, auto_group, automatic}
use Rattle.scott_rules.specs.Search.{SearchOutcome, search_after, search_group, is_for, search_result}
use Rattle.scott_rules.specs.Transfer.{AllOutcome, verb_for, destination, transferred, is_refused, is_taken, all_moved, all_after, all_item, all_items, is_too_dark, all_from, item_named, one_moved, one_from, one_transferred, is_all, transfer}
use Rattle.scott_rules.specs.Rounds.{no_way, way, walk_result, unmatched, by_found, by_actions, going, command_result}
use Rattle.scott_rules.proofs.FittingStates.{place_from_room, is_room-zero, Fits-with_place, Fits-redraw, Fits-room}
use Rattle.scott_rules.proofs.FittingActions.{LeavesFitting, Fits-group_tried}

module _ (db : Database) (limits : KeepsLimits db) where
  -- where items are brought is a place
  is_place-destination : (t : Transfer) (s : State) → Fits db s → IsTrue (is_place (destination t s))
  is_place-destination PickUp s fits = refl
  is_place-destination PutDown s fits = place_from_room db limits s.room fits.rooms.room

  -- an item is brought there
  pub Fits-transferred : (t : Transfer) (item : ℕ) (s : State) → Fits db s → Fits db (transferred t item s)
  Fits-transferred t item s fits =
      Fits-redraw db limits _ true (Fits-with_place db limits s item (destination t s) (is_place-destination t s fits) fits)

  -- an exit leads to a room, or to none
  is_room-room_beyond : (exit : ℤ) → IsTrue (is_room_of db (room_beyond (length db.rooms) exit))
  is_room-room_beyond (pos n) =
      cond_both (nat_lt 0 n && nat_lt n (length db.rooms)) n 0 (λ room. IsTrue (is_room_of db room))
      (λ inside. (and_parts _ _ inside).1) (λ _. is_room-zero db limits)
  is_room-room_beyond (negsuc n) = is_room-zero db limits

module _ (game : Game) (limits : KeepsLimits game.db) where
  -- ---- the automatic step

  -- what comes next keeps a state fitting, whatever draws are left
  abbrev KeepsAutomatic : (State → List ℕ → Traced Step AutoOutcome) → Type 0
  KeepsAutomatic next = (r : State) (draws : List ℕ) → Fits game.db r → Fits game.db (next r draws).value.state

  -- the groups after one, unless the game is over
  Fits-auto_after : (over : Option ℕ) (t : Traced Step ActionOutcome) (draws : List ℕ) (next : State → List ℕ → Traced Step AutoOutcome)
      → Fits game.db t.value.state → KeepsAutomatic next → Fits game.db (auto_after over t draws next).value.state
  Fits-auto_after None t draws next fits keeps = keeps t.value.state draws fits
  Fits-auto_after (Some ending) t draws next fits keeps = fits

  -- a group that a draw lets in or not
  Fits-auto_tried : (drawn : Bool) (g : Group) (s : State) (draws : List ℕ) (next : State → List ℕ → Traced Step AutoOutcome)
      → Fits game.db s → KeepsAutomatic next → Fits game.db (auto_tried drawn game g s draws next).value.state
  Fits-auto_tried true g s draws next fits keeps =
      let t = group_tried game [] g s in
      Fits-auto_after (over_of t.value.ran) t draws next (Fits-group_tried game limits [] g s fits) keeps
  Fits-auto_tried false g s draws next fits keeps = keeps s draws fits

  -- a group that takes a draw, or waits for it
  Fits-auto_drawn : (g : Group) (s : State) (draws : List ℕ) (next : State → List ℕ → Traced Step AutoOutcome)
      → Fits game.db s → KeepsAutomatic next → Fits game.db (auto_drawn game g s draws next).value.state
  Fits-auto_drawn g s [] next fits keeps = fits
  Fits-auto_drawn g s (draw ∷ draws) next fits keeps = Fits-auto_tried (nat_le draw (noun_of g.vocab)) g s draws next fits keeps

  -- a group, automatic or not
  Fits-auto_group : (is_automatic : Bool) (g : Group) (s : State) (draws : List ℕ) (next : State → List ℕ → Traced Step AutoOutcome)
      → Fits game.db s → KeepsAutomatic next → Fits game.db (auto_group is_automatic game g s draws next).value.state
  Fits-auto_group true g s draws next fits keeps = Fits-auto_drawn g s draws next fits keeps
  Fits-auto_group false g s draws next fits keeps = keeps s draws fits

  -- the whole step
  pub Fits-automatic : (gs : List Group) (s : State) (draws : List ℕ) → Fits game.db s → Fits game.db (automatic game gs s draws).value.state
  Fits-automatic [] s draws fits = fits
  Fits-automatic (g ∷ gs) s draws fits = Fits-auto_group (verb_of g.vocab == 0) g s draws (automatic game gs) fits (Fits-automatic gs)

  -- ---- the search

  -- what comes next in the search keeps a state fitting
  abbrev KeepsSearched : (State → Traced Step SearchOutcome) → Type 0
  KeepsSearched next = (r : State) → Fits game.db r → Fits game.db (next r).value.state

  -- the groups after one whose head was tried
  Fits-search_after : (ran : Ran) (t : Traced Step ActionOutcome) (next : State → Traced Step SearchOutcome)
      → Fits game.db t.value.state → KeepsSearched next → Fits game.db (search_after ran t next).value.state
  Fits-search_after Not t next fits keeps = keeps t.value.state fits
  Fits-search_after (Passed more) t next fits keeps = fits
  Fits-search_after (Ended ending) t next fits keeps = fits

  -- a group, for the command or not
  Fits-search_group : (is_meant : Bool) (typed : List ℕ) (g : Group) (s : State) (next : State → Traced Step SearchOutcome)
      → Fits game.db s → KeepsSearched next → Fits game.db (search_group is_meant game typed g s next).value.state
  Fits-search_group true typed g s next fits keeps =
      let t = group_tried game typed g s in
      Fits-search_after t.value.ran t next (Fits-group_tried game limits typed g s fits) keeps
  Fits-search_group false typed g s next fits keeps = keeps s fits

  -- the whole search
  Fits-search_result : (typed : List ℕ) (verb : ℕ) (noun : Option ℕ) (gs : List Group) (s : State)
      → Fits game.db s → Fits game.db (search_result game typed verb noun gs s).value.state
  Fits-search_result typed verb noun [] s fits = fits
  Fits-search_result typed verb noun (g ∷ gs) s fits =
      Fits-search_group (is_for verb noun g) typed g s (search_result game typed verb noun gs) fits (Fits-search_result typed verb noun gs)

  -- ---- getting and dropping

  -- what comes next in a walk over the items keeps a state fitting
  abbrev KeepsAllResult : (State → Traced Step AllOutcome) → Type 0
  KeepsAllResult next = (r : State) → Fits game.db r → Fits game.db (next r).value.state

  -- an item is brought, or refused
  Fits-all_moved : (refused : Bool) (style : Style) (t : Transfer) (i : ℕ) (item : Item) (s : State) (next : State → Traced Step AllOutcome)
      → Fits game.db s → KeepsAllResult next → Fits game.db (all_moved refused style t i item s next).value.state
  Fits-all_moved true style t i item s next fits keeps = fits
  Fits-all_moved false style t i item s next fits keeps = keeps (transferred t i s) (Fits-transferred game.db limits t i s fits)

  -- the same after the item's lines
  Fits-all_after : (found : Found) (t : Transfer) (i : ℕ) (item : Item) (s : State) (next : State → Traced Step AllOutcome)
      → Fits game.db s → KeepsAllResult next → Fits game.db (all_after found t game i item s next).value.state
  Fits-all_after (Over ending) t i item s next fits keeps = fits
  Fits-all_after _ t i item s next fits keeps = Fits-all_moved (is_refused t game.db s) game.style t i item s next fits keeps

  -- an item, taken or not
  Fits-all_item : (any_taken : Bool) (t : Transfer) (typed : List ℕ) (i : ℕ) (item : Item) (s : State) (next : State → Traced Step AllOutcome)
      → Fits game.db s → KeepsAllResult next → Fits game.db (all_item any_taken t game typed i item s next).value.state
  Fits-all_item true t typed i item s next fits keeps =
      let noun = which game.db Nouns (get_word item.text) in
      let found = search_result game typed (verb_for t) noun (groups game.db) s in
      Fits-all_after found.value.found t i item found.value.state next (Fits-search_result typed (verb_for t) noun (groups game.db) s fits) keeps
  Fits-all_item false t typed i item s next fits keeps = keeps s fits

  -- all items
  Fits-all_items : (t : Transfer) (typed : List ℕ) (i : ℕ) (items : List Item) (s : State) → Fits game.db s → Fits game.db (all_items t game typed i items s).value.state
  Fits-all_items t typed i [] s fits = fits
  Fits-all_items t typed i (item ∷ items) s fits =
      Fits-all_item (is_taken t i item s) t typed i item s (all_items t game typed (i + 1) items) fits (Fits-all_items t typed (i + 1) items)

  -- all items, unless it is too dark
  Fits-all_from : (too_dark : Bool) (t : Transfer) (typed : List ℕ) (s : State) → Fits game.db s → Fits game.db (all_from too_dark t game typed s).value.state
  Fits-all_from true t typed s fits = fits
  Fits-all_from false t typed s fits = Fits-all_items t typed 0 game.db.items s fits

  -- one item, or none
  Fits-one_moved : (style : Style) (t : Transfer) (item : Option ℕ) (s : State) → Fits game.db s → Fits game.db (one_moved style t item s).value.state
  Fits-one_moved style t None s fits = fits
  Fits-one_moved style t (Some item) s fits = Fits-transferred game.db limits t item s fits

  -- one item, unless it is refused
  Fits-one_from : (refused : Bool) (t : Transfer) (noun : ℕ) (s : State) → Fits game.db s → Fits game.db (one_from refused t game noun s).value.state
  Fits-one_from true t noun s fits = fits
  Fits-one_from false t noun s fits = Fits-one_moved game.style t (item_named t game.db.header.length (root game.db noun) 0 game.db.items s) s fits

  -- one item, where a noun is given
  Fits-one_transferred : (t : Transfer) (noun : Option ℕ) (s : State) → Fits game.db s → Fits game.db (one_transferred t game noun s).value.state
  Fits-one_transferred t None s fits = fits
  Fits-one_transferred t (Some noun) s fits = Fits-one_from (is_refused t game.db s) t noun s fits

  -- getting or dropping
  Fits-transfer : (t : Transfer) (typed : List ℕ) (noun : Option ℕ) (s : State) → Fits game.db s → Fits game.db (transfer t game typed noun s).value.state
  Fits-transfer t typed noun s fits =
      cond_both (is_all typed) _ _ (LeavesFitting game.db)
      (λ _. Fits-all_from (is_too_dark t s) t typed s fits) (λ _. Fits-one_transferred t noun s fits)

  -- ---- moving

  -- no exit is there
  Fits-no_way : (style : Style) (dark : Bool) (s : State) → Fits game.db s → Fits game.db (no_way style dark s).value.state
  Fits-no_way style true s fits = fits
  Fits-no_way style false s fits = fits

  -- a way to a room, or none
  Fits-way : (style : Style) (room : ℕ) (s : State) → IsTrue (is_room_of game.db room) → Fits game.db s → Fits game.db (way style room s).value.state
  Fits-way style room s is_room fits =
      let went = Fits-redraw game.db limits _ true (Fits-room game.db limits s room is_room fits) in
      cond_both (room == 0) _ _ (LeavesFitting game.db) (λ _. Fits-no_way style (is_dark s) s fits) (λ _. went)

  -- a walk in a direction
  pub Fits-walk_result : (noun : ℕ) (s : State) → Fits game.db s → Fits game.db (walk_result game noun s).value.state
  Fits-walk_result noun s fits =
      let exit = slice_index_or (room_at game.db s.room).exits (noun - 1) (pos 0) in
      Fits-way game.style (room_beyond (length game.db.rooms) exit) s (is_room-room_beyond game.db limits exit) fits

  -- ---- a command

  -- a command for which no head passed
  Fits-unmatched : (typed : List ℕ) (verb : ℕ) (noun : Option ℕ) (found : Found) (s : State)
      → Fits game.db s → Fits game.db (unmatched game typed verb noun found s).value.state
  Fits-unmatched typed verb noun found s fits =
      let dropped = cond_both (verb == drop_verb) _ _ (LeavesFitting game.db)
      (λ _. Fits-transfer PutDown typed noun s fits) (λ _. fits) in
      cond_both (verb == get_verb) _ _ (LeavesFitting game.db)
      (λ _. Fits-transfer PickUp typed noun s fits) (λ _. dropped)

  -- a command after its search
  Fits-by_found : (found : Found) (typed : List ℕ) (verb : ℕ) (noun : Option ℕ) (s : State)
      → Fits game.db s → Fits game.db (by_found found game typed verb noun s).value.state
  Fits-by_found (Over ending) typed verb noun s fits = fits
  Fits-by_found Done typed verb noun s fits = fits
  Fits-by_found found typed verb noun s fits = Fits-unmatched typed verb noun found s fits

  -- a command that is searched
  Fits-by_actions : (typed : List ℕ) (verb : ℕ) (noun : Option ℕ) (s : State) → Fits game.db s → Fits game.db (by_actions game typed verb noun s).value.state
  Fits-by_actions typed verb noun s fits =
      let t = search_result game typed verb noun (groups game.db) s in
      Fits-by_found t.value.found typed verb noun t.value.state (Fits-search_result typed verb noun (groups game.db) s fits)

  -- going
  Fits-going : (typed : List ℕ) (noun : Option ℕ) (s : State) → Fits game.db s → Fits game.db (going game typed noun s).value.state
  Fits-going typed None s fits = fits
  Fits-going typed (Some noun) s fits =
      cond_both (is_direction noun) _ _ (LeavesFitting game.db)
      (λ _. Fits-walk_result noun s fits) (λ _. Fits-by_actions typed go_verb (Some noun) s fits)

  -- any command
  pub Fits-command_result : (typed : List ℕ) (verb : ℕ) (noun : Option ℕ) (s : State) → Fits game.db s → Fits game.db (command_result game typed verb noun s).value.state
  Fits-command_result typed verb noun s fits =
      cond_both (verb == go_verb) _ _ (LeavesFitting game.db)
      (λ _. Fits-going typed noun s fits) (λ _. Fits-by_actions typed verb noun s fits)
