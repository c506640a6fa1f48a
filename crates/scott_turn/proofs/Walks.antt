-- What a walk says, and what it leaves.
use Rattle.std.proofs.Common.{◌≡◌, ◌∙◌, ℕ, ◌-◌, Bool, true, false, cond, List, [], ◌++◌, length, Option, Some, None, Result, refl, sym, ap}
use Rattle.std.proofs.lemmas.List.{map-append}
use Rattle.std.specs.Prelude.{◌==◌, ◌&&◌}
use Rattle.adv_io.specs.History.{says}
use Rattle.adv_io.specs.Console.{ConsoleView, Speaks}
use Rattle.scott_types.specs.declared.states.State.{State}
use Rattle.scott_types.specs.declared.styles.Style.{Style}
use Rattle.scott_types.specs.declared.phrases.Phrase.TheVariants.{DarkMove, Moved, BrokenNeck, NoExitThere}
use Rattle.scott_types.specs.Style.{Game}
use Rattle.scott_types.specs.Database.{Database, room_at}
use Rattle.scott_types.specs.Phrase.{text_of, text_in}
use Rattle.scott_types.specs.Room.{exit_of}
use Rattle.scott_types.specs.State.{is_dark}
use Rattle.adv_io.specs.Steps.{Said, said_steps, shown_of, traced_text}
use Rattle.scott_rules.specs.Progress.{goes_on}
use Rattle.scott_rules.specs.Opcodes.{by_fall}
use Rattle.scott_rules.specs.Rounds.{no_way, moved_to, way, walk_result}
use Rattle.scott_turn.specs.Ways.{way_text, way_over}
use Rattle.scott_turn.proofs.Showing.{shown_said}

way-events : (style : Style) (none dark : Bool) (room : ℕ) (s : State) → (cond none (no_way style dark s) (traced_text (text_of Moved) (goes_on (moved_to room s)))).events ≡ said_steps (cond none (cond dark (text_in style BrokenNeck) (text_in style NoExitThere)) (text_of Moved))
way-events style true true room s = refl
way-events style true false room s = refl
way-events style false dark room s = refl

way-over : (style : Style) (none dark : Bool) (room : ℕ) (s : State) → (cond none (no_way style dark s) (traced_text (text_of Moved) (goes_on (moved_to room s)))).value.over ≡ cond (none && dark) (Some by_fall) None
way-over style true true room s = refl
way-over style true false room s = refl
way-over style false dark room s = refl

-- the room beyond an exit
abbrev pub beyond_exit : Database → ℕ → State → ℕ
beyond_exit db noun s = exit_of (length db.rooms) (room_at db s.room).exits (noun - 1)

-- what a walk shows: the warning, and what is said of the way
pub walk_result-shown_of : (game : Game) (noun : ℕ) (s : State) (room : ℕ) (dark : Bool) → room ≡ beyond_exit game.db noun s → dark ≡ is_dark s
    → shown_of (walk_result game noun s).events ≡ says (cond dark (text_of DarkMove) [] ++ way_text game.style dark room)
walk_result-shown_of game noun s room dark is_room is_dark_now =
    let shown : (walk_result game noun s).events ≡ said_steps (cond (is_dark s) (text_of DarkMove) [] ++ way_text game.style (is_dark s) (beyond_exit game.db noun s)) =
    ap (λ es. said_steps (cond (is_dark s) (text_of DarkMove) []) ++ es) (way-events game.style (beyond_exit game.db noun s == 0) (is_dark s) (beyond_exit game.db noun s) s)
    ∙ sym (map-append Said (cond (is_dark s) (text_of DarkMove) []) (way_text game.style (is_dark s) (beyond_exit game.db noun s))) in
    ap shown_of shown
    ∙ shown_said (cond (is_dark s) (text_of DarkMove) [] ++ way_text game.style (is_dark s) (beyond_exit game.db noun s))
    ∙ rw (is_room, is_dark_now) refl

-- how a walk ends
walk_result-over : (game : Game) (noun : ℕ) (s : State) (room : ℕ) (dark : Bool) → room ≡ beyond_exit game.db noun s → dark ≡ is_dark s → (walk_result game noun s).value.over ≡ way_over dark room
walk_result-over game noun s room dark is_room is_dark_now =
    way-over game.style (beyond_exit game.db noun s == 0) (is_dark s) (beyond_exit game.db noun s) s ∙ rw (is_room, is_dark_now) refl

-- what a walk leaves, and how it ends
pub walk_left : (game : Game) (noun : ℕ) (s : State) (room : ℕ) (dark : Bool) (new : State) (over : Option ℕ) → room ≡ beyond_exit game.db noun s → dark ≡ is_dark s
    → new ≡ (way game.style room s).value.state → over ≡ way_over dark room → (walk_result game noun s).value ≡ record { state = new; over = over }
walk_left game noun s room dark new over is_room is_dark_now state ends =
    rw (state, ends, ← walk_result-over game noun s room dark is_room is_dark_now, is_room) refl

-- what said the warning and the text of the way has told the walk
pub walk_as_rules : {T E : Type 0} {old new : ConsoleView} {r : Result T E} (game : Game) (noun : ℕ) (s : State) (room : ℕ) (dark : Bool) (text : List ℕ) → room ≡ beyond_exit game.db noun s → dark ≡ is_dark s
    → text ≡ cond dark (text_of DarkMove) [] ++ way_text game.style dark room
    → Speaks old new r (says text)
    → Speaks old new r (shown_of (walk_result game noun s).events)
walk_as_rules game noun s room dark text is_room is_dark_now is_text said =
    rw (walk_result-shown_of game noun s room dark is_room is_dark_now, ← is_text) said
