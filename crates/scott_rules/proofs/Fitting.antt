-- Every state that a play leaves fits its database.
use Rattle.std.proofs.Common.{◌≡◌, ℕ, true, false, List, [], ◌∷◌, ℤ, pos, negsuc, ◌≤ℤ◌, Option, Some, None, sym, ◌∙◌, ◌≢◌, refl, arith}
use Rattle.std.specs.Prelude.{int_lt, ◌-ℤ◌}
use Rattle.std.specs.Ordering.{int_eq}
use Rattle.std.proofs.lemmas.Bool.{cond_both, and_parts, not-true, false≢true}
use Rattle.std.proofs.lemmas.Bool.Decides.{Decides-int_eq}
use Rattle.std.proofs.lemmas.Int.{ints}
use Rattle.scott_types.specs.declared.states.State.{State}
use Rattle.scott_types.specs.declared.styles.Style.{Style}
use Rattle.scott_types.specs.declared.commands.Heard.{Heard}
use Rattle.scott_types.specs.declared.commands.Heard.TheVariants.{Blank, Unknown, Command}
use Rattle.scott_types.specs.declared.endings.Halt.{Halt}
use Rattle.scott_types.specs.declared.endings.Halt.TheVariants.{Through, Waits, Over as AtEnd}
use Rattle.scott_types.specs.declared.endings.Position.{Position}
use Rattle.scott_types.specs.declared.endings.Position.TheVariants.{Fresh, Draw, Line, Over}
use Rattle.scott_types.specs.Style.{Game}
use Rattle.scott_types.specs.Database.{Database}
use Rattle.scott_types.specs.Limits.{KeepsLimits}
use Rattle.scott_types.specs.State.{Fits, start, lamp, out_flag}
use Rattle.adv_io.specs.Steps.{Step, Traced}
use Rattle.scott_rules.specs.Commands.{heard, typed_noun}
use Rattle.scott_rules.specs.Light.{is_burning, put_out, light_left, light_counted}
use Rattle.scott_rules.specs.Groups.{groups, groups_from, automatic}
use Rattle.scott_rules.specs.Rounds.{RoundEnd, unmarked, prompted, advance, turn_ended, by_heard, answer, command_result}
use Rattle.scott_rules.specs.Play.{PlayEnd, with_line, go}
use Rattle.scott_rules.proofs.FittingStates.{Fits-with_flag, Fits-with_place, Fits-redraw, Fits-light}
use Rattle.scott_rules.proofs.FittingCommands.{Fits-automatic, Fits-command_result}

-- a light that isn't spent can last one turn less
less_one_in_range : (light most : ℤ) → (negsuc 0 ≤ℤ light) × (light ≤ℤ most) → int_eq light (negsuc 0) ≡ false
    → (negsuc 0 ≤ℤ (light -ℤ pos 1)) × ((light -ℤ pos 1) ≤ℤ most)
less_one_in_range light most range unspent =
    let differs : light ≢ negsuc 0 = λ same. false≢true (sym unspent ∙ (Decides-int_eq light (negsuc 0)).1 same) in
    omega (arith, ints)

module _ (db : Database) (limits : KeepsLimits db) where
  -- the light goes out, and its lamp may vanish
  Fits-put_out : (style : Style) (s : State) → Fits db s → Fits db (put_out style s)
  Fits-put_out style s fits =
      let out = Fits-with_flag db limits s out_flag true fits in
      cond_both style.vanish _ _ (Fits db) (λ _. Fits-with_place db limits _ lamp 0 refl out) (λ _. out)

  -- a light that has fallen is out, or burns on
  Fits-light_left : (style : Style) (s : State) → Fits db s → Fits db (light_left style s)
  Fits-light_left style s fits = cond_both (int_lt s.light (pos 1)) _ _ (Fits db) (λ _. Fits-put_out style s fits) (λ _. fits)

  -- a turn burns the light
  pub Fits-light_counted : (style : Style) (s : State) → Fits db s → Fits db (light_counted style s).value
  Fits-light_counted style s fits =
      cond_both (is_burning s) _ _ (λ (result : Traced ℕ State). Fits db result.value)
      (λ burns. let unspent = not-true _ (and_parts _ _ burns).1 in
      Fits-light_left style _ (Fits-light db limits s _ (less_one_in_range s.light db.header.light fits.light unspent) fits))
      (λ _. fits)

module _ (game : Game) (limits : KeepsLimits game.db) where
  -- ---- a round

  -- what the automatic step leaves stands at the prompt, at a draw or at the end
  Fits-prompted : (halt : Halt) (s : State) (draws : List ℕ) → Fits game.db s → Fits game.db (prompted halt game s draws).value.state
  Fits-prompted Through s draws fits = Fits-redraw game.db limits s false fits
  Fits-prompted (Waits head) s draws fits = fits
  Fits-prompted (AtEnd ending) s draws fits = fits

  -- everything up to the prompt
  Fits-advance : (position : Position) (s : State) (draws : List ℕ) → Fits game.db s → Fits game.db (advance game position s draws).value.state
  Fits-advance Fresh s draws fits =
      let t = automatic game (groups game.db) (unmarked s) draws in
      Fits-prompted t.value.halt t.value.state t.value.draws (Fits-automatic game limits (groups game.db) (unmarked s) draws (Fits-redraw game.db limits s false fits))
  Fits-advance (Draw head) s draws fits =
      let t = automatic game (groups_from game.db head) s draws in
      Fits-prompted t.value.halt t.value.state t.value.draws (Fits-automatic game limits (groups_from game.db head) s draws fits)
  Fits-advance Line s draws fits = fits
  Fits-advance (Over ending) s draws fits = fits

  -- the end of a turn
  Fits-turn_ended : (style : Style) (over : Option ℕ) (s : State) → Fits game.db s → Fits game.db (turn_ended style over s).value.state
  Fits-turn_ended style None s fits = Fits-light_counted game.db limits style s fits
  Fits-turn_ended style (Some ending) s fits = fits

  -- a line that is understood, or not
  Fits-by_heard : (said : Heard) (line : List ℕ) (s : State) → Fits game.db s → Fits game.db (by_heard said game line s).value.state
  Fits-by_heard Blank line s fits = fits
  Fits-by_heard (Unknown start size) line s fits = fits
  Fits-by_heard (Command verb noun) line s fits =
      let t = command_result game (typed_noun line) verb noun s in
      Fits-turn_ended game.style t.value.over t.value.state (Fits-command_result game limits (typed_noun line) verb noun s fits)

  -- the answer to a line
  Fits-answer : (line : List ℕ) (s : State) → Fits game.db s → Fits game.db (answer game line s).value.state
  Fits-answer line s fits = Fits-by_heard (heard game.db line) line s fits

  -- ---- a play

  -- a line at the prompt, and the rounds after it
  Fits-with_line : (position : Position) (line : List ℕ) (lines : List (List ℕ)) (t : Traced Step RoundEnd) (next : Position → State → List ℕ → Traced Step PlayEnd)
      → Fits game.db t.value.state → ((p : Position) (r : State) (draws : List ℕ) → Fits game.db r → Fits game.db (next p r draws).value.state)
      → Fits game.db (with_line position game line lines t next).value.state
  Fits-with_line Line line lines t next fits keeps =
      let a = answer game line t.value.state in
      keeps a.value.position a.value.state t.value.draws (Fits-answer line t.value.state fits)
  Fits-with_line _ line lines t next fits keeps = fits

  -- the rounds of a play
  pub Fits-go : (position : Position) (s : State) (lines : List (List ℕ)) (draws : List ℕ) → Fits game.db s → Fits game.db (go game position s lines draws).value.state
  unfolding go
  Fits-go position s [] draws fits = Fits-advance position s draws fits
  Fits-go position s (line ∷ lines) draws fits =
      let t = advance game position s draws in
      Fits-with_line t.value.position line lines t (λ p r ds. go game p r lines ds) (Fits-advance position s draws fits)
      (λ p r ds fitting. Fits-go p r lines ds fitting)
