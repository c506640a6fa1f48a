-- How a turn burns the light.
use Rattle.std.specs.Prelude.{ℕ, ◌==◌, ◌&&◌, Bool, true, not, List, [], ◌++◌, ℤ, pos, negsuc, ◌-ℤ◌, int_lt, int_rem, if◌then◌else◌}
use Rattle.std.specs.Ordering.{int_eq}
use Rattle.std.specs.Fmt.{signed_decimal}
use Rattle.scott_types.specs.declared.states.State.{State}
use Rattle.scott_types.specs.declared.styles.Style.{Style}
use Rattle.scott_types.specs.declared.phrases.Phrase.TheVariants.{LightOut, LightDim, LightLasts, LightTurns}
use Rattle.scott_types.specs.State.{place_of, is_near, lamp, out_flag, with_flag, with_place}
use Rattle.scott_types.specs.Phrase.{text_of}
use Rattle.adv_io.specs.Steps.{Traced, traced}

-- the light doesn't burn where the lamp is out of the game, nor where it lasts for ever or is spent
abbrev pub is_burning : State → Bool
is_burning s = not (place_of s lamp == 0) && not (int_eq s.light (negsuc 0))

-- for how many turns the light lasts
abbrev pub turns_text : ℤ → List ℕ
turns_text light = text_of LightLasts ++ (signed_decimal light ++ text_of LightTurns)

-- each fifth turn the light is dim
abbrev pub dim_text : ℤ → List ℕ
dim_text light = if int_eq (int_rem light (pos 5)) (pos 0) then text_of LightDim else []

-- what is said of a light that has fallen: below 1 it is out, and below 25 its turns are counted,
-- or it is dim
abbrev pub light_text : Style → ℤ → List ℕ
light_text style light =
    if int_lt light (pos 1) then text_of LightOut else
    if int_lt light (pos 25) then (if style.counted then turns_text light else dim_text light)
    else []

-- the text is said to who has the lamp or stands beside it
abbrev pub said_near : State → List ℕ → List ℕ
said_near s text = if is_near s lamp then text else []

-- the light is out: its flag is set, and in the style in which it vanishes the lamp goes out of the
-- game
abbrev pub put_out : Style → State → State
put_out style s =
    let out = with_flag s out_flag true in if style.vanish then with_place out lamp 0 else out

-- what a light that has fallen leaves
abbrev pub light_left : Style → State → State
light_left style s = if int_lt s.light (pos 1) then put_out style s else s

-- the light has fallen
abbrev pub light_seen : Style → State → Traced ℕ State
light_seen style s = traced (said_near s (light_text style s.light)) (light_left style s)

abbrev pub light_counted : Style → State → Traced ℕ State
light_counted style s =
    if is_burning s then light_seen style (record s { light = s.light -ℤ pos 1 }) else traced [] s
