-- That the numbers of steps that words give may be given.
use Rattle.std.proofs.Common.{◌≡◌, ℕ, ◌≤◌, List, [], ◌∷◌, Bool, true, false, Option, Some, None, IfSome, refl, arith, lit≤}
use Rattle.std.specs.Prelude.{◌&&◌, nat_le, option_map, unwrap_or, if◌then◌else◌, codes}
use Rattle.std.specs.Option.{option_and_then, option_or}
use Rattle.std.proofs.lemmas.Bool.Decides.{nat_tests}
use Rattle.scott_requests.specs.declared.settings.Kinds.{Kinds}
use Rattle.scott_requests.specs.declared.settings.TheConstants.{MOST_STEPS, USUAL_STEPS}
use Rattle.scott_requests.specs.Parts.{file_name, after_prefix, number_of}
use Rattle.scott_requests.specs.Settings.{AreSteps, Setting, draws, style, opening, saving, pausing, most_steps, word_width, SettingFits, Settings, SettingsFit, listed, seeded, entering, each, style_named, steps_of, width_of, play_setting, position_setting, pause_setting, run_setting, setting_in, play_setting_in, position_setting_in, pause_setting_in, run_setting_in, allows, allowed_in, filled, no_settings, with_setting, settings_from}
use Rattle.scott_requests.specs.Request.{file_and_settings, steps_in}

-- ---- numbers of steps

one-fits : (n : ℕ) → IfSome (if nat_le 1 n && nat_le n MOST_STEPS then Some n else None) AreSteps
one-fits n = decided (nat_le 1 n && nat_le n MOST_STEPS) refl
  where
    decided : (b : Bool) → (nat_le 1 n && nat_le n MOST_STEPS) ≡ b
        → IfSome (if b then Some n else None) AreSteps
    decided true e = (grind (arith, nat_tests, e), grind (arith, nat_tests, e))
    decided false e = tt

some-fit : (o : Option ℕ)
    → IfSome (option_and_then
    (λ n. if nat_le 1 n && nat_le n MOST_STEPS then Some n else None) o) AreSteps
some-fit None = tt
some-fit (Some n) = one-fits n

steps-fit : (digits : List ℕ) → IfSome (steps_of digits) AreSteps
steps-fit digits = some-fit (number_of digits)

-- ---- one setting

abbrev Fits : Option Setting → Type 0
Fits o = IfSome o SettingFits

mapped : {X : Type 0} (P : X → Type 0) (f : X → Setting) → ((x : X) → P x → SettingFits (f x))
    → (o : Option X) → IfSome o P → Fits (option_map f o)
mapped P f all None h = tt
mapped P f all (Some x) h = all x h

abbrev Any : {X : Type 0} → X → Type 0
Any x = Unit {0}

anything : {X : Type 0} (o : Option X) → IfSome o Any
anything None = tt
anything (Some x) = tt

play-fits : (a b c : Option (List ℕ)) → Fits (play_setting a b c)
play-fits (Some name) b c =
    mapped Any (λ n. draws (listed n)) (λ n h. tt) (file_name name) (anything (file_name name))
play-fits None (Some digits) c =
    mapped Any (λ n. draws (seeded n)) (λ n h. tt) (number_of digits) (anything (number_of digits))
play-fits None None (Some letters) =
    mapped Any style (λ n h. tt) (style_named letters) (anything (style_named letters))
play-fits None None None = tt

position-fits : (a b : Option (List ℕ)) → Fits (position_setting a b)
position-fits (Some name) b =
    mapped Any opening (λ n h. tt) (file_name name) (anything (file_name name))
position-fits None (Some name) =
    mapped Any saving (λ n h. tt) (file_name name) (anything (file_name name))
position-fits None None = tt

pause-fits : (a b : Option (List ℕ)) → Fits (pause_setting a b)
pause-fits (Some name) b =
    mapped Any (λ n. pausing (entering n)) (λ n h. tt) (file_name name) (anything (file_name name))
pause-fits None (Some digits) =
    mapped AreSteps (λ n. pausing (each n)) (λ n h. h) (steps_of digits) (steps-fit digits)
pause-fits None None = tt

run-fits : (a b : Option (List ℕ)) → Fits (run_setting a b)
run-fits (Some digits) b =
    mapped AreSteps most_steps (λ n h. h) (steps_of digits) (steps-fit digits)
run-fits None (Some text) = mapped Any word_width (λ n h. tt) (width_of text) (anything (width_of text))
run-fits None None = tt

either : (a b : Option Setting) → Fits a → Fits b → Fits (option_or a b)
either None b first second = second
either (Some x) b first second = first

setting-fits : (word : List ℕ) → Fits (setting_in word)
setting-fits word =
    either (play_setting_in word) _
    (play-fits (after_prefix (codes "draws=") word) (after_prefix (codes "seed=") word)
    (after_prefix (codes "style=") word))
    (either (position_setting_in word) _
    (position-fits (after_prefix (codes "from=") word) (after_prefix (codes "save=") word))
    (either (pause_setting_in word) (run_setting_in word)
    (pause-fits (after_prefix (codes "at=") word) (after_prefix (codes "every=") word))
    (run-fits (after_prefix (codes "steps=") word) (after_prefix (codes "words=") word))))

kept-fits : (kinds : Kinds) (o : Option Setting) → Fits o
    → Fits (option_and_then (λ x. if allows kinds x then Some x else None) o)
kept-fits kinds None h = tt
kept-fits kinds (Some x) h = decided (allows kinds x)
  where
    decided : (b : Bool) → Fits (if b then Some x else None)
    decided true = h
    decided false = tt

-- ---- several settings

placed : {X : Type 0} (o : Option X) (x : X) (f : Option X → Settings) → SettingsFit (f (Some x))
    → IfSome (option_map f (filled o x)) SettingsFit
placed None x f h = h
placed (Some y) x f h = tt

one-more : (s : Settings) (x : Setting) → SettingsFit s → SettingFits x
    → IfSome (with_setting s x) SettingsFit
one-more s (draws source) fit h = placed s.source source (λ p. record s { source = p }) fit
one-more s (style value) fit h = placed s.play_style value (λ p. record s { play_style = p }) fit
one-more s (opening name) fit h = placed s.opened_from name (λ p. record s { opened_from = p }) fit
one-more s (saving name) fit h = placed s.saved_as name (λ p. record s { saved_as = p }) fit
one-more s (pausing pause) fit h = placed s.pause pause (λ p. record s { pause = p }) (h, fit.1)
one-more s (most_steps n) fit h = placed s.steps n (λ p. record s { steps = p }) (fit.0, h)
one-more s (word_width value) fit h = placed s.width value (λ p. record s { width = p }) fit

-- settings that are there, and one more, where those that come of it fit
module _ (next : Settings → Option Settings)
    (rest : (more : Settings) → SettingsFit more → IfSome (next more) SettingsFit) where
  later-fit : (o : Option Settings) → IfSome o SettingsFit
      → IfSome (option_and_then next o) SettingsFit
  later-fit None h = tt
  later-fit (Some more) h = rest more h

  next-fits : (s : Settings) (o : Option Setting) → SettingsFit s → Fits o
      → IfSome (option_and_then (λ x. option_and_then next (with_setting s x)) o) SettingsFit
  next-fits s None fit h = tt
  next-fits s (Some x) fit h = later-fit (with_setting s x) (one-more s x fit h)

all-fit : (kinds : Kinds) (s : Settings) (words : List (List ℕ)) → SettingsFit s
    → IfSome (settings_from kinds s words) SettingsFit
all-fit kinds s [] fit = fit
all-fit kinds s (word ∷ words) fit =
    next-fits (λ more. settings_from kinds more words) (λ more h. all-fit kinds more words h) s
    (allowed_in kinds word) fit (kept-fits kinds (setting_in word) (setting-fits word))

-- ---- a file and its settings

abbrev FileFits : Option (List ℕ × Settings) → Type 0
FileFits o = IfSome o (λ p. SettingsFit p.1)

with-name : (name : Option (List ℕ)) (o : Option Settings) → IfSome o SettingsFit
    → FileFits (option_and_then (λ n. option_map (λ s. (n, s)) o) name)
with-name None o h = tt
with-name (Some n) None h = tt
with-name (Some n) (Some s) h = h

pub file-fits : (kinds : Kinds) (words : List (List ℕ)) → FileFits (file_and_settings kinds words)
file-fits kinds [] = tt
file-fits kinds (file ∷ words) =
    with-name (file_name file) (settings_from kinds no_settings words)
    (all-fit kinds no_settings words (tt, tt))

-- for how many steps a run is asked for
pub given-steps : (s : Settings) → IfSome s.steps AreSteps → AreSteps (steps_in s)
given-steps s fit = by s.steps fit
  where
    by : (o : Option ℕ) → IfSome o AreSteps → AreSteps (unwrap_or o USUAL_STEPS)
    by None h = (lit≤ tt, lit≤ tt)
    by (Some n) h = h
