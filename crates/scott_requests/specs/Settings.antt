-- Settings: what stands after a command's files, in any order, each at most once.
use Rattle.std.specs.Prelude.{ℕ, ⊤, ◌≤◌, IfSome, Bool, true, false, ◌&&◌, nat_le, List, [], ◌∷◌, Option, Some, None, option_map, bytes_eq, codes, if◌then◌else◌}
use Rattle.std.specs.Option.{option_and_then, option_or}
use Rattle.inform_tree.specs.declared.widths.Width.{Width}
use Rattle.inform_tree.specs.declared.widths.Width.TheVariants.{W16, W32}
use Rattle.scott_types.specs.declared.styles.Style.{Style}
use Rattle.scott_requests.specs.declared.settings.Kinds.{Kinds}
use Rattle.scott_requests.specs.declared.settings.TheConstants.{MOST_STEPS}
use Rattle.scott_requests.specs.Parts.{file_name, after_prefix, number_of}

-- where the draws of a play come from: the file of this name lists them, or this seed gives them
pub data DrawSource : Type 0 where
  listed : List ℕ → DrawSource
  seeded : ℕ → DrawSource

-- where a run pauses: at each entering of the routine of this name, or each time that so many
-- steps more were used
pub data Pause : Type 0 where
  entering : List ℕ → Pause
  each : ℕ → Pause

-- ---- styles by their letters: `y` for you, `c` for counted and `v` for vanish, in this order

abbrev pub some_style : Bool → Bool → Bool → Option Style
some_style you counted vanish = Some (record { you = you; counted = counted; vanish = vanish })

abbrev pub style_named : List ℕ → Option Style
style_named letters =
    if bytes_eq letters (codes "y") then some_style true false false else
    if bytes_eq letters (codes "c") then some_style false true false else
    if bytes_eq letters (codes "v") then some_style false false true else
    if bytes_eq letters (codes "yc") then some_style true true false else
    if bytes_eq letters (codes "yv") then some_style true false true else
    if bytes_eq letters (codes "cv") then some_style false true true else
    if bytes_eq letters (codes "ycv") then some_style true true true else None

-- ---- what a run is given

-- a number of steps: 1 at least, and no more than may be given
abbrev pub steps_of : List ℕ → Option ℕ
steps_of digits =
    option_and_then (λ n. if nat_le 1 n && nat_le n MOST_STEPS then Some n else None)
    (number_of digits)

-- what may be given
abbrev pub AreSteps : ℕ → Type 0
AreSteps n = (1 ≤ n) × (n ≤ MOST_STEPS)

-- a width of words
abbrev pub width_of : List ℕ → Option Width
width_of text =
    if bytes_eq text (codes "16") then Some W16 else if bytes_eq text (codes "32") then Some W32
    else None

-- ---- one setting

-- a setting, by the place that it takes
pub data Setting : Type 0 where
  draws : DrawSource → Setting
  style : Style → Setting
  opening : List ℕ → Setting
  saving : List ℕ → Setting
  pausing : Pause → Setting
  most_steps : ℕ → Setting
  word_width : Width → Setting

-- a setting of a play, by what follows `draws=`, what follows `seed=` and what follows `style=`
abbrev pub play_setting : Option (List ℕ) → Option (List ℕ) → Option (List ℕ) → Option Setting
play_setting (Some name) digits letters = option_map (λ n. draws (listed n)) (file_name name)
play_setting None (Some digits) letters = option_map (λ n. draws (seeded n)) (number_of digits)
play_setting None None (Some letters) = option_map style (style_named letters)
play_setting None None None = None

-- a setting that names the file of a position, by what follows `from=` and what follows `save=`
abbrev pub position_setting : Option (List ℕ) → Option (List ℕ) → Option Setting
position_setting (Some name) other = option_map opening (file_name name)
position_setting None (Some name) = option_map saving (file_name name)
position_setting None None = None

-- a setting that says where a run pauses, by what follows `at=` and what follows `every=`
abbrev pub pause_setting : Option (List ℕ) → Option (List ℕ) → Option Setting
pause_setting (Some name) digits = option_map (λ n. pausing (entering n)) (file_name name)
pause_setting None (Some digits) = option_map (λ n. pausing (each n)) (steps_of digits)
pause_setting None None = None

-- a setting of a run alone, by what follows `steps=` and what follows `words=`
abbrev pub run_setting : Option (List ℕ) → Option (List ℕ) → Option Setting
run_setting (Some digits) text = option_map most_steps (steps_of digits)
run_setting None (Some text) = option_map word_width (width_of text)
run_setting None None = None

abbrev pub play_setting_in : List ℕ → Option Setting
play_setting_in word =
    play_setting (after_prefix (codes "draws=") word) (after_prefix (codes "seed=") word)
    (after_prefix (codes "style=") word)

abbrev pub position_setting_in : List ℕ → Option Setting
position_setting_in word =
    position_setting (after_prefix (codes "from=") word) (after_prefix (codes "save=") word)

abbrev pub pause_setting_in : List ℕ → Option Setting
pause_setting_in word =
    pause_setting (after_prefix (codes "at=") word) (after_prefix (codes "every=") word)

abbrev pub run_setting_in : List ℕ → Option Setting
run_setting_in word =
    run_setting (after_prefix (codes "steps=") word) (after_prefix (codes "words=") word)

-- the setting that a word is
abbrev pub setting_in : List ℕ → Option Setting
setting_in word =
    option_or (play_setting_in word)
    (option_or (position_setting_in word)
    (option_or (pause_setting_in word) (run_setting_in word)))

-- ---- which kinds of settings a form allows; what it doesn't name it refuses

abbrev pub no_kinds : Kinds
no_kinds =
    record {
      draws = false;
      style = false;
      opening = false;
      saving = false;
      pauses = false;
      steps = false;
      words = false;
    }

abbrev pub allows : Kinds → Setting → Bool
allows kinds (draws source) = kinds.draws
allows kinds (style value) = kinds.style
allows kinds (opening name) = kinds.opening
allows kinds (saving name) = kinds.saving
allows kinds (pausing pause) = kinds.pauses
allows kinds (most_steps n) = kinds.steps
allows kinds (word_width value) = kinds.words

-- the setting that a word is, where its kind is allowed
abbrev pub allowed_in : Kinds → List ℕ → Option Setting
allowed_in kinds word =
    option_and_then (λ setting. if allows kinds setting then Some setting else None)
    (setting_in word)

-- ---- several settings

-- a place for each kind
pub record Settings : Type 0 where
  pub source : Option DrawSource
  pub play_style : Option Style
  pub opened_from : Option (List ℕ)
  pub saved_as : Option (List ℕ)
  pub pause : Option Pause
  pub steps : Option ℕ
  pub width : Option Width

abbrev pub no_settings : Settings
no_settings =
    record {
      source = None;
      play_style = None;
      opened_from = None;
      saved_as = None;
      pause = None;
      steps = None;
      width = None;
    }

-- the numbers of steps that a pause, a setting and settings have may be given

abbrev pub PauseFits : Pause → Type 0
PauseFits (entering name) = ⊤
PauseFits (each n) = AreSteps n

abbrev pub SettingFits : Setting → Type 0
SettingFits (pausing pause) = PauseFits pause
SettingFits (most_steps n) = AreSteps n
SettingFits other = ⊤

abbrev pub SettingsFit : Settings → Type 0
SettingsFit settings = IfSome settings.pause PauseFits × IfSome settings.steps AreSteps

-- a free place is filled; one that is taken refuses
abbrev pub filled : {X : Type 0} → Option X → X → Option (Option X)
filled None value = Some (Some value)
filled (Some other) value = None

-- one setting more, where its place is free
abbrev pub with_setting : Settings → Setting → Option Settings
with_setting settings (draws source) =
    option_map (λ place. record settings { source = place }) (filled settings.source source)
with_setting settings (style value) =
    option_map (λ place. record settings { play_style = place }) (filled settings.play_style value)
with_setting settings (opening name) =
    option_map (λ place. record settings { opened_from = place }) (filled settings.opened_from name)
with_setting settings (saving name) =
    option_map (λ place. record settings { saved_as = place }) (filled settings.saved_as name)
with_setting settings (pausing pause) =
    option_map (λ place. record settings { pause = place }) (filled settings.pause pause)
with_setting settings (most_steps n) =
    option_map (λ place. record settings { steps = place }) (filled settings.steps n)
with_setting settings (word_width value) =
    option_map (λ place. record settings { width = place }) (filled settings.width value)

-- the settings that words are, after some, where all are of these kinds
abbrev pub settings_from : Kinds → Settings → List (List ℕ) → Option Settings
settings_from kinds settings [] = Some settings
settings_from kinds settings (word ∷ words) =
    option_and_then
    (λ setting. option_and_then (λ more. settings_from kinds more words)
    (with_setting settings setting)) (allowed_in kinds word)
