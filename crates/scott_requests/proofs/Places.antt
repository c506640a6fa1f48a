-- Settings, word by word.
use Rattle.std.proofs.Common.{◌≡◌, ◌∙◌, ℕ, ◌+◌, ◌<◌, List, ◌∷◌, suc, map, length, get_or, drop, drop-cons, add-one, sym, ap, Option, Some, None, String, string_bytes}
use Rattle.std.specs.Option.{option_and_then}
use Rattle.scott_requests.specs.declared.settings.Kinds.{Kinds}
use Rattle.scott_requests.specs.Settings.{Setting, Settings, allowed_in, with_setting, settings_from}

-- the words from here on, of which this is the first
from_here : {Z : Type 0} (words : List (String Z)) (word : String Z) (i : ℕ) → i < length words
    → word ≡ get_or words i word → drop i words ≡ word ∷ drop (i + 1) words
from_here words word i less is = rw (add-one, drop-cons words i word) (ap (λ w. w ∷ drop
    (suc i) words) (sym is))

module _ (kinds : Kinds) (s : Settings) (word : List ℕ) (rest : List (List ℕ)) where
  abbrev after_setting : Setting → Option Settings
  after_setting setting = option_and_then (λ more. settings_from kinds more rest)
      (with_setting s setting)

  word_refused : None ≡ allowed_in kinds word → settings_from kinds s (word ∷ rest) ≡ None
  word_refused unread = sym (ap (option_and_then after_setting) unread)

  place_refused : (setting : Setting) → Some setting ≡ allowed_in kinds word
      → None ≡ with_setting s setting → settings_from kinds s (word ∷ rest) ≡ None
  place_refused setting read full = sym (ap (option_and_then after_setting) read)
      ∙ sym (ap (option_and_then (λ more. settings_from kinds more rest)) full)

  place_filled : (setting : Setting) (more : Settings) → Some setting ≡ allowed_in kinds word
      → Some more ≡ with_setting s setting → settings_from kinds s (word ∷ rest)
      ≡ settings_from kinds more rest
  place_filled setting more read free = sym (ap (option_and_then after_setting) read)
      ∙ sym (ap (option_and_then (λ more. settings_from kinds more rest)) free)

module _ (kinds : Kinds) {Z : Type 0} (words : List (String Z)) (word : String Z) (i : ℕ)
    (s : Settings) (all : Option Settings)
    (less : i < length words) (is : word ≡ get_or words i word) (so_far : settings_from kinds s
    (map string_bytes (drop i words)) ≡ all) where
  abbrev rest : List (List ℕ)
  rest = map string_bytes (drop (i + 1) words)

  here : settings_from kinds s (string_bytes word ∷ rest) ≡ all
  here = rw (from_here words word i less is) at so_far

  -- the word is no setting
  pub unread : None ≡ allowed_in kinds (string_bytes word) → None ≡ all
  unread none = sym (word_refused kinds s (string_bytes word) rest none) ∙ here

  -- the place of the setting is taken
  pub taken : (setting : Setting) → Some setting ≡ allowed_in kinds (string_bytes word)
      → None ≡ with_setting s setting → None ≡ all
  taken setting read full = sym (place_refused kinds s
      (string_bytes word) rest setting read full) ∙ here

  -- the place of the setting is free
  pub filled : (setting : Setting) (more : Settings)
      → Some setting ≡ allowed_in kinds (string_bytes word) → Some more ≡ with_setting s setting
      → settings_from kinds more rest ≡ all
  filled setting more read free = sym (place_filled kinds s
      (string_bytes word) rest setting more read free) ∙ here
