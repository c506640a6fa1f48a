-- Settings by what their words begin with.
use Rattle.std.proofs.Common.{◌≡◌, ℕ, ◌+◌, List, length, drop, refl, sym, Option, Some, None, true, false}
use Rattle.std.specs.Prelude.{option_map}
use Rattle.std.specs.Str.Pattern.{FindsTextPrefix}
use Rattle.std.proofs.lemmas.Str.Pattern.{starts_text}
use Rattle.scott_requests.specs.Parts.{file_name, after_prefix, number_of}
use Rattle.scott_requests.specs.Settings.{draws, listed, seeded, style, style_named, play_setting, opening, saving, position_setting, pausing, entering, each, pause_setting, most_steps, steps_of, word_width, width_of, run_setting}

-- a text that begins otherwise
pub prefix_missing : (p s : List ℕ) → FindsTextPrefix p s None → after_prefix p s ≡ None
prefix_missing p s h = rw (sym (starts_text false p s h)) refl

-- a text that begins so, and what follows
pub prefix_there : (p s rest : List ℕ) → (n : ℕ) × FindsTextPrefix p s (Some n) × (rest
    ≡ drop n s) × (length rest + n ≡ length s) → after_prefix p s ≡ Some rest
prefix_there p s rest h =
    rw (sym (starts_text true p s (h.0, h.1, rw (h.1.0) (h.1.2))), h.2, h.1.0) refl

module _ (a b c : Option (List ℕ)) where
  pub by_draws : (name : List ℕ) → a ≡ Some name
      → option_map (λ n. draws (listed n)) (file_name name) ≡ play_setting a b c
  by_draws name first = rw first refl

  pub by_seed : (digits : List ℕ) → a ≡ None → b ≡ Some digits
      → option_map (λ n. draws (seeded n)) (number_of digits) ≡ play_setting a b c
  by_seed digits first second = rw (first, second) refl

  pub by_style : (letters : List ℕ) → a ≡ None → b ≡ None → c ≡ Some letters
      → option_map style (style_named letters) ≡ play_setting a b c
  by_style letters first second third = rw (first, second, third) refl

  pub by_no_prefix : a ≡ None → b ≡ None → c ≡ None → None ≡ play_setting a b c
  by_no_prefix first second third = rw (first, second, third) refl

module _ (a b : Option (List ℕ)) where
  pub by_from : (name : List ℕ) → a ≡ Some name
      → option_map opening (file_name name) ≡ position_setting a b
  by_from name first = rw first refl

  pub by_save : (name : List ℕ) → a ≡ None → b ≡ Some name
      → option_map saving (file_name name) ≡ position_setting a b
  by_save name first second = rw (first, second) refl

  pub by_neither_file : a ≡ None → b ≡ None → None ≡ position_setting a b
  by_neither_file first second = rw (first, second) refl

  pub by_routine : (name : List ℕ) → a ≡ Some name
      → option_map (λ n. pausing (entering n)) (file_name name) ≡ pause_setting a b
  by_routine name first = rw first refl

  pub by_count : (digits : List ℕ) → a ≡ None → b ≡ Some digits
      → option_map (λ n. pausing (each n)) (steps_of digits) ≡ pause_setting a b
  by_count digits first second = rw (first, second) refl

  pub by_no_pause : a ≡ None → b ≡ None → None ≡ pause_setting a b
  by_no_pause first second = rw (first, second) refl

  pub by_steps : (digits : List ℕ) → a ≡ Some digits
      → option_map most_steps (steps_of digits) ≡ run_setting a b
  by_steps digits first = rw first refl

  pub by_words : (text : List ℕ) → a ≡ None → b ≡ Some text
      → option_map word_width (width_of text) ≡ run_setting a b
  by_words text first second = rw (first, second) refl

  pub by_neither : a ≡ None → b ≡ None → None ≡ run_setting a b
  by_neither first second = rw (first, second) refl
