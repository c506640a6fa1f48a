-- What a look says, by whether it is dark.
use Rattle.std.proofs.Common.{◌≡◌, ℕ, ◌∙◌, List, [], ◌++◌, true, false, refl}
use Rattle.std.proofs.lemmas.List.{append-nil}
use Rattle.scott_types.specs.declared.states.State.{State}
use Rattle.scott_types.specs.declared.phrases.Phrase.TheVariants.{TooDark}
use Rattle.scott_types.specs.Phrase.{text_in}
use Rattle.scott_types.specs.State.{is_dark}
use Rattle.scott_types.specs.Style.{Game}
use Rattle.scott_rules.specs.Looking.{looked, seen_in_light}

module _ (text : List ℕ) (game : Game) (s : State) where
  pub in_dark : is_dark s ≡ true → text ++ (text_in game.style TooDark ++ []) ≡ text ++ looked game s
  in_dark dark = rw (dark, append-nil (text_in game.style TooDark)) refl

  pub in_light : is_dark s ≡ false → text ++ seen_in_light game s ≡ text ++ looked game s
  in_light light = rw light refl
