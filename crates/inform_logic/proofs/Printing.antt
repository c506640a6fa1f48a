-- The rules of `print`: what its items say.
use Rattle.std.proofs.Common.{◌≡◌, ◌∙◌, ℕ, ◌+◌, ℤ, List, [], ◌∷◌, ◌++◌, refl, sym, ap, append_assoc, append-nil}
use Rattle.std.proofs.lemmas.List.{map-append}
use Rattle.adv_io.specs.Steps.{Step, Said, said_steps}
use Rattle.std.specs.Fmt.{signed_decimal}
use Rattle.inform_tree.specs.Values.{Expression}
use Rattle.inform_tree.specs.Statements.{PrintItem, Text, Value, Char}
use Rattle.inform_meaning.specs.Words.{low_byte}
use Rattle.inform_meaning.specs.Worlds.{Program, Scope}
use Rattle.inform_meaning.specs.Frames.{Outcome}
use Rattle.inform_logic.specs.Stages.{Stage, with_past, said}
use Rattle.inform_logic.specs.Leading.{Leads, TheItems, Evaluates, Prints}
use Rattle.inform_logic.proofs.Opened.{opened}
use Rattle.inform_logic.proofs.Steps.{nothing_taken, value_then, with_said}

-- an empty text, and two texts that are said one after the other
pub said_nothing : (w : Stage) → said [] w ≡ w
said_nothing w = ap (λ past. with_past past w) (append-nil w.past)

pub said_twice : (xs ys : List ℕ) (w : Stage) → said ys (said xs w) ≡ said (xs ++ ys) w
said_twice xs ys w = ap (λ past. with_past past w)
    (append_assoc w.past (said_steps xs) (said_steps ys)
    ∙ ap (λ ss. w.past ++ ss) (sym (map-append Said xs ys)))

-- what happened in a part and in the next one
pub happened_then : (past : List Step) {mid later : List Step} (es fs : List Step)
    → mid ≡ past ++ es → later ≡ mid ++ fs → later ≡ past ++ (es ++ fs)
happened_then past es fs first next =
    next ∙ ap (λ h. h ++ fs) first ∙ append_assoc past es fs

module _ {p : Program} {d : ℕ} where
  -- no item is left
  pub print_nothing : {s : Scope} {w : Stage} → Prints p d [] s w w 0
  print_nothing = record { takes = nothing_taken (λ k. refl) }

  -- a text, and the items after it
  pub print_text : {bytes : List ℕ} {xs : List PrintItem} {s s' : Scope} {w w' : Stage}
      {e : Outcome} {n : ℕ} → Leads p d (TheItems xs) s (said bytes w) e s' w' n
      → Leads p d (TheItems (Text bytes ∷ xs)) s w e s' w' n
  print_text xs = record { takes = with_said _ xs.takes }

  -- a value in decimal, and the items after it
  pub print_number : {x : Expression} {xs : List PrintItem} {s s' : Scope} {w w1 w' : Stage}
      {v : ℤ} {e : Outcome} {n m : ℕ} → Evaluates p d x s w v w1 n
      → Leads p d (TheItems xs) s (said (signed_decimal v) w1) e s' w' m
      → Leads p d (TheItems (Value x ∷ xs)) s w e s' w' (n + m)
  unfolding opened
  print_number x xs = record { takes = value_then _ x.takes (with_said _ xs.takes) }

  -- a value as a character, and the items after it
  pub print_character : {x : Expression} {xs : List PrintItem} {s s' : Scope} {w w1 w' : Stage}
      {v : ℤ} {e : Outcome} {n m : ℕ} → Evaluates p d x s w v w1 n
      → Leads p d (TheItems xs) s (said (low_byte v ∷ []) w1) e s' w' m
      → Leads p d (TheItems (Char x ∷ xs)) s w e s' w' (n + m)
  unfolding opened
  print_character x xs = record { takes = value_then _ x.takes (with_said _ xs.takes) }
