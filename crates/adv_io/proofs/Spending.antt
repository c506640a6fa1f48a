-- What steps take and draw, one part after the other.
use Rattle.std.proofs.Common.{◌≡◌, ◌∙◌, ℕ, List, ◌++◌, Option, ap, append_assoc}
use Rattle.std.proofs.lemmas.List.Elements.{filter_map-append}
use Rattle.std.specs.Prelude.{filter_map}
use Rattle.adv_io.specs.History.{line_taken, draw_taken}
use Rattle.adv_io.specs.Steps.{Step, Spends, trace_of}
use Rattle.adv_io.specs.declared.events.Event.{Event}
use Rattle.adv_io.proofs.Showing.{trace_of-append}

-- what is collected from two parts in turn
collected : {Y : Type 0} (f : Event → Option Y) (es fs : List Step) (all between left : List Y)
    → filter_map f (trace_of es) ++ between ≡ all → filter_map f (trace_of fs) ++ left ≡ between → filter_map f (trace_of (es ++ fs)) ++ left ≡ all
collected f es fs all between left h k =
    ap (λ events. filter_map f events ++ left) (trace_of-append es fs)
    ∙ ap (λ ys. ys ++ left) (filter_map-append f (trace_of es) (trace_of fs))
    ∙ append_assoc (filter_map f (trace_of es)) (filter_map f (trace_of fs)) left
    ∙ ap (λ ys. filter_map f (trace_of es) ++ ys) k ∙ h

module _ (ls : List (List ℕ)) (ds : List ℕ) (es fs : List Step) where
  pub Spends-append : (ls' : List (List ℕ)) (ds' : List ℕ) (left : List (List ℕ)) (draws_left : List ℕ)
      → Spends ls ds es ls' ds' → Spends ls' ds' fs left draws_left → Spends ls ds (es ++ fs) left draws_left
  Spends-append ls' ds' left draws_left h k = record {
    lines_spent = collected line_taken es fs ls ls' left h.lines_spent k.lines_spent;
    draws_spent = collected draw_taken es fs ds ds' draws_left h.draws_spent k.draws_spent;
  }
