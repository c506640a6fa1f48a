-- What a console shows of steps, one part after the other.
use Rattle.std.proofs.Common.{◌≡◌, ◌∙◌, ℕ, List, [], ◌∷◌, ◌++◌, refl, ap}
use Rattle.std.proofs.lemmas.List.Elements.{filter_map-append}
use Rattle.std.specs.List.{filter_map}
use Rattle.adv_io.specs.History.{says, shown_event}
use Rattle.adv_io.specs.Steps.{Step, event_of, trace_of, said_steps, shown_of}

pub trace_of-append : (es fs : List Step) → trace_of (es ++ fs) ≡ trace_of es ++ trace_of fs
trace_of-append es fs = filter_map-append event_of es fs

pub shown_of-append : (es fs : List Step) → shown_of (es ++ fs) ≡ shown_of es ++ shown_of fs
shown_of-append es fs =
    ap (filter_map shown_event) (trace_of-append es fs) ∙ filter_map-append shown_event (trace_of es) (trace_of fs)

pub shown_of-said : (bytes : List ℕ) → shown_of (said_steps bytes) ≡ says bytes
shown_of-said [] = refl
shown_of-said (byte ∷ bytes) = ap (λ es. says (byte ∷ []) ++ es) (shown_of-said bytes)
