-- A play whose lines are fed: what it shows is what it says.
use Rattle.std.proofs.Common.{◌≡◌, ◌∙◌, ℕ, ◌+◌, Bool, true, false, List, [], ◌∷◌, ◌++◌, length, Option, Some, None, refl, sym, ap, arith, length-append}
use Rattle.std.proofs.lemmas.List.{append-nil}
use Rattle.std.proofs.lemmas.List.Elements.{filter_map-append}
use denote.Ref.{Bor}
use Rattle.adv_io.specs.History.{says, lines_taken, line_taken, transcript, byte_said}
use Rattle.adv_io.specs.declared.events.Event.TheVariants.{Say}
use Rattle.adv_io.proofs.Histories.{says-append}
use Rattle.scott_types.specs.declared.states.State.{State}
use Rattle.scott_types.specs.declared.endings.Position.{Position}
use Rattle.scott_types.specs.Style.{Game}
use Rattle.adv_io.specs.Steps.{Drew, Noted, Said, Step, Took, event_of, shown_of, trace_of}
use Rattle.scott_rules.specs.Commands.{heard}
use Rattle.scott_rules.specs.Rounds.{RoundEnd, advance, by_heard}
use Rattle.scott_rules.specs.Play.{PlayEnd, go}
use Rattle.scott_rules.specs.Laws.{PlaySpends}
use Rattle.scott_turn.specs.Rounds.{is_prompt}
use Rattle.scott_turn.specs.Fed.{given, said, after_line}
use Rattle.adv_io.proofs.Showing.{shown_of-append}
use Rattle.scott_turn.proofs.Playing.{go-stops, go-ends, go-answers}

-- where a play stopped, with these lines left
abbrev stop_at : List (List ℕ) → RoundEnd → PlayEnd
stop_at lines v = record { position = v.position; state = v.state; lines = lines; draws = v.draws }

-- ---- steps in which no line is taken

abbrev pub takes : List Step → ℕ
takes steps = length (lines_taken (trace_of steps))

takes-append : (es fs : List Step) → takes (es ++ fs) ≡ takes es + takes fs
takes-append es fs =
    ap (λ events. length (lines_taken events)) (filter_map-append event_of es fs)
    ∙ ap length (filter_map-append line_taken (trace_of es) (trace_of fs))
    ∙ length-append (lines_taken (trace_of es)) (lines_taken (trace_of fs))

said-append : (es fs : List Step) → said (es ++ fs) ≡ said es ++ said fs
said-append es fs =
    ap (λ events. says (transcript events)) (filter_map-append event_of es fs)
    ∙ ap says (filter_map-append byte_said (trace_of es) (trace_of fs))
    ∙ says-append (transcript (trace_of es)) (transcript (trace_of fs))

-- they show what they say
shown_of-said : (es : List Step) → takes es ≡ 0 → shown_of es ≡ said es
shown_of-said [] none = refl
shown_of-said (Said byte ∷ es) none = ap (λ events. Say byte ∷ events) (shown_of-said es none)
shown_of-said (Took line ∷ es) none = absurd (omega (arith, none))
shown_of-said (Drew draw ∷ es) none = shown_of-said es none
shown_of-said (Noted line ∷ es) none = shown_of-said es none

-- ---- a play with one line, or none

module _ (spends : PlaySpends) (game : Game) (position : Position) (s : State) (draws : List ℕ) where
  -- without a line
  pub said-none : shown_of (advance game position s draws).events ≡ said (go game position s [] draws).events
  said-none =
      let whole = go-ends game position s draws in
      let spent = (spends game position s [] draws).lines_spent in
      let none : takes (advance game position s draws).events ≡ 0 =
      let same : takes (go game position s [] draws).events ≡ takes (advance game position s draws).events = ap (λ w. takes w.events) whole in
      omega (arith, length-append (lines_taken (trace_of (go game position s [] draws).events)) (go game position s [] draws).value.lines, ap length spent, same) in
      shown_of-said (advance game position s draws).events none ∙ ap (λ w. said w.events) (sym whole)

  -- with one that the play doesn't take
  pub said-dropped : (line : List ℕ) → is_prompt (advance game position s draws).value.position ≡ false
      → shown_of ((advance game position s draws).events ++ []) ≡ said (go game position s (line ∷ []) draws).events
  said-dropped line stops =
      let whole = go-stops game position s (line ∷ []) draws stops in
      let spent = (spends game position s (line ∷ []) draws).lines_spent in
      let left : length (go game position s (line ∷ []) draws).value.lines ≡ 1 = ap (λ w. length w.value.lines) whole in
      let same : takes (go game position s (line ∷ []) draws).events ≡ takes (advance game position s draws).events = ap (λ w. takes w.events) whole in
      let none : takes (advance game position s draws).events ≡ 0 =
      omega (arith, length-append (lines_taken (trace_of (go game position s (line ∷ []) draws).events)) (go game position s (line ∷ []) draws).value.lines, ap length spent, same, left) in
      ap shown_of (append-nil (advance game position s draws).events) ∙ shown_of-said (advance game position s draws).events none ∙ ap (λ w. said w.events) (sym whole)

  -- with one that is answered
  pub said-answered : (line : List ℕ) → is_prompt (advance game position s draws).value.position ≡ true
      → shown_of ((advance game position s draws).events ++ (after_line true game line (advance game position s draws).value.position (advance game position s draws).value.state (advance game position s draws).value.draws).events)
      ≡ said (go game position s (line ∷ []) draws).events
  said-answered line at =
      let up = (advance game position s draws).events in
      let v = (advance game position s draws).value in
      let a = by_heard (heard game.db line) game line v.state in
      let next = (advance game a.value.position a.value.state v.draws).events in
      let last = go-ends game a.value.position a.value.state v.draws in
      let whole : (go game position s (line ∷ []) draws).events ≡ up ++ ((Took line ∷ a.events) ++ next) =
      ap (λ w. w.events) (go-answers game position s line [] draws at) ∙ ap (λ w. up ++ ((Took line ∷ a.events) ++ w.events)) last in
      let spent = (spends game position s (line ∷ []) draws).lines_spent in
      let same : takes (go game position s (line ∷ []) draws).events ≡ takes up + (takes (Took line ∷ a.events) + takes next) =
      ap takes whole ∙ takes-append up ((Took line ∷ a.events) ++ next) ∙ ap (λ n. takes up + n) (takes-append (Took line ∷ a.events) next) in
      let sum = length-append (lines_taken (trace_of (go game position s (line ∷ []) draws).events)) (go game position s (line ∷ []) draws).value.lines in
      let one = takes-append (Took line ∷ []) a.events in
      let up_none : takes up ≡ 0 = omega (arith, sum, ap length spent, same, one) in
      let after_none : takes (a.events ++ next) ≡ 0 = omega (arith, sum, ap length spent, same, one, takes-append a.events next) in
      shown_of-append up (a.events ++ next)
      ∙ ap (λ es. es ++ shown_of (a.events ++ next)) (shown_of-said up up_none)
      ∙ ap (λ es. said up ++ es) (shown_of-said (a.events ++ next) after_none)
      ∙ sym (said-append up ((Took line ∷ a.events) ++ next))
      ∙ ap said (sym whole)

  -- with one that is fed, whether or not it is answered
  said-fed : (line : List ℕ) (at : Bool) → is_prompt (advance game position s draws).value.position ≡ at
      → shown_of ((advance game position s draws).events ++ (after_line at game line (advance game position s draws).value.position (advance game position s draws).value.state (advance game position s draws).value.draws).events)
      ≡ said (go game position s (line ∷ []) draws).events
  said-fed line true is = said-answered line is
  said-fed line false is = said-dropped line is

  pub said-some : (line : List ℕ)
      → shown_of ((advance game position s draws).events ++ (after_line (is_prompt (advance game position s draws).value.position) game line (advance game position s draws).value.position (advance game position s draws).value.state (advance game position s draws).value.draws).events)
      ≡ said (go game position s (line ∷ []) draws).events
  said-some line = said-fed line (is_prompt (advance game position s draws).value.position) refl

  -- the play begins with what is done up to the prompt
  pub said-prefix : (line : Option (Bor (List ℕ))) → (rest : List Step) × (said (go game position s (given line) draws).events ≡ shown_of ((advance game position s draws).events ++ rest))
  said-prefix None = ([], sym (ap shown_of (append-nil (advance game position s draws).events) ∙ said-none))
  said-prefix (Some line) = (_, sym (said-some line.now))

-- ---- what it leaves

pub left-none : (game : Game) (position reached : Position) (s now : State) (draws rest : List ℕ) → (advance game position s draws).value ≡ record { position = reached; state = now; draws = rest }
    → (go game position s [] draws).value ≡ record { position = reached; state = now; lines = (go game position s [] draws).value.lines; draws = rest }
left-none game position reached s now draws rest leaves =
    ap (λ w. w.value) (go-ends game position s draws)
    ∙ ap (λ v. record { position = v.position; state = v.state; lines = []; draws = v.draws }) leaves
    ∙ ap (λ ls. record { position = reached; state = now; lines = ls; draws = rest }) (sym (ap (λ w. w.value.lines) (go-ends game position s draws)))

left-fed : (game : Game) (position : Position) (s : State) (draws line : List ℕ) (at : Bool) → is_prompt (advance game position s draws).value.position ≡ at
    → (lines : List (List ℕ)) × ((go game position s (line ∷ []) draws).value
    ≡ stop_at lines (after_line at game line (advance game position s draws).value.position (advance game position s draws).value.state (advance game position s draws).value.draws).value)
left-fed game position s draws line true is =
    let v = (advance game position s draws).value in
    let a = by_heard (heard game.db line) game line v.state in
    ([], ap (λ w. w.value) (go-answers game position s line [] draws is) ∙ ap (λ w. w.value) (go-ends game a.value.position a.value.state v.draws))
left-fed game position s draws line false is = (line ∷ [], ap (λ w. w.value) (go-stops game position s (line ∷ []) draws is))

pub left-some : (game : Game) (position reached : Position) (s now : State) (draws rest line : List ℕ)
    → (after_line (is_prompt (advance game position s draws).value.position) game line (advance game position s draws).value.position (advance game position s draws).value.state (advance game position s draws).value.draws).value
    ≡ record { position = reached; state = now; draws = rest }
    → (go game position s (line ∷ []) draws).value ≡ record { position = reached; state = now; lines = (go game position s (line ∷ []) draws).value.lines; draws = rest }
left-some game position reached s now draws rest line leaves =
    let h = left-fed game position s draws line (is_prompt (advance game position s draws).value.position) refl in
    let is : (go game position s (line ∷ []) draws).value ≡ record { position = reached; state = now; lines = h.0; draws = rest } = h.1 ∙ ap (stop_at h.0) leaves in
    is ∙ ap (λ ls. record { position = reached; state = now; lines = ls; draws = rest }) (sym (ap (λ v. v.lines) is))
