-- That a session plays what is expected.
use Rattle.std.proofs.Common.{◌≡◌, ◌∙◌, ◌-◌, ℕ, List, length, drop, Option, Some, None, IfSome, Result, Ok, Err, refl, sym, ap, subst, arith}
use Rattle.std.specs.Option.{option_and_then}
use Rattle.adv_draws.specs.Supply.{Supply, supplied}
use Rattle.adv_io.specs.Console.{ConsoleView}
use Rattle.adv_io.specs.Faults.{HasCause}
use Rattle.adv_io.specs.History.{grown, GrewByPrefix, shown}
use Rattle.adv_io.specs.Shelf.{ShelfView}
use Rattle.adv_io.specs.Steps.{Step, Traced, trace_of}
use Rattle.adv_io.specs.declared.faults.ConsoleFault.{ConsoleFault}
use Rattle.adv_position.specs.declared.saved.Saved.{Saved}
use Rattle.scott_rules.specs.Play.{PlayEnd, go}
use Rattle.scott_turn.specs.Played.{SessionView, Leaves, Plays}
use Rattle.scott_types.specs.declared.endings.Ending.{Ending}
use Rattle.scott_types.specs.declared.endings.Position.{Position}
use Rattle.scott_types.specs.declared.states.State.{State}
use Rattle.scott_types.specs.declared.styles.Style.{Style}
use Rattle.scott_types.specs.Database.{Database}
use Rattle.scott_types.specs.Style.{Game, in_style}
use Rattle.scott_tool.specs.Position.{kept_text, stopped_text}
use Rattle.scott_tool.specs.Work.{kept_as, saved, shown_as, play_from, play_events, play_show, play_save, play_task}
use Rattle.scott_tool.specs.Obeying as o
use Rattle.scott_tool.specs.Obeying.{KeepsAfter, Obeys}
use Rattle.scott_tool.proofs.Obeying.{where_known, obeys-shown}
use Rattle.scott_tool.proofs.Keeping.{obeys-broken, obeys-kept}

module _ (style : Style) (db : Database) (from : Saved) (draws : List ℕ) (game : Game)
    (position : Position) (state : State) (left : List ℕ) (is : game ≡ in_style style db)
    (at : position ≡ from.position) (in_state : state ≡ from.state)
    (dropped : left ≡ drop from.taken draws) where
  -- what the session plays is the play that is expected
  same : (lines : List (List ℕ))
      → go game position state lines left ≡ play_from style db from draws lines
  same lines =
      ap (λ g. go g position state lines left) is
      ∙ ap (λ p. go (in_style style db) p state lines left) at
      ∙ ap (λ s. go (in_style style db) from.position s lines left) in_state
      ∙ ap (λ d. go (in_style style db) from.position from.state lines d) dropped

  module _ (old mid : ConsoleView) (after : SessionView) (before now : Supply)
      (all : supplied now ≡ length draws) where
    abbrev Went : List (List ℕ) → Type 0
    Went lines =
        (mid.history ≡ grown old.history (play_events style db from draws lines))
        × (kept_text after.position after.state now.taken
        ≡ stopped_text draws (play_from style db from draws lines).value)

    kept_is : (t : Traced Step PlayEnd) (ending : Ending) → Leaves t after before now ending
        → kept_text after.position after.state now.taken ≡ stopped_text draws t.value
    kept_is t ending l =
        let gone : now.taken ≡ length draws - length t.value.draws =
        let left_is = ap length l.draws in omega (arith, all, left_is) in
        ap (λ p. kept_text p after.state now.taken) l.position
        ∙ ap (λ s. kept_text t.value.position s now.taken) l.state
        ∙ ap (kept_text t.value.position t.value.state) gone

    went : (ending : Ending) (lines : List (List ℕ))
        → Plays old mid (Ok ending) (go game position state lines left) after before now
        → Went lines
    went ending lines p = (
      p.shows ∙ ap (λ t. grown old.history (shown (trace_of t.events))) (same lines),
      kept_is (go game position state lines left) ending p.leaves
          ∙ ap (λ t. stopped_text draws t.value) (same lines),
    )

    broke : (fault : ConsoleFault) (lines : List (List ℕ))
        → Plays old mid (Err fault) (go game position state lines left) after before now
        → GrewByPrefix old.history mid.history (play_events style db from draws lines)
    broke fault lines p =
        subst (λ (t : Traced Step PlayEnd). GrewByPrefix old.history mid.history
        (shown (trace_of t.events))) (same lines) p.part

    -- the console failed
    pub obeys-play_broken : (shelf : ShelfView) (status : ℕ) (fault : ConsoleFault)
        (save : Option (List ℕ)) → status ≡ 3
        → IfSome old.left (λ lines. Plays old mid (Err fault) (go game position state lines left)
        after before now) → HasCause {T = Ending} old.faults mid.faults (Err fault)
        → Obeys shelf shelf old mid (Ok (play_task style db from draws save)) status
    obeys-play_broken shelf status fault save three plays cause =
        obeys-broken shelf old mid status (play_task style db from draws save)
        (λ lines. shown_as (play_show style db from draws save) 0
        (saved (play_save style db from draws save) lines) lines) (λ lines. refl) three cause.later
        cause.failed
        (where_known (λ lines. Plays old mid (Err fault) (go game position state lines left) after
        before now) (λ lines. GrewByPrefix old.history mid.history
        (play_events style db from draws lines)) (broke fault) old.left plays)

    module _ (shelf shelf' : ShelfView) (new : ConsoleView) (status : ℕ) (ending : Ending)
        (plays : IfSome old.left (λ lines. Plays old mid (Ok ending)
        (go game position state lines left) after before now))
        (cause : HasCause {E = ConsoleFault} old.faults mid.faults (Ok ending)) where
      all_went : IfSome old.left Went
      all_went = where_known (λ lines. Plays old mid (Ok ending)
          (go game position state lines left) after before now) Went (went ending) old.left plays

      abbrev Shows : List (List ℕ) → Type 0
      Shows lines = mid.history ≡ grown old.history (play_events style db from draws lines)

      -- nothing was to be kept
      obeys-unkept : status ≡ 0
          → Obeys shelf shelf old mid (Ok (play_task style db from draws None)) status
      obeys-unkept zero =
          let answer : Result Ending ConsoleFault = Ok ending in
          obeys-shown old mid status shelf (play_task style db from draws None)
          (play_events style db from draws) (λ lines. refl)
          (Ok (play_task style db from draws None)) answer refl
          (where_known Went Shows (λ lines w. w.0) old.left all_went)
          (where_known Went (λ lines. Unit) (λ lines w. tt) old.left all_went) cause zero

      by_file : (file : Option _) → file ≡ None → KeepsAfter shelf shelf' mid new file status
          → Obeys shelf shelf' old new (Ok (play_task style db from draws None)) status
      by_file file none (o.nothing e zero same_shelf same_console) =
          subst (λ (s : ShelfView). Obeys shelf s old new (Ok (play_task style db from draws None))
          status) (sym same_shelf)
          (subst (λ (c : ConsoleView). Obeys shelf shelf old c
          (Ok (play_task style db from draws None)) status) (sym same_console) (obeys-unkept zero))
      by_file file none (o.stored kept e zero files faults same_console) = absurd cc
      by_file file none (o.unstored kept refusal e fails more r) = absurd cc
      by_file file none (o.starved kept e same_shelf same_console nine) = absurd cc

      pub obeys-played : (save : Option (List ℕ)) → KeepsAfter shelf shelf' mid new
          (option_and_then (λ name. kept_as name (kept_text after.position after.state now.taken))
          save) status
          → Obeys shelf shelf' old new (Ok (play_task style db from draws save)) status
      obeys-played None keeps = by_file None refl keeps
      obeys-played (Some name) keeps =
          obeys-kept shelf shelf' old mid new status (play_show style db from draws (Some name))
          (record {
            name = name;
            text = λ lines. stopped_text draws (play_from style db from draws lines).value;
          }) refl (λ lines. refl) (kept_text after.position after.state now.taken) cause.steady
          all_went keeps
