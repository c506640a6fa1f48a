-- The worked play, from the program's promises.
use Rattle.std.proofs.Common.{◌≡◌, ◌∙◌, ℕ, List, [], ◌++◌, map, String, string_bytes, Option, Some, None, refl, sym, ap, subst}
use Rattle.std.specs.Prelude.{codes}
use Rattle.std.proofs.lemmas.List.{append-nil}
use Rattle.adv_io.specs.Console.{ConsoleView}
use Rattle.adv_io.specs.History.{grown, shown}
use Rattle.adv_io.specs.Recorded.{Recorded, seen_of}
use Rattle.adv_io.specs.Shelf.{Files}
use Rattle.adv_io.specs.Shelved.{Shelved, stock_of}
use Rattle.scott_format.specs.Canon.{canon}
use Rattle.scott_format.specs.File.{DatText}
use Rattle.scott_format.specs.Laws.{OneDatabase, WrittenTextIsText}
use Rattle.scott_requests.specs.Settings.{seeded}
use Rattle.scott_requests.specs.Request.{PlayRequest, play, asked_by, request_in}
use Rattle.scott_rules.specs.Games.{hill}
use Rattle.scott_rules.specs.Play as rules
use Rattle.scott_rules.specs.Play.{go}
use Rattle.adv_io.specs.Steps.{trace_of}
use Rattle.scott_types.specs.Database.{Database}
use Rattle.scott_types.specs.Style.{plain_style, plain}
use Rattle.scott_types.specs.Limits.{KeepsLimits}
use Rattle.scott_types.specs.Phrase.{text_of}
use Rattle.scott_tool.specs.Play.{Played}
use Rattle.scott_tool.specs.Position.{beginning}
use Rattle.scott_tool.specs.Work.{play_events}
use Rattle.scott_tool.specs.Promises.{HasPlayed}
use Rattle.scott_tool.specs.Worked.{hill_words, hill_lines, HasHill, hill_steps, hill_history}

-- whatever the draws, none is taken
hill_play : (draws : List ℕ) → (rules.play (plain hill) hill_lines draws).events ≡ hill_steps
unfolding go text_of
hill_play draws = refl

module _ (one : OneDatabase) (written : WrittenTextIsText) (keeps : KeepsLimits hill) where
  hill_read : (bytes : List ℕ) (db : Database) → bytes ≡ canon hill → DatText bytes db → db ≡ hill
  hill_read bytes db e text =
      let own : DatText (canon hill) hill = subst (λ (b : List ℕ). DatText b hill)
      (append-nil (canon hill)) (written hill [] keeps) in
      one (canon hill) db hill (subst (λ (b : List ℕ). DatText b db) e text) own

  some_same : {X : Type 0} (a b : X) → Some a ≡ Some b → a ≡ b
  some_same a b e = cc

  -- what the words of the command ask for
  abbrev asked_play : PlayRequest
  asked_play =
      record {
        game = codes "t.dat";
        source = seeded 1;
        style = plain_style;
        opened_from = None;
        saved_as = None;
      }

  hill_played : (files : Files) (old new : ConsoleView) (after : Option Files) → HasHill files
      → Played files hill_lines asked_play old new after → new.history
      ≡ grown old.history hill_history
  hill_played files old new after there p =
      let bytes = some_same p.bytes (canon hill) (sym p.there ∙ there) in
      let db = hill_read p.bytes p.db bytes p.text in
      p.seen
      ∙ ap (λ f. grown old.history (play_events plain_style p.db f p.draws hill_lines)) p.opens
      ∙ ap (λ d. grown old.history (play_events plain_style d (beginning d) p.draws hill_lines)) db
      ∙ ap (λ steps. grown old.history (shown (trace_of steps))) (hill_play p.draws)

  -- what the clause of `play` says of these words, this game and these lines
  pub hill_seen : {Z : Type 0} (words : List (String Z)) (shelf shelf' : Shelved)
      (console console' : Recorded) (status : ℕ)
      → map string_bytes words ≡ hill_words → HasHill shelf.files → console.left ≡ hill_lines
      → (status ≡ 0 → HasPlayed (stock_of shelf) (stock_of shelf') (seen_of console)
      (seen_of console') (asked_by words)) → status ≡ 0
      → console'.history ≡ console.history ++ hill_history
  hill_seen words shelf shelf' console console' status is there lines played zero =
      let asks : asked_by words ≡ Some (play asked_play) = ap request_in
      is in
      let p = played zero asked_play asks in
      let q = subst (λ (ls : List (List ℕ)). Played shelf.files ls asked_play (seen_of console)
      (seen_of console') (stock_of shelf').files) lines p in
      some_same console'.history (console.history ++ hill_history)
      (hill_played shelf.files (seen_of console) (seen_of console') (stock_of shelf').files there q)
