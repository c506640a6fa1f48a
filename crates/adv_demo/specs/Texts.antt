-- The three lines of a demonstration.
use Rattle.std.specs.Prelude.{ℕ, List, [], ◌∷◌, ◌++◌, length, codes, decimal}
use Rattle.std.specs.Fmt.{signed_decimal}
use Rattle.adv_io.specs.Text.{newline}
use Rattle.scott_types.specs.Database.{Database}
use Rattle.adv_demo.specs.declared.summaries.End.{End}
use Rattle.adv_demo.specs.declared.summaries.End.TheVariants.{Over, NeedsLine, NeedsDraw, Trapped, Spent}
use Rattle.adv_demo.specs.declared.summaries.Summary.{Summary}

abbrev pub end_text : End → List ℕ
end_text (Over number) = codes "over " ++ signed_decimal number
end_text NeedsLine = codes "line"
end_text NeedsDraw = codes "draw"
end_text Trapped = codes "trap"
end_text Spent = codes "steps"

-- the lines and draws that were taken
unfoldable pub taken_text : Summary → List ℕ
taken_text s = codes "lines " ++ (decimal s.lines ++ (codes ", draws " ++ decimal s.draws))

-- the room and the light
unfoldable pub state_text : Summary → List ℕ
state_text s =
    codes ", room " ++ (signed_decimal s.room ++ (codes ", light " ++ signed_decimal s.light))

unfoldable pub summary_text : Summary → List ℕ
summary_text s = taken_text s ++ (codes ", end " ++ (end_text s.end ++ state_text s))

-- ---- the lines

unfoldable pub size_line : ℕ → Database → List ℕ
size_line n db =
    codes "demo " ++ (decimal n
    ++ (codes ": rooms " ++ (decimal (length db.rooms)
    ++ (codes ", items " ++ (decimal (length db.items)
    ++ (codes ", lines " ++ (decimal (length db.actions) ++ newline ∷ [])))))))

abbrev pub play_line : Summary → List ℕ
play_line play = codes "play: " ++ (summary_text play ++ newline ∷ [])

-- with the number of steps that were used
abbrev pub run_line : Summary → ℕ → List ℕ
run_line run steps =
    codes "run: " ++ (summary_text run ++ (codes ", steps " ++ (decimal steps ++ newline ∷ [])))
