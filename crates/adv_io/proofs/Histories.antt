-- How histories grow, and what they show.
use Rattle.std.proofs.Common.{◌≡◌, ◌∙◌, ℕ, ◌+◌, ◌-◌, ◌≤◌, ◌<◌, List, [], ◌∷◌, ◌++◌, take, drop, length, get_or, refl, sym, ap, subst, arith, append_assoc, zero-add}
use Rattle.std.proofs.lemmas.List.{map-append, take_all, drop_all, take-append-le, drop-append-le, take-append-drop, length-take, length-drop}
use Rattle.adv_io.specs.History.{says, transcript, marks_from}
use Rattle.adv_io.specs.Recorded.{retold, AreMarks}
use Rattle.adv_io.specs.declared.events.Event.{Event}
use Rattle.adv_io.specs.declared.events.Event.TheVariants.{Say, Take}

pub says-append : (a b : List ℕ) → says (a ++ b) ≡ says a ++ says b
says-append a b = map-append Say a b

-- bytes that were said begin the transcript
pub transcript-says : (bytes : List ℕ) (events : List Event) → transcript (says bytes ++ events) ≡ bytes ++ transcript events
transcript-says [] events = refl
transcript-says (byte ∷ bytes) events = λ i. byte ∷ transcript-says bytes events i

transcript-said : (bytes : List ℕ) → transcript (says bytes) ≡ bytes
transcript-said [] = refl
transcript-said (byte ∷ bytes) = λ i. byte ∷ transcript-said bytes i

-- they move the marks after them
pub marks_from-says : (n : ℕ) (bytes : List ℕ) (events : List Event) → marks_from n (says bytes ++ events) ≡ marks_from (n + length bytes) events
marks_from-says n [] events = ap (λ m. marks_from m events) (omega arith)
marks_from-says n (byte ∷ bytes) events = marks_from-says (n + 1) bytes events ∙ ap (λ m. marks_from m events) (omega arith)

marks_from-said : (n : ℕ) (bytes : List ℕ) → marks_from n (says bytes) ≡ []
marks_from-said n [] = refl
marks_from-said n (byte ∷ bytes) = marks_from-said (n + 1) bytes

-- ---- what a console in memory keeps

-- marks go from the first number to the last
AreMarks-le : (first : ℕ) (marks : List ℕ) (last : ℕ) → AreMarks first marks last → first ≤ last
AreMarks-le first [] last ordered = ordered
AreMarks-le first (mark ∷ marks) last ordered = omega (arith, ordered.0, AreMarks-le mark marks last ordered.1)

-- marks go as far as more bytes are said
pub AreMarks-further : (first : ℕ) (marks : List ℕ) (last more : ℕ) → AreMarks first marks last → last ≤ more → AreMarks first marks more
AreMarks-further first [] last more ordered further = omega arith
AreMarks-further first (mark ∷ marks) last more ordered further = (ordered.0, AreMarks-further mark marks last more ordered.1 further)

-- a last mark is at the end
pub AreMarks-push : (first : ℕ) (marks : List ℕ) (last : ℕ) → AreMarks first marks last → AreMarks first (marks ++ last ∷ []) last
AreMarks-push first [] last ordered = (ordered, omega arith)
AreMarks-push first (mark ∷ marks) last ordered = (ordered.0, AreMarks-push mark marks last ordered.1)

module _ (at mark : ℕ) (said marks : List ℕ) (ordered : AreMarks at (mark ∷ marks) (at + length said)) where
  -- the bytes before the mark are there
  mark_within : mark - at ≤ length said
  mark_within = omega (arith, ordered.0, AreMarks-le mark marks (at + length said) ordered.1)

  -- and after it go the other marks
  end_same : mark + length (drop (mark - at) said) ≡ at + length said
  end_same = rw length-drop (omega (arith, ordered.0, mark_within))

  ordered_after : AreMarks mark marks (mark + length (drop (mark - at) said))
  ordered_after = subst (AreMarks mark marks) (sym end_same) ordered.1

-- bytes that are said go after the events so far
pub retold-says : (at : ℕ) (said marks : List ℕ) (lines : List (List ℕ)) (bytes : List ℕ) → AreMarks at marks (at + length said) → retold at (said ++ bytes) marks lines ≡ retold at said marks lines ++ says bytes
retold-says at said [] lines bytes ordered = says-append said bytes
retold-says at said (mark ∷ marks) [] bytes ordered = says-append said bytes
retold-says at said (mark ∷ marks) (line ∷ lines) bytes ordered =
    let within : mark - at ≤ length said = mark_within at mark said marks ordered in
    let after = retold-says mark (drop (mark - at) said) marks lines bytes (ordered_after at mark said marks ordered) in
    rw (take-append-le (mark - at) said bytes within, drop-append-le (mark - at) said bytes within, after)
    (sym (append_assoc (says (take (mark - at) said)) (Take line ∷ retold mark (drop (mark - at) said) marks lines) (says bytes)))

-- so does a line that is taken
pub retold-takes : (at : ℕ) (said marks : List ℕ) (lines : List (List ℕ)) → AreMarks at marks (at + length said) → length marks < length lines → (d : List ℕ) → retold at said (marks ++ (at + length said) ∷ []) lines ≡ retold at said marks lines ++ Take (get_or lines (length marks) d) ∷ []
retold-takes at said [] [] ordered room d = absurd (omega arith)
retold-takes at said [] (line ∷ lines) ordered room d =
    rw (take_all (at + length said - at) said (omega arith), drop_all (at + length said - at) said (omega arith)) refl
retold-takes at said (mark ∷ marks) [] ordered room d = absurd (omega arith)
retold-takes at said (mark ∷ marks) (line ∷ lines) ordered room d =
    let after = retold-takes mark (drop (mark - at) said) marks lines (ordered_after at mark said marks ordered) (omega arith) d in
    let here = rw (end_same at mark said marks ordered) at after in
    rw here
    (sym (append_assoc (says (take (mark - at) said)) (Take line ∷ retold mark (drop (mark - at) said) marks lines) (Take (get_or lines (length marks) d) ∷ [])))

-- the events have the said bytes
pub transcript-retold : (at : ℕ) (said marks : List ℕ) (lines : List (List ℕ)) → transcript (retold at said marks lines) ≡ said
transcript-retold at said [] lines = transcript-said said
transcript-retold at said (mark ∷ marks) [] = transcript-said said
transcript-retold at said (mark ∷ marks) (line ∷ lines) =
    transcript-says (take (mark - at) said) (Take line ∷ retold mark (drop (mark - at) said) marks lines)
    ∙ ap (λ rest. take (mark - at) said ++ rest) (transcript-retold mark (drop (mark - at) said) marks lines)
    ∙ take-append-drop (mark - at) said

-- and the marks
pub marks_from-retold : (at : ℕ) (said marks : List ℕ) (lines : List (List ℕ)) → AreMarks at marks (at + length said) → length marks ≤ length lines → marks_from at (retold at said marks lines) ≡ marks
marks_from-retold at said [] lines ordered room = marks_from-said at said
marks_from-retold at said (mark ∷ marks) [] ordered room = absurd (omega arith)
marks_from-retold at said (mark ∷ marks) (line ∷ lines) ordered room =
    let rest = retold mark (drop (mark - at) said) marks lines in
    let within : mark - at ≤ length said = mark_within at mark said marks ordered in
    let prefix : at + length (take (mark - at) said) ≡ mark = rw length-take (omega (arith, ordered.0, within)) in
    marks_from-says at (take (mark - at) said) (Take line ∷ rest)
    ∙ rw prefix (λ i. mark ∷ marks_from-retold mark (drop (mark - at) said) marks lines (ordered_after at mark said marks ordered) (omega arith) i)

-- ---- the same from the start

module _ (said marks : List ℕ) (lines : List (List ℕ)) (ordered : AreMarks 0 marks (length said)) where
  ordered_whole : AreMarks 0 marks (0 + length said)
  ordered_whole = rw zero-add ordered

  pub kept-says : (bytes : List ℕ) → retold 0 (said ++ bytes) marks lines ≡ retold 0 said marks lines ++ says bytes
  kept-says bytes = retold-says 0 said marks lines bytes ordered_whole

  pub kept-takes : length marks < length lines → (d : List ℕ) → retold 0 said (marks ++ length said ∷ []) lines ≡ retold 0 said marks lines ++ Take (get_or lines (length marks) d) ∷ []
  kept-takes room d = rw zero-add at (retold-takes 0 said marks lines ordered_whole room d)

  pub kept-marks : length marks ≤ length lines → marks_from 0 (retold 0 said marks lines) ≡ marks
  kept-marks room = marks_from-retold 0 said marks lines ordered_whole room
