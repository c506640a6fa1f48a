-- What is said of the directives, one after the other, is the line of a pause: for the functions
-- that say it.
use Rattle.std.proofs.Common.{◌≡◌, ◌∙◌, ℕ, suc, ◌<◌, List, [], ◌∷◌, ◌++◌, codes, length, map, take, drop, get_or, Result, Ok, Err, IsErr, refl, sym, ap, subst, append_assoc}
use Rattle.std.specs.List.{flat_map}
use Rattle.std.proofs.lemmas.List.Folds.{flat_map-map}
use Rattle.adv_io.specs.History.{says}
use Rattle.adv_io.specs.Console.{ConsoleView, Speaks}
use Rattle.adv_io.proofs.Histories.{says-append}
use Rattle.adv_io.proofs.Sayings.{flat_map-split, speaks_then, speaks_exit}
use Rattle.inform_tree.specs.declared.programs.Directive.{Directive}
use Rattle.inform_tree.specs.Programs as t
use Rattle.inform_tree.specs.Programs.{DirectiveTree, directive_of}
use Rattle.inform_meaning.specs.Worlds.{World}
use Rattle.inform_stepper.specs.Shown.{global_text, pause_line}
use Rattle.inform_stepper.specs.Repeats.{globals_of, directive_text, heading}

-- what the globals add to a line
of-globals : (w : World) (ds : List DirectiveTree)
    → flat_map (directive_text w) ds ≡ flat_map (global_text w) (globals_of ds)
of-globals w [] = refl
of-globals w (t.Constant name value ∷ ds) = of-globals w ds
of-globals w (t.Global name value ∷ ds) =
    ap (λ bytes. global_text w name ++ bytes) (of-globals w ds)
of-globals w (t.Array name words entries ∷ ds) = of-globals w ds
of-globals w (t.Routine x ∷ ds) = of-globals w ds

abbrev pub said_of : World → Directive → List ℕ
said_of w d = directive_text w (directive_of d)

-- the heading, what is said of the directives, and the end are the line of a pause
pub line_parts : (w : World) (given ds : List Directive) (said used : ℕ) → given ≡ ds → said ≡ used
    → says (heading said) ++ (says (flat_map (said_of w) given) ++ says (codes "]\n"))
    ≡ says (pause_line (globals_of (map directive_of ds)) used w)
line_parts w given ds said used all counted =
    let values = flat_map (said_of w) given in
    let names = globals_of (map directive_of ds) in
    let listed = flat_map (global_text w) names in
    let same : values ≡ listed = ap (flat_map (said_of w)) all
    ∙ sym (flat_map-map (directive_text w) directive_of ds)
    ∙ of-globals w (map directive_of ds) in
    ap (λ es. says (heading said) ++ es) (sym (says-append values (codes "]\n")))
    ∙ sym (says-append (heading said) (values ++ codes "]\n"))
    ∙ ap says (ap (λ n. heading n ++ (values ++ codes "]\n")) counted
    ∙ ap (λ bytes. heading used ++ (bytes ++ codes "]\n")) same
    ∙ sym (append_assoc (heading used) listed (codes "]\n"))
    ∙ sym (append_assoc (heading used ++ listed) (codes "]") (10 ∷ [])))

-- a text of several fails, after those before it
pub one_fails : {X S T U D E : Type 0} {old mid new : ConsoleView} {x : S} {d : D} {r : Result U E}
    (text : X → List ℕ) (xs : List X) (i : ℕ) (y : X) → i < length xs → y ≡ get_or xs i y → IsErr r
    → Speaks {E = D} old mid (Ok x) (says (flat_map text (take i xs)))
    → Speaks {T = T} mid new (Err d) (says (text y))
    → Speaks old new r (says (flat_map text xs))
one_fails {T = T} {D = D} {old = old} {mid = mid} {new = new} {d = d} {r = r} text xs i y within is
    failed first stop =
    let so_far = flat_map text (take i xs) in
    let here = text (get_or xs i y) in
    let to_come = flat_map text (drop (suc i) xs) in
    let all : says so_far ++ (says here ++ says to_come) ≡ says (flat_map text xs) =
    ap (λ es. says so_far ++ es) (sym (says-append here to_come))
    ∙ sym (says-append so_far (here ++ to_come))
    ∙ ap says (sym (flat_map-split text xs i y within)) in
    subst (λ es. Speaks old new r es) all
    (speaks_then first (speaks_exit (says to_come) failed
    (subst (λ z. Speaks {T = T} {E = D} mid new (Err d) (says (text z))) is stop)))

-- ---- the parts of a line

-- a failure at the number of steps
pub heading_fails : {T U D E : Type 0} {old new : ConsoleView} {d : D} {r : Result U E} (w : World)
    (ds : List Directive) (said used : ℕ) → said ≡ used → IsErr r
    → Speaks {T = T} old new (Err d) (says (heading said))
    → Speaks old new r (says (pause_line (globals_of (map directive_of ds)) used w))
heading_fails {old = old} {new = new} {r = r} w ds said used counted failed stop =
    subst (λ es. Speaks old new r es) (line_parts w ds ds said used refl counted)
    (speaks_exit (says (flat_map (said_of w) ds) ++ says (codes "]\n")) failed stop)

-- at a global
pub values_fail : {S T U D E : Type 0} {old mid new : ConsoleView} {x : S} {d : D} {r : Result U E}
    (w : World) (given ds : List Directive) (said used : ℕ) → given ≡ ds → said ≡ used → IsErr r
    → Speaks {E = D} old mid (Ok x) (says (heading said))
    → Speaks {T = T} mid new (Err d) (says (flat_map (said_of w) given))
    → Speaks old new r (says (pause_line (globals_of (map directive_of ds)) used w))
values_fail {old = old} {new = new} {r = r} w given ds said used all counted failed first stop =
    subst (λ es. Speaks old new r es) (line_parts w given ds said used all counted)
    (speaks_then first (speaks_exit (says (codes "]\n")) failed stop))

-- the whole line, or a failure at its end
pub line_said : {S T U D E : Type 0} {old mid then new : ConsoleView} {x : S} {y : T}
    {r : Result U E} (w : World) (given ds : List Directive) (said used : ℕ) → given ≡ ds
    → said ≡ used → Speaks {E = D} old mid (Ok x) (says (heading said))
    → Speaks {E = D} mid then (Ok y) (says (flat_map (said_of w) given))
    → Speaks then new r (says (codes "]\n"))
    → Speaks old new r (says (pause_line (globals_of (map directive_of ds)) used w))
line_said {old = old} {new = new} {r = r} w given ds said used all counted first second third =
    subst (λ es. Speaks old new r es) (line_parts w given ds said used all counted)
    (speaks_then first (speaks_then second third))
