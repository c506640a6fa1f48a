-- What a session says in a hall: its number, its text and a newline.
use Rattle.std.proofs.Common.{◌≡◌, ◌∙◌, ℕ, List, [], ◌∷◌, ◌++◌, Ok, Err, sym, ap, subst}
use Rattle.adv_io.specs.Console.{ConsoleView, Speaks}
use Rattle.adv_io.specs.History.{says}
use Rattle.adv_io.specs.Text.{newline}
use Rattle.adv_io.proofs.Histories.{says-append}
use Rattle.adv_io.proofs.Along.{as_err}
use Rattle.adv_io.proofs.Sayings.{speaks_then, speaks_stop}
use Rattle.adv_hall.specs.Seats.{heading, text_by}

said-text : (k : ℕ) (said : List ℕ)
    → says (heading k) ++ (says said ++ says (newline ∷ [])) ≡ says (text_by k said)
said-text k said =
    ap (λ es. says (heading k) ++ es) (sym (says-append said (newline ∷ [])))
    ∙ sym (says-append (heading k) (said ++ newline ∷ []))

-- a failure at the number
pub number_fails : {T U D E : Type 0} {old new : ConsoleView} {d : D} (k : ℕ) (said : List ℕ)
    (e : E) → Speaks {T = T} old new (Err d) (says (heading k))
    → Speaks {T = U} old new (Err e) (says (text_by k said))
number_fails {U = U} {E = E} {old = old} {new = new} k said e stop =
    subst (λ es. Speaks {T = U} {E = E} old new (Err e) es) (said-text k said)
    (speaks_stop e (says said ++ says (newline ∷ [])) stop)

-- in the text
pub text_fails : {S T U D E : Type 0} {old mid new : ConsoleView} {x : S} {d : D} (k : ℕ)
    (said : List ℕ) (e : E) → Speaks {E = D} old mid (Ok x) (says (heading k))
    → Speaks {T = T} mid new (Err d) (says said)
    → Speaks {T = U} old new (Err e) (says (text_by k said))
text_fails {U = U} {E = E} {old = old} {new = new} k said e first stop =
    subst (λ es. Speaks {T = U} {E = E} old new (Err e) es) (said-text k said)
    (speaks_then first (speaks_stop e (says (newline ∷ [])) stop))

-- at the newline
pub newline_fails : {S T U V D E : Type 0} {old mid then new : ConsoleView} {x : S} {y : T} {d : D}
    (k : ℕ) (said : List ℕ) (e : E) → Speaks {E = D} old mid (Ok x) (says (heading k))
    → Speaks {E = D} mid then (Ok y) (says said)
    → Speaks {T = V} then new (Err d) (says (newline ∷ []))
    → Speaks {T = U} old new (Err e) (says (text_by k said))
newline_fails {U = U} {E = E} {old = old} {new = new} k said e first second stop =
    subst (λ es. Speaks {T = U} {E = E} old new (Err e) es) (said-text k said)
    (speaks_then first (speaks_then second (as_err e stop)))
