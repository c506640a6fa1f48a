-- What the routines that say a text by its number do, and those of the messages.
use Rattle.std.proofs.Common.{◌≡◌, ◌∙◌, arith, ℕ, zero, suc, ◌+◌, ◌<◌, ◌≤◌, pos, nat_eq, Bool, true, false, if◌then◌else◌, List, [], ◌∷◌, ◌++◌, map, length, slice_index_or, refl, sym, ap, subst}
use Rattle.inform_tree.specs.Statements as t
use Rattle.inform_meaning.specs.Worlds.{Program, Scope}
use Rattle.inform_meaning.specs.Frames.{Normal}
use Rattle.inform_logic.specs.Stages.{Stage, said}
use Rattle.inform_logic.specs.Leading.{Leads, TheCases, Does, at_end}
use Rattle.inform_logic.specs.Holding.{Held, Holds, Has}
use Rattle.inform_logic.proofs.Choices.{one_number}
use Rattle.inform_logic.proofs.Values.{local}
use Rattle.inform_logic.proofs.Printing.{print_nothing, print_text, said_twice}
use Rattle.inform_logic.proofs.Statements.{end, next, print, new_line, switch, this_case, later_case}
use Rattle.inform_logic.proofs.Routines.{routine}
use Rattle.inform_codes.specs.Grown.{body_of}
use Rattle.scott_types.specs.Database.{Database}
use Rattle.scott_types.specs.Phrase.{text_of}
use Rattle.scott_rules.specs.Opcodes.{said_message}
use Rattle.trans_specs.specs.Names.{line_number, message_name}
use Rattle.trans_data.specs.Texts.{message_directive, message_directives, text_cases, text_routine}
use Rattle.trans_data.proofs.Lists.{under}
use Rattle.trans_data.proofs.Served.{has_it}

-- ---- numbers of cases

same : (n : ℕ) → nat_eq n n ≡ true
same n = grind arith

higher : (n m : ℕ) → n < m → nat_eq m n ≡ false
higher n m h = grind (arith, h)

-- ---- an element of a list that is made of another

pub at_map : {X : Type 0} (f : X → List ℕ) (xs : List X) (k : ℕ) (none : X) → k < length xs
    → slice_index_or (map f xs) k [] ≡ f (slice_index_or xs k none)
at_map f [] k none few = absurd (omega (arith, few))
at_map f (x ∷ xs) zero none few = refl
at_map f (x ∷ xs) (suc k) none few = at_map f xs k none (omega (arith, few))

-- ---- the texts of a switch

module _ {p : Program} {d : ℕ} {s : Scope} {w : Stage} where
  -- the case of the k-th text from number n on
  case_leads : (texts : List (List ℕ)) (n k m : ℕ) → n + k ≡ m → k < length texts
      → n + length texts < 32768
      → Leads p d (TheCases (pos m) (text_cases n texts) t.NoDefault) s w Normal s
      (said (slice_index_or texts k []) w) 1
  case_leads [] n k m is few all = absurd (omega (arith, few))
  case_leads (x ∷ xs) n zero m is few all =
      let here : n ≡ m = omega (arith, is) in
      this_case (one_number (omega (arith, all)) (subst (λ m. nat_eq m n ≡ true) here (same n)))
      (next (print (print_text print_nothing)) end)
  case_leads (x ∷ xs) n (suc k) m is few all =
      later_case (one_number (omega (arith, all)) (higher n m (omega (arith, is))))
      (case_leads xs (n + 1) k m (omega (arith, is)) (omega (arith, few)) (omega (arith, all)))

-- the routine says the text of its argument
pub text_does : {p : Program} (name : List ℕ) (texts : List (List ℕ)) (d k : ℕ) (w : Stage)
    → Has p (text_routine name texts) → k < length texts → length texts ≤ 255
    → Does p (suc d) name (pos k ∷ []) w (pos 1) (said (slice_index_or texts k []) w) 2
text_does name texts d k w has few all = routine has
    (next (switch (local refl) (case_leads texts 0 k k (omega arith) few (omega (arith, all)))) end)
    at_end

-- ---- messages

-- the routine of the k-th message from number n on
held_message : (p : Program) (texts : List (List ℕ)) (n k m : ℕ) → n + k ≡ m → k < length texts
    → Holds p (message_directives n texts)
    → Held p (message_directive m (slice_index_or texts k []))
held_message p [] n k m is few h = absurd (omega (arith, few))
held_message p (x ∷ xs) n zero m is few h =
    let here : n ≡ m = omega (arith, is) in
    subst (λ m. Held p (message_directive m x)) here h.0
held_message p (x ∷ xs) n (suc k) m is few h =
    held_message p xs (n + 1) k m (omega (arith, is)) (omega (arith, few)) h.1

message_is : (db : Database) (m : ℕ) → m < length db.messages
    → slice_index_or db.messages m [] ++ 10 ∷ [] ≡ said_message db m
unfolding text_of
message_is db m less = ap (λ (b : Bool). if b then slice_index_or db.messages m [] ++ 10
    ∷ [] else [])
    (sym (under m (length db.messages) less))

-- the routine of a message says it, and the end of a line, in at most two steps
pub message_does : (db : Database) (p : Program) (d m : ℕ) (w : Stage)
    → ((name : List ℕ) (at : ℕ) → p.notes name at ≡ line_number name)
    → Holds p (message_directives 0 db.messages) → m < length db.messages
    → Does p (suc d) (message_name m) [] w (pos 1) (said (said_message db m) w) 2
unfolding body_of
message_does db p d m w notes holds less =
    subst (λ w'. Does p (suc d) (message_name m) [] w (pos 1) w' 2)
    (said_twice (slice_index_or db.messages m []) (10 ∷ []) w
    ∙ ap (λ bytes. said bytes w) (message_is db m less))
    (routine (has_it notes refl (held_message p db.messages 0 m m (omega arith) less holds))
    (next (print (print_text print_nothing)) (next new_line end)) at_end)
