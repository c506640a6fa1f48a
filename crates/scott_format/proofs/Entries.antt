-- The line of each entry is read as the entry.
use Rattle.std.proofs.Common.{◌≡◌, ℕ, suc, ◌≤◌, true, leb, eqb, List, [], ◌∷◌, ◌++◌, length, map, ℤ, pos, refl, sym, ap, subst, ◌∙◌, arith}
use Rattle.std.specs.Prelude.{int_le}
use Rattle.std.specs.List.{list_all}
use Rattle.std.proofs.lemmas.Bool.{and_parts, and_from, leb-true, le-leb, eqb-true}
use Rattle.std.proofs.lemmas.List.{nil_from_length}
use Rattle.std.proofs.lemmas.List.Folds.{list_all-append}
use Rattle.scott_types.specs.declared.parts.Action.{Action}
use Rattle.scott_types.specs.declared.parts.Word.{Word}
use Rattle.scott_types.specs.declared.parts.Room.{Room}
use Rattle.scott_types.specs.declared.parts.Item.{Item}
use Rattle.scott_types.specs.declared.parts.Trailer.{Trailer}
use Rattle.scott_types.specs.Limits.{is_file_text, is_number, is_natural, is_action, is_word, is_room, is_item, is_trailer}
use Rattle.scott_format.specs.Plan.{Plan, done, Spelled}
use Rattle.scott_format.specs.Sections.{action, word, room, string, item, trailer, low_byte}
use Rattle.scott_format.specs.Canon.{Token, num, str, line_text, action_line, word_line, room_line, string_line, item_line, trailer_line}
use Rattle.scott_format.specs.TextLaws.{TextLaws}
use Rattle.scott_format.proofs.Tokens.{Feeds, fed, checked, a_number, a_string, one_perhaps, one, line_spelled}
use Rattle.scott_format.proofs.CanonText.{EntrySpelled, fits, natural_fits, kept}

-- ---- lists of a fixed length

two : {X : Type 0} (xs : List X) → length xs ≡ 2 → (a b : X) × (xs ≡ a ∷ b ∷ [])
two [] e = absurd (omega arith)
two (a ∷ []) e = absurd (omega arith)
two (a ∷ b ∷ []) e = (a, b, refl)
two (a ∷ b ∷ c ∷ xs) e = absurd (omega arith)

three : {X : Type 0} (xs : List X) (n : ℕ) → length xs ≡ suc (suc (suc n)) → (a b c : X) × (ys : List X) × (xs ≡ a ∷ b ∷ c ∷ ys) × (length ys ≡ n)
three [] n e = absurd (omega arith)
three (a ∷ []) n e = absurd (omega arith)
three (a ∷ b ∷ []) n e = absurd (omega arith)
three (a ∷ b ∷ c ∷ xs) n e = (a, b, c, xs, refl, omega arith)

-- ---- tests

at_least_zero : (n : ℕ) → int_le (pos 0) (pos n) ≡ true
at_least_zero n = le-leb 0 n (omega arith)

action_fits : (n : ℕ) → is_natural n ≡ true → n ≤ 2147483647
action_fits n e = leb-true n 2147483647 e

module _ (k : ℕ) where
  -- eight natural numbers are read as an action: its vocabulary, five conditions and two pairs
  action_fed : (v a b c d e first second : ℕ) → list_all is_natural (v ∷ a ∷ b ∷ c ∷ d ∷ e ∷ first ∷ second ∷ []) ≡ true
      → Feeds Action (action k) (map (λ n. num (pos n)) (v ∷ a ∷ b ∷ c ∷ d ∷ e ∷ first ∷ second ∷ []))
      (done (record { vocab = v; conds = a ∷ b ∷ c ∷ d ∷ e ∷ []; pairs = first ∷ second ∷ [] }))
  unfolding action
  action_fed v a b c d e first second all =
      let h0 = and_parts (is_natural v) _ all in
      let h1 = and_parts (is_natural a) _ h0.1 in
      let h2 = and_parts (is_natural b) _ h1.1 in
      let h3 = and_parts (is_natural c) _ h2.1 in
      let h4 = and_parts (is_natural d) _ h3.1 in
      let h5 = and_parts (is_natural e) _ h4.1 in
      let h6 = and_parts (is_natural first) _ h5.1 in
      let h7 = and_parts (is_natural second) _ h6.1 in
      let t = λ (n : ℕ) (h : is_natural n ≡ true). natural_fits n (action_fits n h) in
      a_number (t v h0.0) (checked (at_least_zero v) (a_number (t a h1.0) (checked (at_least_zero a) (a_number (t b h2.0) (checked (at_least_zero b)
      (a_number (t c h3.0) (checked (at_least_zero c) (a_number (t d h4.0) (checked (at_least_zero d) (a_number (t e h5.0) (checked (at_least_zero e)
      (a_number (t first h6.0) (checked (at_least_zero first) (a_number (t second h7.0) (checked (at_least_zero second) fed)))))))))))))))

-- five and two of an action
five : {X : Type 0} (xs : List X) → length xs ≡ 5 → (a b c d e : X) × (xs ≡ a ∷ b ∷ c ∷ d ∷ e ∷ [])
five xs e =
    let h = three xs 2 e in
    let t = two h.3 h.5 in
    (h.0, h.1, h.2, t.0, t.1, h.4 ∙ ap (λ ys. h.0 ∷ h.1 ∷ h.2 ∷ ys) t.2)

six : {X : Type 0} (xs : List X) → length xs ≡ 6 → (a b c d e f : X) × (xs ≡ a ∷ b ∷ c ∷ d ∷ e ∷ f ∷ [])
six xs e =
    let h = three xs 3 e in
    let t = three h.3 0 h.5 in
    (h.0, h.1, h.2, t.0, t.1, t.2, h.4 ∙ ap (λ ys. h.0 ∷ h.1 ∷ h.2 ∷ ys) (t.4 ∙ ap (λ ys. t.0 ∷ t.1 ∷ t.2 ∷ ys) (nil_from_length t.3 t.5)))

module _ (laws : TextLaws) where
  -- a line that feeds the plan of an entry to its end
  entry : {X : Type 0} (p : Plan X) (t : Token) (ts : List Token) (x : X) → Feeds X p (t ∷ ts) (done x)
      → (rest : List ℕ) → Spelled p x (10 ∷ (line_text (t ∷ ts) ++ rest)) (10 ∷ rest)
  entry p t ts x f rest = line_spelled laws p (done x) t ts x (10 ∷ []) rest (10 ∷ rest) f (one refl) (refl, refl)

  -- the line that is written of an action within the limits spells it
  pub action_spelled : (k : ℕ) (a : Action) → is_action a ≡ true → EntrySpelled (action k) action_line a
  action_spelled k a ok =
      let vocab = and_parts (is_natural a.vocab) _ ok in
      let conds_length = and_parts (eqb (length a.conds) 5) _ vocab.1 in
      let conds = and_parts (list_all is_natural a.conds) _ conds_length.1 in
      let pairs_length = and_parts (eqb (length a.pairs) 2) (list_all is_natural a.pairs) conds.1 in
      let c = five a.conds (eqb-true (length a.conds) 5 conds_length.0) in
      let p = two a.pairs (eqb-true (length a.pairs) 2 pairs_length.0) in
      let all : list_all is_natural (a.vocab ∷ (a.conds ++ a.pairs)) ≡ true = and_from _ _ vocab.0 (list_all-append is_natural a.conds a.pairs ∙ and_from _ _ conds.0 pairs_length.1) in
      let IsSpelled : List ℕ → List ℕ → Type 0 = λ xs ys. list_all is_natural (a.vocab ∷ (xs ++ ys)) ≡ true
      → EntrySpelled (action k) action_line (record { vocab = a.vocab; conds = xs; pairs = ys }) in
      let plain : IsSpelled (c.0 ∷ c.1 ∷ c.2 ∷ c.3 ∷ c.4 ∷ []) (p.0 ∷ p.1 ∷ []) =
      λ each rest. entry (action k) (num (pos a.vocab)) (map (λ n. num (pos n)) (c.0 ∷ c.1 ∷ c.2 ∷ c.3 ∷ c.4 ∷ p.0 ∷ p.1 ∷ []))
      (record { vocab = a.vocab; conds = c.0 ∷ c.1 ∷ c.2 ∷ c.3 ∷ c.4 ∷ []; pairs = p.0 ∷ p.1 ∷ [] })
      (action_fed k a.vocab c.0 c.1 c.2 c.3 c.4 p.0 p.1 each) rest in
      subst (λ (ys : List ℕ). IsSpelled a.conds ys) (sym p.2) (subst (λ (xs : List ℕ). IsSpelled xs (p.0 ∷ p.1 ∷ [])) (sym c.5) plain) all

  pub word_spelled : (w : Word) → is_word w ≡ true → EntrySpelled word word_line w
  unfolding word
  word_spelled w ok =
      let h = and_parts (is_file_text w.verb) (is_file_text w.noun) ok in
      entry word (str w.verb) (str w.noun ∷ []) w (a_string (kept w.verb h.0) (a_string (kept w.noun h.1) fed))

  pub string_spelled : (t : List ℕ) → is_file_text t ≡ true → EntrySpelled string string_line t
  string_spelled t ok = entry string (str t) [] t (a_string (kept t ok) fed)

  -- the line that is written of a room within the limits spells it
  pub room_spelled : (r : Room) → is_room r ≡ true → EntrySpelled room room_line r
  unfolding room
  room_spelled r ok =
      let length_is = and_parts (eqb (length r.exits) 6) _ ok in
      let parts = and_parts (list_all is_number r.exits) (is_file_text r.text) length_is.1 in
      let e = six r.exits (eqb-true (length r.exits) 6 length_is.0) in
      let IsSpelled : List ℤ → Type 0 = λ xs. list_all is_number xs ≡ true → EntrySpelled room room_line (record { exits = xs; text = r.text }) in
      let plain : IsSpelled (e.0 ∷ e.1 ∷ e.2 ∷ e.3 ∷ e.4 ∷ e.5 ∷ []) =
      λ all rest.
      let h0 = and_parts (is_number e.0) _ all in
      let h1 = and_parts (is_number e.1) _ h0.1 in
      let h2 = and_parts (is_number e.2) _ h1.1 in
      let h3 = and_parts (is_number e.3) _ h2.1 in
      let h4 = and_parts (is_number e.4) _ h3.1 in
      let h5 = and_parts (is_number e.5) _ h4.1 in
      entry room (num e.0) (num e.1 ∷ num e.2 ∷ num e.3 ∷ num e.4 ∷ num e.5 ∷ str r.text ∷ [])
      (record { exits = e.0 ∷ e.1 ∷ e.2 ∷ e.3 ∷ e.4 ∷ e.5 ∷ []; text = r.text })
      (a_number (fits e.0 h0.0) (a_number (fits e.1 h1.0) (a_number (fits e.2 h2.0) (a_number (fits e.3 h3.0) (a_number (fits e.4 h4.0) (a_number (fits e.5 h5.0)
      (a_string (kept r.text parts.1) fed))))))) rest in
      subst IsSpelled (sym e.6) plain parts.0

  pub item_spelled : (i : Item) → is_item i ≡ true → EntrySpelled item item_line i
  unfolding item
  item_spelled i ok =
      let h = and_parts (is_file_text i.text) (leb i.place 255) ok in
      let place : i.place ≤ 255 = leb-true i.place 255 h.1 in
      let same : low_byte (pos i.place) ≡ i.place = omega arith in
      let read : Item = record { text = i.text; place = low_byte (pos i.place) } in
      λ rest. subst (λ (n : ℕ). Spelled item (record { text = i.text; place = n }) (10 ∷ (line_text (item_line i) ++ rest)) (10 ∷ rest)) same
      (entry item (str i.text) (num (pos i.place) ∷ []) read (a_string (kept i.text h.0) (a_number (natural_fits i.place (omega arith)) fed)) rest)

  pub trailer_spelled : (t : Trailer) → is_trailer t ≡ true → EntrySpelled trailer trailer_line t
  unfolding trailer
  trailer_spelled t ok =
      let h0 = and_parts (is_number t.version) _ ok in
      let h1 = and_parts (is_number t.adventure) _ h0.1 in
      let h2 = and_parts (is_number t.third) _ h1.1 in
      entry trailer (num t.version) (num t.adventure ∷ num t.third ∷ []) t
      (a_number (fits t.version h0.0) (a_number (fits t.adventure h1.0) (one_perhaps (fits t.third h2.0) fed)))
