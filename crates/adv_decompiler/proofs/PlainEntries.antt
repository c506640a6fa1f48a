-- Lines of words, rooms, messages and items: each is read as an entry that means what it was
-- written of.
use Rattle.std.proofs.Common.{◌≡◌, ℕ, ◌^◌, ◌≤◌, ◌<◌, ◌&&◌, Bool, true, cond, eqb, leb, ltb, List, [], ◌∷◌, ◌++◌, map, length, ℤ, pos, Option, Some, None, Result, Ok, refl, sym, ap, subst, ◌∙◌, arith}
use Rattle.std.specs.Prelude.{codes, int_le, unsigned_abs}
use Rattle.std.proofs.lemmas.Bool.{and_parts, and_from, cond_both, cond-true, eqb-true, leb-true, ltb-true, le-leb}
use Rattle.scott_types.specs.declared.parts.Word.{Word}
use Rattle.scott_types.specs.declared.parts.Room.{Room}
use Rattle.scott_types.specs.declared.parts.Item.{Item}
use Rattle.scott_types.specs.Limits.{is_room, is_item, is_file_text}
use Rattle.source_reader.specs.declared.titles.Title.{Title}
use Rattle.source_reader.specs.declared.tokens.Token.{Token}
use Rattle.source_reader.specs.declared.tokens.Token.TheVariants as token
use Rattle.source_reader.specs.declared.tree.At.{At}
use Rattle.source_reader.specs.declared.tree.Ref.{Ref}
use Rattle.source_reader.specs.declared.tree.Ref.TheVariants as ref
use Rattle.source_reader.specs.declared.tree.Spot.{Spot as Where}
use Rattle.source_reader.specs.declared.tree.Spot.TheVariants as where_it
use Rattle.source_reader.specs.declared.tree.WordPart.{WordPart}
use Rattle.source_reader.specs.declared.tree.RoomPart.{RoomPart}
use Rattle.source_reader.specs.declared.tree.MessagePart.{MessagePart}
use Rattle.source_reader.specs.declared.tree.ItemPart.{ItemPart}
use Rattle.source_reader.specs.Plan.{done, refuse, ◌>>=◌, ◌>>◌}
use Rattle.source_reader.specs.Names.{is_name}
use Rattle.source_reader.specs.Singles.{here, any_token, symbol, string, reference, item_place}
use Rattle.source_reader.specs.Entries.{titled, next_reference, room_rest, room_part, message_rest, message_part, item_rest, item_part, word_part}
use Rattle.source_reader.specs.Entries.{exits as exits_plan}
use Rattle.adv_compiler.specs.Faults.{Fault}
use Rattle.adv_compiler.specs.Faults.{◌>>=◌ as ◌onto◌}
use Rattle.adv_compiler.specs.Known.{Known, title_of}
use Rattle.adv_compiler.specs.Values.{found, value_of, in_range}
use Rattle.adv_compiler.specs.Entries.{not_before, named_once, exits, word, room, message, item, place}
use Rattle.adv_decompiler.specs.declared.sizes.Sizes.{Sizes}
use Rattle.adv_decompiler.specs.Layout.{joined, spaced, chunk, quoted, mark, semicolon, listed}
use Rattle.adv_decompiler.specs.Layout.{word as word_chunk}
use Rattle.adv_decompiler.specs.References.{room_name, message_name, item_name, number_token, room_token, exit_token, place_token}
use Rattle.adv_decompiler.specs.Plain.{word_line, room_line, message_line, item_line}
use Rattle.adv_decompiler.proofs.Feeding.{Fed, fed_then, fed_done}
use Rattle.adv_decompiler.proofs.Finding.{Finds, AreFew, Means, exit_refers}
use Rattle.adv_decompiler.proofs.Names.{name-is_name}
use Rattle.adv_decompiler.proofs.Listing.{EntryFed}

-- ---- words

abbrev pub WordMeans : ℕ → Word → At WordPart → Type 0
WordMeans k w e = e.what ≡ record { verb = w.verb; noun = w.noun }

pub word_fed : (sizes : Sizes) (k : ℕ) (w : Word) → EntryFed word_part (word_line sizes k w) (WordMeans k w)
unfolding string symbol any_token
word_fed sizes k w = (refl, λ at at_noun at_end. refl)

pub word_means : (known : Known) (k : ℕ) (w : Word) (e : At WordPart) → WordMeans k w e → word known k e ≡ Ok w
word_means known k w e h = ap (λ (part : WordPart). Ok (record { verb = part.verb; noun = part.noun })) h

-- ---- names and texts

abbrev pub Titled : List ℕ → List ℕ → Option (At (List ℕ)) → List ℕ → Type 0
Titled name text title read = (title_of title ≡ Some name) × (read ≡ text)

fed_titled : (name text : List ℕ) → is_name name ≡ true → Fed titled (word_chunk spaced name ∷ quoted spaced text ∷ []) (λ t. Titled name text t.name t.text)
unfolding titled string any_token
fed_titled name text is at =
    subst
    (λ (b : Bool). Fed (cond b (string >>= λ text. done (record { name = Some (here at name); text = text })) (refuse at)) (quoted spaced text ∷ [])
    (λ (t : Title). Titled name text t.name t.text)) (sym is) (λ at_text. (refl, refl))

int_same : (k : ℕ) → int_le (pos k) (pos k) ≡ true
int_same k = le-leb k k (omega arith)

-- an entry whose name is found as its own number has no other before it
named_right : (find : List ℕ → Option ℤ) (k : ℕ) (name : List ℕ) (title : Option (At (List ℕ))) → title_of title ≡ Some name → find name ≡ Some (pos k)
    → named_once find k title ≡ Ok tt
named_right find k name None e h = absurd (cc)
named_right find k name (Some title) e h =
    let same : title.what ≡ name = cc in
    ap (λ (o : Option ℤ). not_before title.at k o) (ap find same ∙ h) ∙ cond-true (int_le (pos k) (pos k)) _ _ (int_same k)

-- ---- messages

abbrev pub MessageMeans : ℕ → List ℕ → At MessagePart → Type 0
MessageMeans k text e = Titled (message_name k) text e.what.name e.what.text

module _ (sizes : Sizes) (few : AreFew sizes) where
  pub message_fed : (k : ℕ) (text : List ℕ) → k < sizes.messages → EntryFed message_part (message_line sizes k text) (MessageMeans k text)
  unfolding message_rest symbol any_token
  message_fed k text there =
      let small : k < 2 ^ 64 = omega (arith, few.messages) in (
        refl,
        λ at. fed_then (λ t. Titled (message_name k) text t.name t.text) (λ m. MessageMeans k text (here at m)) titled
            (λ name. symbol 59 >> done (record { name = name.name; text = name.text })) (word_chunk spaced (message_name k) ∷ quoted spaced text ∷ []) (semicolon ∷ [])
            (fed_titled (message_name k) text (name-is_name 109 k small)) (λ t h at_end. h),
      )

  pub message_means : (known : Known) → Finds sizes known → (k : ℕ) (text : List ℕ) (e : At MessagePart) → k < sizes.messages → MessageMeans k text e
      → message known k e ≡ Ok text
  message_means known finds k text e there h =
      ap (λ (r : Result (Unit {0}) Fault). r onto λ once. Ok e.what.text) (named_right known.messages k (message_name k) e.what.name h.0 (finds.messages k there))
      ∙ ap (λ (t : List ℕ). Ok t) h.1

  -- ---- rooms

  fed_next : (z : ℤ) → Fed next_reference (mark joined 44 ∷ chunk spaced (exit_token sizes z) ∷ []) (Means sizes (λ known. known.rooms) z)
  unfolding next_reference symbol any_token
  fed_next z = λ at. exit_refers sizes few z spaced

  -- what all six exits stand for
  abbrev ExitsMean : List ℤ → List (At Ref) → Type 0
  ExitsMean ways refs = (known : Known) → Finds sizes known → exits known [] refs ≡ Ok ways

  exit_step : (known : Known) (before : List ℤ) (z : ℤ) (r : At Ref) (refs : List (At Ref)) (total : Result (List ℤ) Fault)
      → value_of known.rooms r.at r.what ≡ Ok z → exits known (before ++ z ∷ []) refs ≡ total → exits known before (r ∷ refs) ≡ total
  exit_step known before z r refs total value rest =
      ap (λ (v : Result ℤ Fault). v onto λ way. exits known (before ++ way ∷ []) refs) value ∙ rest

  abbrev Way : ℤ → At Ref → Type 0
  Way z r = Means sizes (λ known. known.rooms) z r

  -- what is written of six exits is read as references that mean just these exits
  fed_exits : (a b c d e f : ℤ)
      → Fed exits_plan (listed spaced (map (exit_token sizes) (a ∷ b ∷ c ∷ d ∷ e ∷ f ∷ [])) ++ semicolon ∷ []) (ExitsMean (a ∷ b ∷ c ∷ d ∷ e ∷ f ∷ []))
  unfolding exits_plan symbol any_token
  fed_exits a b c d e f =
      let P = ExitsMean (a ∷ b ∷ c ∷ d ∷ e ∷ f ∷ []) in
      let total : Result (List ℤ) Fault = Ok (a ∷ b ∷ c ∷ d ∷ e ∷ f ∷ []) in
      fed_then (Way a) P reference _ (chunk spaced (exit_token sizes a) ∷ []) _ (exit_refers sizes few a spaced) (λ ra ha.
      fed_then (Way b) P next_reference _ (mark joined 44 ∷ chunk spaced (exit_token sizes b) ∷ []) _ (fed_next b) (λ rb hb.
      fed_then (Way c) P next_reference _ (mark joined 44 ∷ chunk spaced (exit_token sizes c) ∷ []) _ (fed_next c) (λ rc hc.
      fed_then (Way d) P next_reference _ (mark joined 44 ∷ chunk spaced (exit_token sizes d) ∷ []) _ (fed_next d) (λ rd hd.
      fed_then (Way e) P next_reference _ (mark joined 44 ∷ chunk spaced (exit_token sizes e) ∷ []) _ (fed_next e) (λ re he.
      fed_then (Way f) P next_reference _ (mark joined 44 ∷ chunk spaced (exit_token sizes f) ∷ []) (semicolon ∷ []) (fed_next f) (λ rf hf at known finds.
      exit_step known [] a ra (rb ∷ rc ∷ rd ∷ re ∷ rf ∷ []) total (ha known finds)
      (exit_step known (a ∷ []) b rb (rc ∷ rd ∷ re ∷ rf ∷ []) total (hb known finds)
      (exit_step known (a ∷ b ∷ []) c rc (rd ∷ re ∷ rf ∷ []) total (hc known finds)
      (exit_step known (a ∷ b ∷ c ∷ []) d rd (re ∷ rf ∷ []) total (hd known finds)
      (exit_step known (a ∷ b ∷ c ∷ d ∷ []) e re (rf ∷ []) total (he known finds)
      (exit_step known (a ∷ b ∷ c ∷ d ∷ e ∷ []) f rf [] total (hf known finds) refl)))))))))))

  -- six exits, whichever they are
  fed_six : (ways : List ℤ) → length ways ≡ 6 → Fed exits_plan (listed spaced (map (exit_token sizes) ways) ++ semicolon ∷ []) (ExitsMean ways)
  fed_six (a ∷ b ∷ c ∷ d ∷ e ∷ f ∷ []) h = fed_exits a b c d e f
  fed_six [] h = absurd (omega arith)
  fed_six (a ∷ []) h = absurd (omega arith)
  fed_six (a ∷ b ∷ []) h = absurd (omega arith)
  fed_six (a ∷ b ∷ c ∷ []) h = absurd (omega arith)
  fed_six (a ∷ b ∷ c ∷ d ∷ []) h = absurd (omega arith)
  fed_six (a ∷ b ∷ c ∷ d ∷ e ∷ []) h = absurd (omega arith)
  fed_six (a ∷ b ∷ c ∷ d ∷ e ∷ f ∷ g ∷ ways) h = absurd (omega arith)

  abbrev pub RoomMeans : ℕ → Room → At RoomPart → Type 0
  RoomMeans k r e = Titled (room_name k) r.text e.what.name e.what.text × ExitsMean r.exits e.what.exits

  -- the line of a room is read as an entry with its name, its text and its six exits
  pub room_fed : (k : ℕ) (r : Room) → k < sizes.rooms → is_room r ≡ true → EntryFed room_part (room_line sizes k r) (RoomMeans k r)
  unfolding room_rest symbol any_token
  room_fed k r there ok =
      let small : k < 2 ^ 64 = omega (arith, few.rooms) in
      let six : length r.exits ≡ 6 = eqb-true (length r.exits) 6 (and_parts (eqb (length r.exits) 6) _ ok).0 in (
        refl,
        λ at. fed_then (λ t. Titled (room_name k) r.text t.name t.text) (λ v. RoomMeans k r (here at v)) titled _
            (word_chunk spaced (room_name k) ∷ quoted spaced r.text ∷ []) (mark joined 58 ∷ (listed spaced (map (exit_token sizes) r.exits) ++ semicolon ∷ []))
            (fed_titled (room_name k) r.text (name-is_name 114 k small))
            (λ t h at_colon. fed_done (ExitsMean r.exits) (λ v. RoomMeans k r (here at v)) exits_plan (λ ways. record { name = t.name; text = t.text; exits = ways })
            (listed spaced (map (exit_token sizes) r.exits) ++ semicolon ∷ []) (fed_six r.exits six) (λ ways m. (h, m))),
      )

  pub room_means : (known : Known) → Finds sizes known → (k : ℕ) (r : Room) (e : At RoomPart) → k < sizes.rooms → RoomMeans k r e → room known k e ≡ Ok r
  room_means known finds k r e there h =
      ap (λ (q : Result (Unit {0}) Fault). q onto λ once. exits known [] e.what.exits onto λ ways. Ok (record { exits = ways; text = e.what.text }))
      (named_right known.rooms k (room_name k) e.what.name h.0.0 (finds.rooms k there))
      ∙ ap (λ (q : Result (List ℤ) Fault). q onto λ ways. Ok (record { exits = ways; text = e.what.text })) (h.1 known finds)
      ∙ ap (λ (t : List ℕ). Ok (record { exits = r.exits; text = t })) h.0.1

  -- ---- items

  abbrev PlaceMeans : ℕ → At Where → Type 0
  PlaceMeans p w = (known : Known) → Finds sizes known → place known w.at w.what ≡ Ok p

  in_byte : (at p : ℕ) → p ≤ 255 → in_range at (pos 0) (pos 255) (pos p) ≡ Ok (pos p)
  in_byte at p h = cond-true (int_le (pos 0) (pos p) && int_le (pos p) (pos 255)) _ _ (and_from _ _ (le-leb 0 p (omega arith)) (le-leb p 255 h))

  room_placed : (known : Known) (at p : ℕ) (r : Ref) → p ≤ 255 → value_of known.rooms at r ≡ Ok (pos p) → place known at (where_it.Room r) ≡ Ok p
  room_placed known at p r low value =
      ap (λ (v : Result ℤ Fault). v onto λ z. in_range at (pos 0) (pos 255) z onto λ in_it. Ok (unsigned_abs in_it)) value
      ∙ ap (λ (v : Result ℤ Fault). v onto λ in_it. Ok (unsigned_abs in_it)) (in_byte at p low)

  PlaceFed : ℕ → Token → Type 0
  PlaceFed p t = Fed item_place (chunk spaced t ∷ []) (PlaceMeans p)

  -- what is written of an item's place is read as it: `carried`, `nowhere`, or a room
  place_fed : (p : ℕ) → p ≤ 255 → PlaceFed p (place_token sizes p)
  unfolding PlaceFed item_place any_token
  place_fed p low =
      cond_both (eqb p 255) (token.Word (codes "carried")) _ (PlaceFed p) (λ e at known finds. ap (λ (n : ℕ). Ok n) (sym (eqb-true p 255 e)))
      (λ e. cond_both (eqb p 0) (token.Word (codes "nowhere")) (room_token sizes p) (PlaceFed p) (λ e at known finds. ap (λ (n : ℕ). Ok n) (sym (eqb-true p 0 e)))
      (λ e. cond_both (leb 1 p && ltb p sizes.rooms) (token.Word (room_name p)) (number_token p) (PlaceFed p)
      (λ e at.
      let there : p < sizes.rooms = ltb-true p sizes.rooms (and_parts (leb 1 p) _ e).1 in
      let small : p < 2 ^ 64 = omega (arith, few.rooms) in
      subst (λ (b : Bool). Fed (cond b (done (here at (where_it.Room (ref.Name (room_name p))))) (refuse at)) [] (PlaceMeans p)) (sym (name-is_name 114 p small))
      (λ known finds. room_placed known at p (ref.Name (room_name p)) low (ap (λ (o : Option ℤ). found o at) (finds.rooms p there))))
      (λ e at known finds. room_placed known at p (ref.Number (pos p)) low refl)))

  abbrev pub ItemMeans : ℕ → Item → At ItemPart → Type 0
  ItemMeans k i e = Titled (item_name k) i.text e.what.name e.what.text × PlaceMeans i.place e.what.place

  -- the line of an item is read as an entry with its name, its text and its place
  pub item_fed : (k : ℕ) (i : Item) → k < sizes.items → is_item i ≡ true → EntryFed item_part (item_line sizes k i) (ItemMeans k i)
  unfolding item_rest symbol any_token PlaceFed
  item_fed k i there ok =
      let small : k < 2 ^ 64 = omega (arith, few.items) in
      let low : i.place ≤ 255 = leb-true i.place 255 (and_parts (is_file_text i.text) _ ok).1 in (
        refl,
        λ at. fed_then (λ t. Titled (item_name k) i.text t.name t.text) (λ v. ItemMeans k i (here at v)) titled _
            (word_chunk spaced (item_name k) ∷ quoted spaced i.text ∷ []) (mark joined 58 ∷ chunk spaced (place_token sizes i.place) ∷ semicolon ∷ [])
            (fed_titled (item_name k) i.text (name-is_name 105 k small))
            (λ t h at_colon. fed_then (PlaceMeans i.place) (λ v. ItemMeans k i (here at v)) item_place _ (chunk spaced (place_token sizes i.place) ∷ []) (semicolon ∷ [])
            (place_fed i.place low) (λ w m at_end. (h, m))),
      )

  pub item_means : (known : Known) → Finds sizes known → (k : ℕ) (i : Item) (e : At ItemPart) → k < sizes.items → ItemMeans k i e → item known k e ≡ Ok i
  item_means known finds k i e there h =
      ap (λ (q : Result (Unit {0}) Fault). q onto λ once. place known e.what.place.at e.what.place.what onto λ p. Ok (record { text = e.what.text; place = p }))
      (named_right known.items k (item_name k) e.what.name h.0.0 (finds.items k there))
      ∙ ap (λ (q : Result ℕ Fault). q onto λ p. Ok (record { text = e.what.text; place = p })) (h.1 known finds)
      ∙ ap (λ (t : List ℕ). Ok (record { text = t; place = i.place })) h.0.1
