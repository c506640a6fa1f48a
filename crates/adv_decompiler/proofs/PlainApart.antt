-- The tokens of the whole text stand apart.
use Rattle.std.proofs.Common.{◌≡◌, ℕ, ◌^◌, ◌≤◌, ◌<◌, Bool, true, false, eqb, leb, List, [], ◌∷◌, ◌++◌, map, length, ℤ, refl, arith}
use Rattle.std.specs.Prelude.{codes}
use Rattle.std.specs.List.{list_all, AllByRecursion}
use Rattle.std.proofs.lemmas.Bool.{and_parts, and_from, cond_both, leb-true}
use Rattle.scott_types.specs.declared.parts.Header.{Header}
use Rattle.scott_types.specs.declared.parts.Word.{Word}
use Rattle.scott_types.specs.declared.parts.Room.{Room}
use Rattle.scott_types.specs.declared.parts.Item.{Item}
use Rattle.scott_types.specs.declared.parts.Trailer.{Trailer}
use Rattle.scott_types.specs.Limits.{is_file_text, is_number, is_word, is_room, is_item, are_header_numbers, is_trailer}
use Rattle.source_reader.specs.declared.tokens.Token.{Token}
use Rattle.source_reader.specs.declared.tokens.Token.TheVariants as token
use Rattle.adv_decompiler.specs.declared.sizes.Sizes.{Sizes}
use Rattle.adv_decompiler.specs.Layout.{joined, spaced, below, Chunk, mark, semicolon, listed, more_listed, section}
use Rattle.adv_decompiler.specs.References.{room_token, exit_token, place_token}
use Rattle.adv_decompiler.specs.Plain.{header_lines, word_line, room_line, message_line, item_line, trailer_line}
use Rattle.adv_decompiler.proofs.Apart.{is_written, is_a_mark, is_spelled_word, laid, laid-free, laid-append}
use Rattle.adv_decompiler.proofs.Finding.{AreFew, room_written, exit_written, number_written}
use Rattle.adv_decompiler.proofs.Names.{name-spelled}

abbrev IsWritten : Token → Type 0
IsWritten t = is_written t ≡ true

-- ---- tokens with commas between them

more-laid : (free : Bool) (tokens : List Token) → AllByRecursion IsWritten tokens → laid free (more_listed tokens ++ semicolon ∷ []) ≡ true
more-laid free [] all = refl
more-laid free (t ∷ tokens) all = and_from _ _ all.0 (more-laid (is_a_mark t) tokens all.1)

listed-laid : (tokens : List Token) → AllByRecursion IsWritten tokens → laid true (listed spaced tokens ++ semicolon ∷ []) ≡ true
listed-laid [] all = refl
listed-laid (t ∷ tokens) all = and_from _ _ all.0 (more-laid (is_a_mark t) tokens all.1)

-- ---- a list under its word

pub section-laid : (name : List ℕ) (lines : List Chunk) → is_spelled_word name ≡ true → laid false lines ≡ true → laid false (section below name lines) ≡ true
section-laid name lines is h = and_from _ _ is (laid-append true lines (mark below 125 ∷ []) (laid-free true lines h) refl)

module _ (sizes : Sizes) (few : AreFew sizes) where
  exits-written : (exits : List ℤ) → list_all is_number exits ≡ true → AllByRecursion IsWritten (map (exit_token sizes) exits)
  exits-written [] h = tt
  exits-written (z ∷ exits) h =
      let parts = and_parts (is_number z) (list_all is_number exits) h in (exit_written sizes few z parts.0, exits-written exits parts.1)

  pub word_laid : (k : ℕ) (w : Word) → is_word w ≡ true → laid false (word_line sizes k w) ≡ true
  word_laid k w ok = let parts = and_parts (is_file_text w.verb) (is_file_text w.noun) ok in and_from _ _ parts.0 (and_from _ _ parts.1 refl)

  pub message_laid : (k : ℕ) (text : List ℕ) → k < sizes.messages → is_file_text text ≡ true → laid false (message_line sizes k text) ≡ true
  message_laid k text there ok =
      let small : k < 2 ^ 64 = omega (arith, few.messages) in and_from _ _ (name-spelled 109 k refl small) (and_from _ _ ok refl)

  pub room_laid : (k : ℕ) (r : Room) → k < sizes.rooms → is_room r ≡ true → laid false (room_line sizes k r) ≡ true
  room_laid k r there ok =
      let small : k < 2 ^ 64 = omega (arith, few.rooms) in
      let parts = and_parts (list_all is_number r.exits) (is_file_text r.text) (and_parts (eqb (length r.exits) 6) _ ok).1 in
      and_from _ _ (name-spelled 114 k refl small)
      (and_from _ _ parts.1 (listed-laid (map (exit_token sizes) r.exits) (exits-written r.exits parts.0)))

  place_written : (p : ℕ) → p ≤ 255 → is_written (place_token sizes p) ≡ true
  place_written p low =
      cond_both (eqb p 255) (token.Word (codes "carried")) _ IsWritten (λ e. refl)
      (λ e. cond_both (eqb p 0) (token.Word (codes "nowhere")) (room_token sizes p) IsWritten (λ e. refl) (λ e. room_written sizes few p (omega arith)))

  pub item_laid : (k : ℕ) (i : Item) → k < sizes.items → is_item i ≡ true → laid false (item_line sizes k i) ≡ true
  item_laid k i there ok =
      let small : k < 2 ^ 64 = omega (arith, few.items) in
      let parts = and_parts (is_file_text i.text) (leb i.place 255) ok in
      and_from _ _ (name-spelled 105 k refl small) (and_from _ _ parts.0 (and_from _ _ (place_written i.place (leb-true i.place 255 parts.1)) refl))

  pub header_laid : (h : Header) → h.start ≤ 255 → h.length ≤ 20 → are_header_numbers h ≡ true → laid true (section joined (codes "header") (header_lines sizes h)) ≡ true
  header_laid h start size ok =
      let unused = and_parts (is_number h.unused) _ ok in
      let carry = and_parts (is_number h.carry) _ unused.1 in
      let treasures = and_parts (is_number h.treasures) _ carry.1 in
      let light = and_parts (is_number h.light) _ treasures.1 in
      let home = and_parts (is_number h.home) true light.1 in
      and_from _ _ unused.0 (and_from _ _ carry.0
      (and_from _ _ (room_written sizes few h.start (omega arith)) (and_from _ _ treasures.0 (and_from _ _ (number_written sizes few h.length (omega arith))
      (and_from _ _ light.0 (and_from _ _ (exit_written sizes few h.home home.0) refl))))))

pub trailer_laid : (t : Trailer) → is_trailer t ≡ true → laid false (section below (codes "trailer") (trailer_line t)) ≡ true
trailer_laid t ok =
    let version = and_parts (is_number t.version) _ ok in
    let adventure = and_parts (is_number t.adventure) _ version.1 in
    let third = and_parts (is_number t.third) true adventure.1 in and_from _ _ version.0 (and_from _ _ adventure.0 (and_from _ _ third.0 refl))
