-- The header and the trailer are read as settings and numbers that mean what they were written of.
use Rattle.std.proofs.Common.{◌≡◌, [], ◌∷◌, ℤ, pos, refl}
use Rattle.std.specs.Prelude.{codes}
use Rattle.scott_types.specs.declared.parts.Header.{Header}
use Rattle.scott_types.specs.declared.parts.Trailer.{Trailer}
use Rattle.source_reader.specs.declared.settings.Settings.{Settings}
use Rattle.source_reader.specs.declared.tree.At.{At}
use Rattle.source_reader.specs.declared.tree.Ref.{Ref}
use Rattle.source_reader.specs.Plan.{done, ◌>>◌}
use Rattle.source_reader.specs.Singles.{any_token, symbol, key, number, reference}
use Rattle.source_reader.specs.Text.{opened, setting, room_setting, settings, trailer}
use Rattle.adv_decompiler.specs.declared.sizes.Sizes.{Sizes}
use Rattle.adv_decompiler.specs.Layout.{joined, spaced, below, chunk, word, mark, semicolon, section}
use Rattle.adv_decompiler.specs.References.{room_token, exit_token}
use Rattle.adv_decompiler.specs.Plain.{header_lines, trailer_line}
use Rattle.adv_decompiler.specs.Plain.{setting as setting_line}
use Rattle.source_reader.specs.declared.tokens.Token.{Token}
use Rattle.source_reader.specs.declared.tokens.Token.TheVariants as token
use Rattle.adv_decompiler.proofs.Feeding.{Fed, fed_then}
use Rattle.adv_decompiler.proofs.Finding.{AreFew, Means, Refers, room_refers, exit_refers}

-- a setting that is a room
abbrev Room : Sizes → ℤ → At Ref → Type 0
Room sizes z r = Means sizes (λ known. known.rooms) z r

pub record SettingsMean (sizes : Sizes) (h : Header) (s : Settings) : Type 0 where
  pub unused : s.unused.what ≡ h.unused
  pub carry : s.carry.what ≡ h.carry
  pub start : Room sizes (pos h.start) s.start
  pub treasures : s.treasures.what ≡ h.treasures
  pub size : s.length.what ≡ pos h.length
  pub light : s.light.what ≡ h.light
  pub home : Room sizes h.home s.home

abbrev Says : ℤ → At ℤ → Type 0
Says z n = n.what ≡ z

module _ (sizes : Sizes) (few : AreFew sizes) where
  start_fed : (z : ℤ) (t : Token) → Refers sizes (λ known. known.rooms) z t → Fed (room_setting (codes "start")) (setting_line (codes "start") t) (Room sizes z)
  unfolding room_setting key symbol any_token
  start_fed z t refers at = fed_then (Room sizes z) (Room sizes z) reference (λ room. symbol 59 >> done room) (chunk spaced t ∷ []) (semicolon ∷ []) (refers spaced) (λ r h at_end. h)

  home_fed : (z : ℤ) (t : Token) → Refers sizes (λ known. known.rooms) z t → Fed (room_setting (codes "home")) (setting_line (codes "home") t) (Room sizes z)
  unfolding room_setting key symbol any_token
  home_fed z t refers at = fed_then (Room sizes z) (Room sizes z) reference (λ room. symbol 59 >> done room) (chunk spaced t ∷ []) (semicolon ∷ []) (refers spaced) (λ r h at_end. h)

  unused_fed : (z : ℤ) → Fed (opened (codes "header") >> setting (codes "unused"))
      (word joined (codes "header") ∷ mark spaced 123 ∷ setting_line (codes "unused") (token.Number z)) (Says z)
  unfolding opened setting key number symbol any_token
  unused_fed z = λ a b c d e. refl

  carry_fed : (z : ℤ) → Fed (setting (codes "carry")) (setting_line (codes "carry") (token.Number z)) (Says z)
  unfolding setting key number symbol any_token
  carry_fed z = λ a b c. refl

  treasures_fed : (z : ℤ) → Fed (setting (codes "treasures")) (setting_line (codes "treasures") (token.Number z)) (Says z)
  unfolding setting key number symbol any_token
  treasures_fed z = λ a b c. refl

  length_fed : (z : ℤ) → Fed (setting (codes "length")) (setting_line (codes "length") (token.Number z)) (Says z)
  unfolding setting key number symbol any_token
  length_fed z = λ a b c. refl

  light_fed : (z : ℤ) → Fed (setting (codes "light")) (setting_line (codes "light") (token.Number z)) (Says z)
  unfolding setting key number symbol any_token
  light_fed z = λ a b c. refl

  -- what is written of a header is read as settings that mean its seven values
  pub settings_fed : (h : Header) → Fed settings (section joined (codes "header") (header_lines sizes h)) (SettingsMean sizes h)
  unfolding settings symbol any_token
  settings_fed h =
      let P = SettingsMean sizes h in
      fed_then (Says h.unused) P (opened (codes "header") >> setting (codes "unused")) _
      (word joined (codes "header") ∷ mark spaced 123 ∷ setting_line (codes "unused") (token.Number h.unused)) _ (unused_fed h.unused) (λ unused hu.
      fed_then (Says h.carry) P (setting (codes "carry")) _ (setting_line (codes "carry") (token.Number h.carry)) _ (carry_fed h.carry) (λ carry hc.
      fed_then (Room sizes (pos h.start)) P (room_setting (codes "start")) _ (setting_line (codes "start") (room_token sizes h.start)) _
      (start_fed (pos h.start) (room_token sizes h.start) (room_refers sizes few h.start)) (λ start hs.
      fed_then (Says h.treasures) P (setting (codes "treasures")) _ (setting_line (codes "treasures") (token.Number h.treasures)) _ (treasures_fed h.treasures) (λ treasures ht.
      fed_then (Says (pos h.length)) P (setting (codes "length")) _ (setting_line (codes "length") (token.Number (pos h.length))) _ (length_fed (pos h.length)) (λ size hl.
      fed_then (Says h.light) P (setting (codes "light")) _ (setting_line (codes "light") (token.Number h.light)) _ (light_fed h.light) (λ light hi.
      fed_then (Room sizes h.home) P (room_setting (codes "home")) _ (setting_line (codes "home") (exit_token sizes h.home)) (mark below 125 ∷ [])
      (home_fed h.home (exit_token sizes h.home) (exit_refers sizes few h.home)) (λ home hh at_end.
      record { unused = hu; carry = hc; start = hs; treasures = ht; size = hl; light = hi; home = hh })))))))

pub trailer_fed : (t : Trailer) → Fed trailer (section below (codes "trailer") (trailer_line t)) (λ numbers. numbers ≡ t.version ∷ t.adventure ∷ t.third ∷ [])
unfolding trailer opened key number symbol any_token
trailer_fed t = λ a b c d e f. refl
