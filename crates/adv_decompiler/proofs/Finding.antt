-- References: what is written of a room, a message or an item is read as what stands for it,
-- wherever its name is found.
use Rattle.std.proofs.Common.{◌≡◌, ℕ, ◌^◌, ◌≤◌, ◌<◌, ◌&&◌, Bool, true, cond, leb, ltb, List, [], ◌∷◌, ℤ, pos, negsuc, Option, Some, None, Ok, refl, sym, ap, subst, ◌∙◌, arith}
use Rattle.std.specs.Option.{option_or}
use Rattle.std.proofs.lemmas.Bool.{and_parts, and_from, cond_both, ltb-true}
use Rattle.std.proofs.lemmas.Int.{ints}
use Rattle.scott_types.specs.declared.parameters.Parameter.{Parameter}
use Rattle.scott_types.specs.declared.parameters.Parameter.TheVariants.{Item, Room, Flag, Backup, Place, Number}
use Rattle.scott_types.specs.Limits.{is_number}
use Rattle.source_reader.specs.declared.tokens.Token.{Token}
use Rattle.source_reader.specs.declared.tokens.Token.TheVariants as token
use Rattle.source_reader.specs.declared.tree.At.{At}
use Rattle.source_reader.specs.declared.tree.Ref.{Ref}
use Rattle.source_reader.specs.declared.tree.Ref.TheVariants as ref
use Rattle.source_reader.specs.Plan.{done, refuse}
use Rattle.source_reader.specs.Names.{is_name}
use Rattle.source_reader.specs.Singles.{here, any_token, reference}
use Rattle.adv_compiler.specs.Known.{Known}
use Rattle.adv_compiler.specs.Values.{found, value_of, thing}
use Rattle.adv_decompiler.specs.declared.sizes.Sizes.{Sizes}
use Rattle.adv_decompiler.specs.Layout.{Lead, chunk}
use Rattle.adv_decompiler.specs.References.{room_name, message_name, item_name, number_token, room_token, exit_token, message_token, item_token, thing_token}
use Rattle.adv_decompiler.proofs.Apart.{is_written}
use Rattle.adv_decompiler.proofs.Feeding.{Fed}
use Rattle.adv_decompiler.proofs.FirstBytes.{number-most}
use Rattle.adv_decompiler.proofs.Names.{name-is_name, name-spelled}

-- the names of entries are found as their numbers, and no item has the name of a room
pub record Finds (sizes : Sizes) (known : Known) : Type 0 where
  pub rooms : (k : ℕ) → k < sizes.rooms → known.rooms (room_name k) ≡ Some (pos k)
  pub messages : (k : ℕ) → k < sizes.messages → known.messages (message_name k) ≡ Some (pos k)
  pub items : (k : ℕ) → k < sizes.items → known.items (item_name k) ≡ Some (pos k)
  pub no_item : (k : ℕ) → known.items (room_name k) ≡ None

-- as many as a database can have
pub record AreFew (sizes : Sizes) : Type 0 where
  pub rooms : sizes.rooms ≤ 255
  pub messages : sizes.messages ≤ 1000
  pub items : sizes.items ≤ 255

-- wherever names are so found, this is what a reference stands for
abbrev pub Means : Sizes → (Known → List ℕ → Option ℤ) → ℤ → At Ref → Type 0
Means sizes column z r = (known : Known) → Finds sizes known → value_of (column known) r.at r.what ≡ Ok z

abbrev pub Refers : Sizes → (Known → List ℕ → Option ℤ) → ℤ → Token → Type 0
Refers sizes column z t = (lead : Lead) → Fed reference (chunk lead t ∷ []) (Means sizes column z)

module _ (sizes : Sizes) (column : Known → List ℕ → Option ℤ) where
  pub number_refers : (z : ℤ) → Refers sizes column z (token.Number z)
  unfolding reference any_token
  number_refers z lead at known finds = refl

  pub name_refers : (name : List ℕ) (z : ℤ) → is_name name ≡ true → ((known : Known) → Finds sizes known → column known name ≡ Some z)
      → Refers sizes column z (token.Word name)
  unfolding reference any_token
  name_refers name z is h lead at =
      subst (λ (b : Bool). Fed (cond b (done (here at (ref.Name name))) (refuse at)) [] (Means sizes column z)) (sym is)
      (λ known finds. ap (λ (o : Option ℤ). found o at) (h known finds))

module _ (sizes : Sizes) (few : AreFew sizes) where
  pub room_refers : (n : ℕ) → Refers sizes (λ known. known.rooms) (pos n) (room_token sizes n)
  room_refers n =
      cond_both (leb 1 n && ltb n sizes.rooms) (token.Word (room_name n)) (number_token n) (λ t. Refers sizes (λ known. known.rooms) (pos n) t)
      (λ e. let there : n < sizes.rooms = ltb-true n sizes.rooms (and_parts (leb 1 n) _ e).1 in
      let small : n < 2 ^ 64 = omega (arith, few.rooms) in
      name_refers sizes (λ known. known.rooms) (room_name n) (pos n) (name-is_name 114 n small) (λ known finds. finds.rooms n there))
      (λ e. number_refers sizes (λ known. known.rooms) (pos n))

  pub exit_refers : (z : ℤ) → Refers sizes (λ known. known.rooms) z (exit_token sizes z)
  exit_refers (pos n) = room_refers n
  exit_refers (negsuc n) = number_refers sizes (λ known. known.rooms) (negsuc n)

  pub message_refers : (n : ℕ) → Refers sizes (λ known. known.messages) (pos n) (message_token sizes n)
  message_refers n =
      cond_both (ltb n sizes.messages) (token.Word (message_name n)) (number_token n) (λ t. Refers sizes (λ known. known.messages) (pos n) t)
      (λ e. let there : n < sizes.messages = ltb-true n sizes.messages e in
      let small : n < 2 ^ 64 = omega (arith, few.messages) in
      name_refers sizes (λ known. known.messages) (message_name n) (pos n) (name-is_name 109 n small) (λ known finds. finds.messages n there))
      (λ e. number_refers sizes (λ known. known.messages) (pos n))

  item_refers : (n : ℕ) → Refers sizes thing (pos n) (item_token sizes n)
  item_refers n =
      cond_both (ltb n sizes.items) (token.Word (item_name n)) (number_token n) (λ t. Refers sizes thing (pos n) t)
      (λ e. let there : n < sizes.items = ltb-true n sizes.items e in
      let small : n < 2 ^ 64 = omega (arith, few.items) in
      name_refers sizes thing (item_name n) (pos n) (name-is_name 105 n small)
      (λ known finds. ap (λ (o : Option ℤ). option_or o (known.rooms (item_name n))) (finds.items n there)))
      (λ e. number_refers sizes thing (pos n))

  -- a room among the things: no item has its name
  room_thing : (n : ℕ) → Refers sizes thing (pos n) (room_token sizes n)
  room_thing n =
      cond_both (leb 1 n && ltb n sizes.rooms) (token.Word (room_name n)) (number_token n) (λ t. Refers sizes thing (pos n) t)
      (λ e. let there : n < sizes.rooms = ltb-true n sizes.rooms (and_parts (leb 1 n) _ e).1 in
      let small : n < 2 ^ 64 = omega (arith, few.rooms) in
      name_refers sizes thing (room_name n) (pos n) (name-is_name 114 n small)
      (λ known finds. ap (λ (o : Option ℤ). option_or o (known.rooms (room_name n))) (finds.no_item n) ∙ finds.rooms n there))
      (λ e. number_refers sizes thing (pos n))

  pub thing_refers : (kind : Parameter) (n : ℕ) → Refers sizes thing (pos n) (thing_token sizes kind n)
  thing_refers Item n = item_refers n
  thing_refers Room n = room_thing n
  thing_refers Place n = room_thing n
  thing_refers Flag n = number_refers sizes thing (pos n)
  thing_refers Backup n = number_refers sizes thing (pos n)
  thing_refers Number n = number_refers sizes thing (pos n)

  -- ---- they can be written

  pub number_written : (n : ℕ) → n ≤ 2147483647 → is_written (number_token n) ≡ true
  number_written n small = and_from _ _ refl (grind (arith, ints))

  pub room_written : (n : ℕ) → n ≤ 2147483647 → is_written (room_token sizes n) ≡ true
  room_written n small =
      cond_both (leb 1 n && ltb n sizes.rooms) (token.Word (room_name n)) (number_token n) (λ t. is_written t ≡ true)
      (λ e. name-spelled 114 n refl (omega arith)) (λ e. number_written n small)

  pub exit_written : (z : ℤ) → is_number z ≡ true → is_written (exit_token sizes z) ≡ true
  exit_written (pos n) h = room_written n (number-most n h)
  exit_written (negsuc n) h = h

  pub message_written : (n : ℕ) → n ≤ 2147483647 → is_written (message_token sizes n) ≡ true
  message_written n small =
      cond_both (ltb n sizes.messages) (token.Word (message_name n)) (number_token n) (λ t. is_written t ≡ true)
      (λ e. name-spelled 109 n refl (omega arith)) (λ e. number_written n small)

  item_written : (n : ℕ) → n ≤ 2147483647 → is_written (item_token sizes n) ≡ true
  item_written n small =
      cond_both (ltb n sizes.items) (token.Word (item_name n)) (number_token n) (λ t. is_written t ≡ true)
      (λ e. name-spelled 105 n refl (omega arith)) (λ e. number_written n small)

  pub thing_written : (kind : Parameter) (n : ℕ) → n ≤ 2147483647 → is_written (thing_token sizes kind n) ≡ true
  thing_written Item n small = item_written n small
  thing_written Room n small = room_written n small
  thing_written Place n small = room_written n small
  thing_written Flag n small = number_written n small
  thing_written Backup n small = number_written n small
  thing_written Number n small = number_written n small
