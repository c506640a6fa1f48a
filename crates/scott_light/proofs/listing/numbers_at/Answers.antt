use Rattle.std.proofs.Common.{◌≡◌, ◌∙◌, ℕ, ◌+◌, ◌<◌, List, eqb, eq-eqb, length, take, get_or, sym, arith, ◌∷◌, [], ◌++◌}
use Rattle.scott_types.specs.Database.{item_in}
use Rattle.std.proofs.lemmas.List.{map_push}
use Rattle.std.proofs.lemmas.List.Elements.{All-push}
use Rattle.std.proofs.lemmas.Bool.Decides.{nat_tests}
use Rattle.scott_types.specs.declared.parts.Item.{Item}
use Rattle.scott_types.specs.ItemText.{shown}
use Rattle.scott_rules.specs.Looking.{items_at_place}
use Rattle.scott_light.specs.ItemTexts.{shown_at, texts_of}
use Rattle.scott_light.proofs.Choosing.{chosen-kept, chosen-passed_over}
use Rattle.scott_light.proofs.listing.numbers_at.Goals as goal
use Rattle.scott_light.proofs.listing.numbers_at.Goals.{then-places-i, else-places-i}

module _ (items : List Item) (places numbers : List ℕ) (place i : ℕ) (h : i < length items) (k : i < length places) (before : texts_of items numbers ≡ items_at_place (take i items) (take i places) place) where
  -- an item at the place is listed
  listed : get_or places i 0 ≡ place → texts_of items (numbers ++ i ∷ []) ≡ items_at_place (take (i + 1) items) (take (i + 1) places) place
  listed at =
      map_push (shown_at items) numbers i
      ∙ rw before (sym (chosen-kept (λ at. eqb at place) (λ (item : Item). shown item.text) items places i (item_in [] 0) 0 h k (eq-eqb (get_or places i 0) place at)))

  -- an item elsewhere isn't
  passed_over : (get_or places i 0 ≡ place → ⊥) → texts_of items numbers ≡ items_at_place (take (i + 1) items) (take (i + 1) places) place
  passed_over at =
      before ∙ sym (chosen-passed_over (λ at. eqb at place) (λ (item : Item). shown item.text) items places i (item_in [] 0) 0 h k (grind (arith, nat_tests)))

pub loop-i-preserved : goal.loop-i-preserved
loop-i-preserved c =
    let places = c.args.places.now in
    let i = c.loop-i.i in
    let k : i < length places = omega arith in
    let numbers = c.loop-i.numbers.items in
    elim c.if-places-i.branch [
      | then-places-i w ↦ record {
        texts = λ items same. rw (w.numbers-is, w.push.ensures.items) (listed items places numbers c.args.place i (omega arith) k (c.loop-i.invariant.texts items same) w.if-places-i.true);
        there = rw (w.numbers-is, w.push.ensures.items) (All-push (λ number. number < length places) numbers i c.loop-i.invariant.there k);
        few = rw w.numbers-is (omega (arith, w.push.ensures.len));
      }
      | else-places-i w ↦ record {
        texts = λ items same. rw w.numbers-is (passed_over items places numbers c.args.place i (omega arith) k (c.loop-i.invariant.texts items same) w.if-places-i.false);
        there = rw w.numbers-is c.loop-i.invariant.there;
        few = rw w.numbers-is (omega arith);
      }
    ]
