-- The routines of items and places meet their specifications.
use Rattle.std.proofs.Common.{◌≡◌, arith, ℕ, suc, ◌<◌, pos, [], ◌∷◌, length, codes, subst}
use Rattle.std.proofs.lemmas.List.{length-map}
use Rattle.inform_meaning.specs.Worlds.{Program}
use Rattle.inform_logic.specs.Stages.{Stage, said}
use Rattle.inform_logic.specs.Leading.{Does}
use Rattle.scott_types.specs.declared.parts.Item.{Item}
use Rattle.scott_types.specs.declared.styles.Style.{Style}
use Rattle.scott_types.specs.Database.{Database, item_at}
use Rattle.scott_types.specs.Limits.{KeepsLimits}
use Rattle.scott_types.specs.ItemText.{shown}
use Rattle.trans_data.specs.Texts.{item_texts}
use Rattle.trans_data.specs.Laws.{HelpersMeetSpecs}
use Rattle.trans_data.proofs.Lists.{share_items}
use Rattle.trans_data.proofs.Rooms.{with_calls}
use Rattle.trans_data.proofs.Served.{HasAll, all_of_them}
use Rattle.trans_data.proofs.Places.{few_items, place_does, near_does, dark_does, carried_does, full_does}
use Rattle.trans_data.proofs.Spoken.{at_map, text_does}

many_texts : (db : Database) → length (item_texts db) ≡ length db.items
many_texts db = length-map db.items _

-- what is shown of an item is said
pub item_does : (style : Style) (db : Database) (p : Program) (d k : ℕ) (w : Stage) → KeepsLimits db
    → HasAll style db p → k < length db.items
    → Does p (suc d) (codes "say_item") (pos k ∷ []) w (pos 1)
    (said (shown (item_at db k).text) w) 2
item_does style db p d k w limits has few =
    subst (λ bytes. Does p (suc d) (codes "say_item") (pos k ∷ []) w (pos 1) (said bytes w) 2)
    (at_map (λ (item : Item). shown item.text) db.items k (record { text = []; place = 0 }) few)
    (text_does (codes "say_item") (item_texts db) d k w has.say_item
    (omega (arith, few, many_texts db))
    (omega (arith, few_items db limits, many_texts db)))

-- where a program serves them, the routines of items and places meet their specifications
pub helpers_meet_specs : HelpersMeetSpecs
helpers_meet_specs style width db p translates serves =
    let has = all_of_them style db width p serves in
    let limits = translates.limits in
    record {
      places = λ item s noun w d room stands. with_calls 1 d (omega (arith, room))
          (omega (arith, share_items db))
          (λ k. place_does style db limits p has s w stands.ready.shows stands.ready.fits k item);
      near_items = λ item s noun w d room stands. with_calls 2 d (omega (arith, room))
          (omega (arith, share_items db))
          (λ k. near_does style db limits p has s w stands.ready.shows stands.ready.fits k item);
      darkness = λ s noun w d room stands. with_calls 3 d (omega (arith, room))
          (omega (arith, share_items db))
          (dark_does style db limits p has s w stands.ready.shows stands.ready.fits);
      carried_items = λ s noun w d room stands. with_calls 2 d (omega (arith, room))
          (omega (arith, share_items db))
          (carried_does style db limits p has s w stands.ready.shows stands.ready.fits);
      full_hands = λ s noun w d room stands. with_calls 3 d (omega (arith, room))
          (omega (arith, share_items db))
          (full_does style db limits p has s w stands.ready.shows stands.ready.fits);
      item_texts = λ item few s noun w d room stands. record {
        value = pos 1;
        does = with_calls 1 d (omega (arith, room)) (omega (arith, share_items db))
            (λ k. item_does style db p k item w limits has few);
      };
    }
