-- The routines of texts and of the light meet their specifications.
use Rattle.std.proofs.Common.{◌≡◌, arith, pos, true, subst, sym}
use Rattle.trans_specs.specs.Wide.{is_word_of}
use Rattle.trans_data.specs.Laws.{DataMeetsSpecs}
use Rattle.trans_data.proofs.Lists.{share_items}
use Rattle.trans_data.proofs.Rooms.{with_calls, leaves_with_calls}
use Rattle.trans_data.proofs.Served.{all_of_them}
use Rattle.trans_data.proofs.Spoken.{message_does}
use Rattle.trans_data.proofs.Looks.{look_does, inventory_does}
use Rattle.trans_data.proofs.Rated.{score_does}
use Rattle.trans_data.proofs.LightWords.{light_word}
use Rattle.trans_data.proofs.Burning.{burn_does}

-- where a program serves them, the routines of texts and of the light meet their specifications
pub data_meets_specs : DataMeetsSpecs
data_meets_specs style width db p translates serves =
    let has = all_of_them style db width p serves in
    let limits = translates.limits in
    let word : is_word_of p.width db.header.light ≡ true =
    subst (λ width. is_word_of width db.header.light ≡ true) (sym serves.width_is)
    (light_word width db translates.none_wide) in
    record {
      messages = λ m less own s noun w d room stands. record {
        value = pos 1;
        does = with_calls 1 d (omega (arith, room)) (omega (arith, share_items db))
            (λ k. message_does db p k m w serves.notes_lines has.messages less);
      };
      looks = λ s noun w d room stands. record {
        value = pos 1;
        does = with_calls 4 d (omega (arith, room)) (omega (arith, share_items db))
            (λ k. look_does style db limits p has s stands.ready.fits k w stands.ready.shows
            stands.ready.tables);
      };
      carries = λ s noun w d room stands. record {
        value = pos 1;
        does = with_calls 3 d (omega (arith, room)) (omega (arith, share_items db))
            (λ k. inventory_does style db limits p has s stands.ready.fits k w
            stands.ready.shows);
      };
      scores = λ s noun w d room stands. with_calls 2 d (omega (arith, room))
          (omega (arith, share_items db))
          (score_does style db limits p has s w stands.ready.shows stands.ready.fits
          stands.ready.tables);
      burns = λ s noun w d room stands. record {
        value = pos 1;
        gives = leaves_with_calls 3 d (omega (arith, room)) (omega (arith, share_items db))
            (burn_does style db limits p word has s noun w stands);
      };
    }
