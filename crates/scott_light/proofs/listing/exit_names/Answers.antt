use Rattle.std.proofs.Common.{◌≡◌, ◌∙◌, ℕ, ◌+◌, ◌<◌, List, length, map, take, get_or, eqb, not, true, false, refl, sym, arith, ◌∷◌, [], ◌++◌, ℤ, pos}
use Rattle.std.specs.Prelude.{◌==◌}
use Rattle.std.proofs.lemmas.List.{map_push}
use Rattle.std.proofs.lemmas.Bool.Decides.{nat_tests}
use Rattle.std.specs.Borrow.{Bor}
use Rattle.scott_types.specs.declared.phrases.Phrase.{Phrase}
use Rattle.scott_types.specs.declared.phrases.Phrase.TheVariants.{North}
use Rattle.scott_types.specs.Database.{room_at}
use Rattle.scott_types.specs.Phrase.{text_of}
use Rattle.scott_types.specs.Room.{room_beyond, exit_of}
use Rattle.scott_rules.specs.Looking.{chosen, directions}
use Rattle.scott_light.proofs.Choosing.{chosen-kept, chosen-passed_over, chosen-whole}
use Rattle.scott_light.proofs.listing.exit_names.Goals as goal
use Rattle.scott_light.proofs.listing.exit_names.Goals.{then-exit-ne0, else-exit-ne0}

module _ (rooms : ℕ) (exits : List ℤ) (i : ℕ) (within : i < 6) (six : length exits ≡ 6) (there : ℕ) (is : there ≡ exit_of rooms exits i) where
  -- an exit that is there is named
  named : (names : List (Bor (List ℕ))) (text : Bor (List ℕ)) (d : Phrase) → (there ≡ 0 → ⊥) → text.now ≡ text_of (get_or directions i d)
      → map (λ t. t.now) names ≡ chosen (λ exit. not (room_beyond rooms exit == 0)) text_of (take i directions) (take i exits)
      → map (λ t. t.now) (names ++ text ∷ []) ≡ chosen (λ exit. not (room_beyond rooms exit == 0)) text_of (take (i + 1) directions) (take (i + 1) exits)
  named names text d leads said before =
      let passes : not (eqb (room_beyond rooms (get_or exits i (pos 0))) 0) ≡ true = rw (← is) (grind (arith, nat_tests)) in
      map_push (λ (t : Bor (List ℕ)). t.now) names text
      ∙ rw (before, said) (sym (chosen-kept (λ exit. not (room_beyond rooms exit == 0)) text_of directions exits i d (pos 0) within (omega arith) passes))

  -- one that isn't there isn't
  unnamed : (names : List (List ℕ)) (d : Phrase) → there ≡ 0
      → names ≡ chosen (λ exit. not (room_beyond rooms exit == 0)) text_of (take i directions) (take i exits)
      → names ≡ chosen (λ exit. not (room_beyond rooms exit == 0)) text_of (take (i + 1) directions) (take (i + 1) exits)
  unnamed names d closed before =
      let passes : not (eqb (room_beyond rooms (get_or exits i (pos 0))) 0) ≡ false = rw (← is, closed) refl in
      before ∙ sym (chosen-passed_over (λ exit. not (room_beyond rooms exit == 0)) text_of directions exits i d (pos 0) within (omega arith) passes)

pub loop-i-preserved : goal.loop-i-preserved
loop-i-preserved c =
    let rooms = length c.args.db.now.rooms in
    let exits = (room_at c.args.db.now c.args.room).exits in
    let before = c.loop-i.invariant.names in
    let h : c.loop-i.i < 6 = omega arith in
    elim c.if-exit-ne0.branch [
      | then-exit-ne0 w ↦ record {
        names = rw (w.names-is, w.push.ensures.items) (named rooms exits c.loop-i.i h c.exit.ensures.six c.exit.result c.exit.ensures.value c.loop-i.names.items w.text.result _ w.if-exit-ne0.true w.text.ensures before);
        few = rw w.names-is (omega (arith, w.push.ensures.len));
      }
      | else-exit-ne0 w ↦ record {
        names = rw w.names-is (unnamed rooms exits c.loop-i.i h c.exit.ensures.six c.exit.result c.exit.ensures.value _ North w.if-exit-ne0.false before);
        few = rw w.names-is (omega arith);
      }
    ]

pub returns : goal.returns
returns c =
    c.loop-i.invariant.names
    ∙ chosen-whole (λ exit. not (room_beyond (length c.args.db.now.rooms) exit == 0)) text_of directions (room_at c.args.db.now c.args.room).exits c.loop-i.i c.loop-i-test.false
