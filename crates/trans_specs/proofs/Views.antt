-- A state is known from what a stage shows of it.
use Rattle.std.proofs.Common.{◌≡◌, ◌∙◌, ℕ, ℤ, pos, nat_eq, unsigned_abs, Bool, true, false, List, [], ◌∷◌, ◌++◌, map, Option, unwrap_or, refl, sym, ap}
use Rattle.scott_types.specs.declared.states.State.{State}
use Rattle.inform_logic.specs.Stages.{Stage}
use Rattle.trans_specs.specs.Tables.{bit}
use Rattle.trans_specs.specs.Views.{naturals, Shows}
use Rattle.trans_specs.specs.Laws.{OneStateAStage}

-- ---- numbers, truth values and lists of them, from what is shown

abbrev number : Option ℤ → ℕ
number o = unsigned_abs (unwrap_or o (pos 0))

abbrev truth : ℕ → Bool
truth n = nat_eq n 1

truth_of_bit : (b : Bool) → truth (bit b) ≡ b
truth_of_bit true = refl
truth_of_bit false = refl

back : (xs : List ℕ) → map unsigned_abs (naturals xs) ≡ xs
back [] = refl
back (x ∷ xs) = ap (◌∷◌ x) (back xs)

truths_back : (bs : List Bool) → map (λ z. truth (unsigned_abs z)) (naturals (map bit bs)) ≡ bs
truths_back [] = refl
truths_back (b ∷ bs) = ap (λ c. c ∷ map (λ z. truth (unsigned_abs z)) (naturals (map bit bs)))
    (truth_of_bit b) ∙ ap (◌∷◌ b) (truths_back bs)

-- all numbers but the last
abbrev unguarded : List ℤ → List ℕ
unguarded [] = []
unguarded (z ∷ []) = []
unguarded (z ∷ y ∷ zs) = unsigned_abs z ∷ unguarded (y ∷ zs)

without_guard : (xs : List ℕ) (guard : ℤ) → unguarded (naturals xs ++ guard ∷ []) ≡ xs
without_guard [] guard = refl
without_guard (x ∷ []) guard = refl
without_guard (x ∷ y ∷ xs) guard = ap (◌∷◌ x) (without_guard (y ∷ xs) guard)

-- ---- two states that a stage shows

-- two states that one stage shows are the same
one_state : (s t : State) (w : Stage) → Shows s w → Shows t w → s ≡ t
one_state s t w h k = λ i. record {
  room = room i;
  saved = saved i;
  rooms = rooms i;
  counter = counter i;
  counters = counters i;
  flags = flags i;
  light = light i;
  places = record { items = places i };
  redraw = redraw i;
} where
  room : s.room ≡ t.room
  room = ap number (sym h.room_is ∙ k.room_is)

  saved : s.saved ≡ t.saved
  saved = ap number (sym h.saved_is ∙ k.saved_is)

  rooms : s.rooms ≡ t.rooms
  rooms = sym (back s.rooms)
      ∙ ap (λ o. map unsigned_abs (unwrap_or o [])) (sym h.rooms_are ∙ k.rooms_are)
      ∙ back t.rooms

  counter : s.counter ≡ t.counter
  counter = ap (λ o. unwrap_or o (pos 0)) (sym h.counter_is ∙ k.counter_is)

  counters : s.counters ≡ t.counters
  counters = ap (λ o. unwrap_or o []) (sym h.counters_are ∙ k.counters_are)

  flags : s.flags ≡ t.flags
  flags = sym (truths_back s.flags)
      ∙ ap (λ o. map (λ z. truth (unsigned_abs z)) (unwrap_or o []))
      (sym h.flags_are ∙ k.flags_are)
      ∙ truths_back t.flags

  light : s.light ≡ t.light
  light = ap (λ o. unwrap_or o (pos 0)) (sym h.light_is ∙ k.light_is)

  places : s.places.items ≡ t.places.items
  places = sym (without_guard s.places.items h.guard)
      ∙ ap (λ o. unguarded (unwrap_or o [])) (sym h.places_are ∙ k.places_are)
      ∙ without_guard t.places.items k.guard

  redraw : s.redraw ≡ t.redraw
  redraw = sym (truth_of_bit s.redraw)
      ∙ ap (λ o. truth (number o)) (sym h.mark_is ∙ k.mark_is)
      ∙ truth_of_bit t.redraw

pub one_state_a_stage : OneStateAStage
one_state_a_stage = one_state
