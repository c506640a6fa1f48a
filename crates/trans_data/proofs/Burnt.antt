-- The routines of the light.
use Rattle.std.proofs.Common.{◌≡◌, arith, ℕ, suc, ◌<◌, ℤ, pos, int_lt, int_rem, Bool, true, false, if◌then◌else◌, List, [], ◌∷◌, ◌++◌, map, set, length, codes, Some, refl, sym, subst}
use Rattle.std.specs.Ordering.{int_eq}
use Rattle.std.specs.Fmt.{signed_decimal}
use Rattle.std.proofs.lemmas.List.{length-map, length-append}
use Rattle.inform_meaning.specs.Worlds.{Program}
use Rattle.inform_logic.specs.Stages.{Stage, with_array, said}
use Rattle.inform_logic.specs.Leading.{Does, by_return}
use Rattle.inform_logic.specs.Holding.{Has}
use Rattle.inform_logic.proofs.Lists.{is_there}
use Rattle.inform_logic.proofs.Words.{remainder_is}
use Rattle.inform_logic.proofs.Values.{number, global, product_of_two}
use Rattle.inform_logic.proofs.Conditions.{compare}
use Rattle.inform_logic.proofs.Changes.{set_entry}
use Rattle.inform_logic.proofs.Printing.{print_nothing, print_text, print_number, said_nothing}
use Rattle.inform_logic.proofs.Statements.{end, next, returns, assign, print, return_true, if_true, if_false}
use Rattle.inform_logic.proofs.Routines.{does_within, routine}
use Rattle.inform_codes.specs.Grown.{body_of}
use Rattle.scott_types.specs.declared.phrases.Phrase.TheVariants.{LightOut, LightDim, LightLasts, LightTurns}
use Rattle.scott_types.specs.declared.states.State.{State}
use Rattle.scott_types.specs.declared.styles.Style.{Style}
use Rattle.scott_types.specs.Database.{Database}
use Rattle.scott_types.specs.Phrase.{text_of}
use Rattle.scott_types.specs.State.{lamp, out_flag, with_flag, with_place}
use Rattle.scott_rules.specs.Light.{turns_text, dim_text, light_text}
use Rattle.trans_specs.specs.Tables.{bit}
use Rattle.trans_specs.specs.Views.{naturals, Shows}
use Rattle.trans_specs.proofs.Writes.{entries_written}
use Rattle.trans_data.specs.declared.names.TheConstants as n
use Rattle.trans_data.specs.declared.lights.TheConstants as l
use Rattle.trans_data.specs.Routines.{routine_names}
use Rattle.trans_data.proofs.Served.{HasAll, tree}
use Rattle.trans_data.proofs.Looks.{said_three}
use Rattle.trans_specs.proofs.Kept.{Kept, kept_then, kept_flag, kept_item}

module _ (style : Style) (db : Database) (p : Program) (has : HasAll style db p) where
  -- ---- what is said of the light

  -- where its turns are counted or not
  abbrev text_by : Bool → ℤ → List ℕ
  text_by counted z = if int_lt z (pos 1) then text_of LightOut else
      if int_lt z (pos 25) then (if counted then turns_text z else dim_text z) else []

  module _ (d : ℕ) (z : ℤ) (w : Stage) (there : w.globals (codes "light") ≡ Some z) where
    abbrev Says : Bool → Bool → Bool → Type 0
    Says counted out low = Does p (suc d) (codes "say_light") [] w (pos 1)
        (said (if out then text_of LightOut else
        if low then (if counted then turns_text z else dim_text z) else []) w) 6

    counted_says : Has p (tree style db n.SAY_LIGHT [] l.COUNTED_LIGHT) → (out low : Bool)
        → int_lt z (pos 1) ≡ out → int_lt z (pos 25) ≡ low → Says true out low
    unfolding body_of routine_names
    counted_says own true low h k = does_within (omega arith) (routine own (returns (if_true
        (compare (global refl there) number h)
        (next (print (print_text print_nothing)) (returns return_true)))) by_return)
    counted_says own false true h k = subst
        (λ w'. Does p (suc d) (codes "say_light") [] w (pos 1) w' 6)
        (said_three (text_of LightLasts) (signed_decimal z) (text_of LightTurns) w)
        (does_within (omega arith) (routine own
        (next (if_false (compare (global refl there) number h) end)
        (next (if_true (compare (global refl there) number k)
        (next (print (print_text print_nothing))
        (next (print (print_number (global refl there) print_nothing))
        (next (print (print_text print_nothing)) end)))) (returns return_true))) by_return))
    counted_says own false false h k = subst
        (λ w'. Does p (suc d) (codes "say_light") [] w (pos 1) w' 6)
        (sym (said_nothing w)) (does_within (omega arith) (routine own
        (next (if_false (compare (global refl there) number h) end)
        (next (if_false (compare (global refl there) number k) end) (returns return_true)))
        by_return))

    dim_says : Has p (tree style db n.SAY_LIGHT [] l.DIM_LIGHT) → (out low dim : Bool)
        → int_lt z (pos 1) ≡ out → int_lt z (pos 25) ≡ low
        → int_eq (int_rem z (pos 5)) (pos 0) ≡ dim
        → Does p (suc d) (codes "say_light") [] w (pos 1) (said (if out then text_of LightOut else
        if low then (if dim then text_of LightDim else []) else []) w) 6
    unfolding body_of routine_names
    dim_says own true low dim h k is = does_within (omega arith) (routine own (returns (if_true
        (compare (global refl there) number h)
        (next (print (print_text print_nothing)) (returns return_true)))) by_return)
    dim_says own false true true h k is = does_within (omega arith) (routine own
        (next (if_false (compare (global refl there) number h) end)
        (next (if_true (compare (global refl there) number k)
        (next (if_true (compare (product_of_two (global refl there) number
        (remainder_is p.width z (pos 5) refl)) number is)
        (next (print (print_text print_nothing)) end)) end)) (returns return_true))) by_return)
    dim_says own false true false h k is =
        subst (λ w'. Does p (suc d) (codes "say_light") [] w (pos 1) w' 6)
        (sym (said_nothing w)) (does_within (omega arith) (routine own
        (next (if_false (compare (global refl there) number h) end)
        (next (if_true (compare (global refl there) number k)
        (next (if_false (compare (product_of_two (global refl there) number
        (remainder_is p.width z (pos 5) refl)) number is) end) end)) (returns return_true)))
        by_return))
    dim_says own false false dim h k is =
        subst (λ w'. Does p (suc d) (codes "say_light") [] w (pos 1) w' 6)
        (sym (said_nothing w)) (does_within (omega arith) (routine own
        (next (if_false (compare (global refl there) number h) end)
        (next (if_false (compare (global refl there) number k) end) (returns return_true)))
        by_return))

    pub say_does : Does p (suc d) (codes "say_light") [] w (pos 1) (said (light_text style z) w) 6
    say_does = from style.counted refl where
      own : {b : Bool} → style.counted ≡ b
          → Has p (tree style db n.SAY_LIGHT [] (if b then l.COUNTED_LIGHT else l.DIM_LIGHT))
      own is = subst (λ (b : Bool). Has p (tree style db n.SAY_LIGHT []
          (if b then l.COUNTED_LIGHT else l.DIM_LIGHT))) is has.say_light

      from : (b : Bool) → style.counted ≡ b
          → Does p (suc d) (codes "say_light") [] w (pos 1) (said (text_by b z) w) 6
      from true is = counted_says (own is) (int_lt z (pos 1)) (int_lt z (pos 25)) refl refl
      from false is = dim_says (own is) (int_lt z (pos 1)) (int_lt z (pos 25))
          (int_eq (int_rem z (pos 5)) (pos 0)) refl refl refl

  -- ---- the light goes out

  abbrev pub out_stage : Bool → List ℤ → List ℤ → Stage → Stage
  out_stage vanish flags items w =
      let out = with_array (codes "flag") (set flags 16 (pos 1)) w in
      if vanish then with_array (codes "item") (set items 9 (pos 0)) out else out

  abbrev pub out_state : Bool → State → State
  out_state vanish s =
      let out = with_flag s out_flag true in if vanish then with_place out lamp 0 else out

  module _ (d : ℕ) (s : State) (w : Stage) (shows : Shows s w) (lit : lamp < length s.places.items)
      (many : length s.flags ≡ 32) where
    abbrev pub flags : List ℤ
    flags = naturals (map bit s.flags)

    abbrev pub items : List ℤ
    items = naturals s.places.items ++ shows.guard ∷ []

    flag_there : 16 < length flags
    flag_there = omega (arith, many, length-map (map bit s.flags) pos, length-map s.flags bit)

    lamp_there : 9 < length items
    lamp_there = omega (
      arith,
      lit,
      length-append (naturals s.places.items) (shows.guard ∷ []),
      length-map s.places.items pos,
    )

    pub out_does : Does p (suc d) (codes "light_out") [] w (pos 1)
        (out_stage style.vanish flags items w) 3
    unfolding body_of routine_names
    out_does = from style.vanish refl where
      own : {b : Bool} → style.vanish ≡ b
          → Has p (tree style db n.LIGHT_OUT [] (if b then l.VANISHED else l.OUT))
      own is = subst (λ (b : Bool). Has p (tree style db n.LIGHT_OUT []
          (if b then l.VANISHED else l.OUT))) is has.light_out

      from : (b : Bool) → style.vanish ≡ b
          → Does p (suc d) (codes "light_out") [] w (pos 1) (out_stage b flags items w) 3
      from true is = does_within (omega arith) (routine (own is)
          (next (assign (set_entry number number shows.flags_are (is_there flags 16 flag_there)))
          (next (assign (set_entry number number shows.places_are (is_there items 9 lamp_there)))
          (returns return_true))) by_return)
      from false is = does_within (omega arith) (routine (own is)
          (next (assign (set_entry number number shows.flags_are (is_there flags 16 flag_there)))
          (returns return_true)) by_return)

    pub out_shows : (b : Bool) → Shows (out_state b s) (out_stage b flags items w)
    out_shows true = entries_written.place (with_flag s out_flag true)
        (with_array (codes "flag") (set flags 16 (pos 1)) w) lamp 0 items
        (entries_written.flag s w out_flag true flags shows shows.flags_are) lit shows.places_are
    out_shows false = entries_written.flag s w out_flag true flags shows shows.flags_are

    pub out_kept : (b : Bool) → Kept w (out_stage b flags items w)
    out_kept true = kept_then (kept_flag (set flags 16 (pos 1)) w)
        (kept_item (set items 9 (pos 0)) (with_array (codes "flag") (set flags 16 (pos 1)) w))
    out_kept false = kept_flag (set flags 16 (pos 1)) w

    pub out_past : (b : Bool) → (out_stage b flags items w).past ≡ w.past
    out_past true = refl
    out_past false = refl
