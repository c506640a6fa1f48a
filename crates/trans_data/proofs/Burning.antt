-- A turn of the light.
use Rattle.std.proofs.Common.{◌≡◌, ◌∙◌, arith, ℕ, suc, ◌<◌, ℤ, pos, negsuc, ◌-ℤ◌, int_lt, ◌==◌, ◌&&◌, not, Bool, true, false, if◌then◌else◌, List, [], ◌∷◌, length, codes, refl, sym, subst, append-nil}
use Rattle.std.specs.Ordering.{int_eq}
use Rattle.adv_io.specs.Steps.{Traced, said_steps, traced}
use Rattle.inform_tree.specs.declared.conditions.Relation.TheVariants.{Lt, Eq}
use Rattle.inform_tree.specs.Values as v
use Rattle.inform_tree.specs.Conditions as c
use Rattle.inform_tree.specs.Statements as t
use Rattle.inform_meaning.specs.Worlds.{Program, Scope}
use Rattle.inform_meaning.specs.Frames.{Normal}
use Rattle.inform_logic.specs.Stages.{Stage, with_global, said}
use Rattle.inform_logic.specs.Leading.{Tests, Executes, by_return}
use Rattle.inform_logic.proofs.Words.{negative_word, negation_is, eq_is}
use Rattle.inform_logic.proofs.Values.{within, number, global, negation, argument, called, call}
use Rattle.inform_logic.proofs.Conditions.{compare, nonzero, any_of, this_holds, this_fails, none_holds}
use Rattle.inform_logic.proofs.Changes.{decrement}
use Rattle.inform_logic.proofs.Printing.{said_nothing}
use Rattle.inform_logic.proofs.Statements.{end, next, returns, assign, call_alone, return_true, if_true, if_false}
use Rattle.inform_logic.proofs.Routines.{does_within, routine}
use Rattle.inform_codes.specs.Grown.{body_of}
use Rattle.scott_types.specs.declared.states.State.{State}
use Rattle.scott_types.specs.declared.styles.Style.{Style}
use Rattle.scott_types.specs.Database.{Database}
use Rattle.scott_types.specs.Limits.{KeepsLimits}
use Rattle.scott_types.specs.State.{place_of, is_near, lamp, Fits}
use Rattle.scott_rules.specs.Light.{light_text, said_near, put_out, light_seen, light_counted}
use Rattle.scott_rules.proofs.FittingStates.{Fits-light}
use Rattle.scott_rules.proofs.Fitting.{Fits-light_counted}
use Rattle.trans_specs.specs.Wide.{is_word_of}
use Rattle.trans_specs.specs.Views.{Shows}
use Rattle.trans_specs.specs.Standing.{StandsFor}
use Rattle.trans_specs.specs.Calls.{StageLeft, CallLeaves}
use Rattle.trans_data.proofs.Burnt.{say_does, out_stage, flags, items, out_does, out_shows, out_kept, out_past}
use Rattle.trans_specs.proofs.Writes.{globals_written}
use Rattle.trans_data.specs.Routines.{routine_names}
use Rattle.trans_data.proofs.Lists.{bit_nonzero}
use Rattle.trans_data.proofs.Served.{HasAll}
use Rattle.trans_data.proofs.Places.{place_does, near_does}
use Rattle.trans_specs.proofs.Kept.{Kept, kept_then, kept_said, kept_light}
use Rattle.trans_data.proofs.LightWords.{light_less, range_less, is_item}

module _ (style : Style) (db : Database) (limits : KeepsLimits db) (p : Program)
    (word : is_word_of p.width db.header.light ≡ true) (has : HasAll style db p) (s : State)
    (noun : List ℕ) (w : Stage) (stands : StandsFor db s noun w) where
  -- the light has fallen
  abbrev fallen : ℤ
  fallen = s.light -ℤ pos 1

  abbrev s1 : State
  s1 = record s { light = s.light -ℤ pos 1 }

  abbrev w1 : Stage
  w1 = with_global (codes "light") fallen w

  shows1 : Shows s1 w1
  shows1 = globals_written.light_left fallen s w stands.ready.shows

  -- and its text is said
  abbrev text : List ℕ
  text = said_near s1 (light_text style fallen)

  abbrev w2 : Stage
  w2 = said text w1

  -- the stage after the text shows the state in which the light has fallen
  shows2 : Shows s1 w2
  shows2 = record {
    room_is = shows1.room_is;
    saved_is = shows1.saved_is;
    counter_is = shows1.counter_is;
    light_is = shows1.light_is;
    mark_is = shows1.mark_is;
    guard = shows1.guard;
    places_are = shows1.places_are;
    flags_are = shows1.flags_are;
    counters_are = shows1.counters_are;
    rooms_are = shows1.rooms_are;
  }

  kept2 : Kept w w2
  kept2 = kept_then (kept_light fallen w) (kept_said text w1)

  module _ (burns : int_eq s.light (negsuc 0) ≡ false) (lit : lamp < length s.places.items) where
    fits1 : Fits db s1
    fits1 = Fits-light db limits s fallen (range_less s.light db.header.light
        stands.ready.fits.light.0 stands.ready.fits.light.1 burns) stands.ready.fits

    many : length s1.flags ≡ 32
    many = fits1.flags

    -- where it is out, it goes out
    abbrev w3 : Bool → Stage
    w3 out = if out then out_stage style db p has style.vanish
        (flags style db p has 0 s1 w2 shows2 lit many)
        (items style db p has 0 s1 w2 shows2 lit many) w2 else w2

    module _ (d r : ℕ) where
      abbrev scope : Scope
      scope = record { directive = r; locals = [] }

      -- `if (near(9)) say_light();`
      abbrev near_lamp : c.Condition
      near_lamp = c.Nonzero (v.Call (codes "near") (v.arguments (v.Number 9 ∷ [])))

      abbrev lamp_seen : t.Statement
      lamp_seen = t.If near_lamp (t.statements (t.Call (codes "say_light") v.NoArguments ∷ []))
          t.NoStatements

      lamp_says : Executes p (suc (suc d)) lamp_seen scope w1 Normal scope w2 18
      lamp_says = from (is_near s1 lamp) refl where
        near : {b : Bool} → is_near s1 lamp ≡ b → Tests p (suc (suc d)) near_lamp scope w1 b w1 9
        near is = nonzero (call (argument number
            (called (near_does style db limits p has s1 w1 shows1 fits1 d 9))))
            (bit_nonzero (is_near s1 lamp) ∙ is)

        from : (b : Bool) → is_near s1 lamp ≡ b → Executes p (suc (suc d)) lamp_seen scope w1 Normal
            scope (said (if b then light_text style fallen else []) w1) 18
        from true is = within (omega arith) (if_true (near is)
            (next (call_alone (called (say_does style db p has (suc d) fallen w1 refl))) end))
        from false is = subst (λ w'. Executes p (suc (suc d)) lamp_seen scope w1 Normal scope w' 18)
            (sym (said_nothing w1)) (within (omega arith) (if_false (near is) end))

      -- `if (light < 1) light_out();`
      abbrev light_spent : t.Statement
      light_spent = t.If (c.Compare Lt (v.Name (codes "light")) (v.Number 1))
          (t.statements (t.Call (codes "light_out") v.NoArguments ∷ [])) t.NoStatements

      light_goes : (out : Bool) → int_lt fallen (pos 1) ≡ out
          → Executes p (suc (suc d)) light_spent scope w2 Normal scope (w3 out) 7
      light_goes true is = within (omega arith) (if_true (compare (global refl refl) number is)
          (next (call_alone (called (out_does style db p has (suc d) s1 w2 shows2 lit many))) end))
      light_goes false is =
          within (omega arith) (if_false (compare (global refl refl) number is) end)

    -- what is left
    leaves_by : (out : Bool) → Fits db (if out then put_out style s1 else s1)
        → StageLeft db (if out then put_out style s1 else s1) noun (said_steps text) w (w3 out)
    leaves_by true fits = record {
      stands = record {
        ready = record {
          shows = out_shows style db p has 0 s1 w2 shows2 lit many style.vanish;
          fits = fits;
          tables = all.tables db stands.ready.tables;
          working = all.working stands.ready.working;
        };
        has_noun = all.noun noun stands.has_noun;
      };
      past_is = out_past style db p has 0 s1 w2 shows2 lit many style.vanish;
      lines_stay = all.lines_stay;
      draws_stay = all.draws_stay;
      globals_stay = all.globals_stay;
      arrays_stay = all.arrays_stay;
    } where
      all : Kept w (w3 true)
      all = kept_then kept2 (out_kept style db p has 0 s1 w2 shows2 lit many style.vanish)
    leaves_by false fits = record {
      stands = record {
        ready = record {
          shows = shows2;
          fits = fits;
          tables = kept2.tables db stands.ready.tables;
          working = kept2.working stands.ready.working;
        };
        has_noun = kept2.noun noun stands.has_noun;
      };
      past_is = refl;
      lines_stay = kept2.lines_stay;
      draws_stay = kept2.draws_stay;
      globals_stay = kept2.globals_stay;
      arrays_stay = kept2.arrays_stay;
    }

  -- a light that doesn't burn leaves all as it was
  nothing_left : StageLeft db s noun [] w w
  nothing_left = record {
    stands = stands;
    past_is = sym (append-nil w.past);
    lines_stay = refl;
    draws_stay = refl;
    globals_stay = λ name other. refl;
    arrays_stay = λ name other. refl;
  }

  module _ (d : ℕ) where
    abbrev Burns : Traced ℕ State → Type 0
    Burns t = CallLeaves p (suc (suc (suc d))) (codes "burn") [] w (pos 1) db t.value noun
        (said_steps t.events) 40

    pub burn_does : Burns (light_counted style s)
    unfolding body_of routine_names
    burn_does = from (place_of s lamp == 0) (int_eq s.light (negsuc 0)) refl refl
        (Fits-light_counted db limits style s stands.ready.fits) where
          scope : Scope
          scope = record { directive = has.burn.at; locals = [] }

          gone : {b : Bool} → (place_of s lamp == 0) ≡ b
              → Tests p (suc (suc d)) (c.Compare Eq (v.Call (codes "place")
              (v.arguments (v.Number 9 ∷ []))) (v.Number 0))
              (record { directive = has.burn.at; locals = [] }) w b w 4
          gone is = compare (call (argument number (called
              (place_does style db limits p has s w stands.ready.shows stands.ready.fits
              (suc d) 9))))
              number (eq_is (place_of s lamp) 0 ∙ is)

          spent : {b : Bool} → int_eq s.light (negsuc 0) ≡ b
              → Tests p (suc (suc d)) (c.Compare Eq (v.Name (codes "light")) (v.Neg (v.Number 1)))
              (record { directive = has.burn.at; locals = [] }) w b w 0
          spent is = compare (global refl stands.ready.shows.light_is)
              (negation number (negation_is p.width (pos 1) (negative_word (omega arith)))) is

          from : (a b : Bool) → (place_of s lamp == 0) ≡ a → int_eq s.light (negsuc 0) ≡ b
              → Fits db (if not a && not b then light_seen style s1 else traced [] s).value
              → Burns (if not a && not b then light_seen style s1 else traced [] s)
          from true b h k fits = record {
            after = w;
            does = does_within (omega arith) (routine has.burn (returns (if_true
                (any_of (this_holds (gone h))) (returns return_true))) by_return);
            leaves = nothing_left;
          }
          from false true h k fits = record {
            after = w;
            does = does_within (omega arith) (routine has.burn (returns (if_true
                (any_of (this_fails (gone h) (this_holds (spent k)))) (returns return_true)))
                by_return);
            leaves = nothing_left;
          }
          from false false h k fits = record {
            after = w3 k (is_item s.places.items lamp h) (int_lt fallen (pos 1));
            does = does_within (omega arith) (routine has.burn
                (next (if_false (any_of (this_fails (gone h) (this_fails (spent k) none_holds)))
                end)
                (next (assign (decrement stands.ready.shows.light_is
                (light_less p.width s.light db.header.light stands.ready.fits.light.0
                stands.ready.fits.light.1 k word)))
                (next (lamp_says k (is_item s.places.items lamp h) d has.burn.at)
                (next (light_goes k (is_item s.places.items lamp h) d has.burn.at
                (int_lt fallen (pos 1)) refl) (returns return_true))))) by_return);
            leaves = leaves_by k (is_item s.places.items lamp h) (int_lt fallen (pos 1)) fits;
          }
