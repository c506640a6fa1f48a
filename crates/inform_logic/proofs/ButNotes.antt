-- Runs that differ in what they note alone: their parts do the same, but for what is noted.
use Rattle.std.proofs.Common.{◌≡◌, ◌∙◌, ℕ, zero, suc, ℤ, pos, Bool, true, false, List, [], ◌∷◌, ◌++◌, Option, Some, None, refl, sym, ap, subst}
use Rattle.std.specs.Prelude.{int_lt}
use Rattle.std.proofs.lemmas.List.Elements.{filter_map-append}
use Rattle.adv_io.specs.Steps.{Step, Took, Drew, said_steps, event_of, trace_of}
use Rattle.inform_meaning.specs.declared.traps.Trap.{Trap}
use Rattle.inform_meaning.specs.declared.traps.Trap.TheVariants as t
use Rattle.inform_meaning.specs.Worlds.{Scope, World, Config, entries_of, entry_at, stored, has_room, with_said}
use Rattle.inform_meaning.specs.Frames.{Frame, Outcome, Value, Truth, Normal, Returns, Breaks, Continues, Halts, Waits, Meaning, bind, when, on_normal, on_value, on_truth, on_body, on_return, on_main}
use Rattle.inform_meaning.specs.Parts.{tick_at, tick, trap, take_draw, take_line, draw_at, random_to, line_at, read_line, changes, entry_by, fetch, store_by, store, saying}

-- ---- the same but for what is noted

-- a configuration with another past
abbrev pub with_happened : List Step → Config → Config
with_happened past c = record c { past = past }

-- two parts came to the same, but for what was noted
pub record AlikeButNotes (r r' : Outcome × Config) : Type 0 where
  pub past : List Step
  pub same : trace_of past ≡ trace_of r.1.past
  pub is : r' ≡ (r.0, with_happened past r.1)

-- two meanings do the same from configurations that are the same but for what was noted
pub record Alike (m m' : Meaning) : Type 0 where
  pub by : (c : Config) (past : List Step) → trace_of past ≡ trace_of c.past
      → AlikeButNotes (m c) (m' (with_happened past c))

-- nothing happens
pub stays : {e : Outcome} → Alike (λ c. (e, c)) (λ c. (e, c))
stays = record { by = λ c past same. record { past = past; same = same; is = refl } }

-- what happens after two pasts with one trace
pub same_after : (xs ys zs : List Step) → trace_of xs ≡ trace_of ys
    → trace_of (xs ++ zs) ≡ trace_of (ys ++ zs)
same_after xs ys zs h = filter_map-append event_of xs zs ∙ ap (λ es. es ++ trace_of zs) h
    ∙ sym (filter_map-append event_of ys zs)

pub bind-alike : {m m' : Meaning} {k k' : Outcome → Meaning} → Alike m m'
    → ((e : Outcome) → Alike (k e) (k' e)) → Alike (bind m k) (bind m' k')
unfolding bind
bind-alike {m} {m'} {k} {k'} h hk = record {
  by = λ c past same. let first = h.by c past same in
      subst (λ r. AlikeButNotes (k (m c).0 (m c).1) (k' r.0 r.1)) (sym first.is)
      ((hk (m c).0).by (m c).1 first.past first.same);
}

pub when-alike : (b : Bool) {m m' n n' : Meaning} → Alike m m' → Alike n n'
    → Alike (when b m n) (when b m' n')
unfolding when
when-alike true h k = h
when-alike false h k = k

-- ---- what frames do

module _ (f : Frame) where
  -- a frame that goes on after a normal outcome does the same but for notes, if what follows does
  pub on_normal-alike : {m m' : Meaning} → Alike m m' → (e : Outcome)
      → Alike (on_normal f m e) (on_normal f m' e)
  unfolding on_normal
  on_normal-alike h Normal = h
  on_normal-alike h (Value v) = stays
  on_normal-alike h (Truth b) = stays
  on_normal-alike h (Returns v) = stays
  on_normal-alike h Breaks = stays
  on_normal-alike h Continues = stays
  on_normal-alike h (Halts halt) = stays
  on_normal-alike h (Waits lack fs) = stays

  -- a frame that goes on with a value does the same but for notes, if what follows does
  pub on_value-alike : {k k' : ℤ → Meaning} → ((v : ℤ) → Alike (k v) (k' v)) → (e : Outcome)
      → Alike (on_value f k e) (on_value f k' e)
  unfolding on_value
  on_value-alike h (Value v) = h v
  on_value-alike h (Truth b) = stays
  on_value-alike h Normal = stays
  on_value-alike h (Returns v) = stays
  on_value-alike h Breaks = stays
  on_value-alike h Continues = stays
  on_value-alike h (Halts halt) = stays
  on_value-alike h (Waits lack fs) = stays

  -- a frame that goes on with a truth value does the same but for notes, if what follows does
  pub on_truth-alike : {k k' : Bool → Meaning} → ((b : Bool) → Alike (k b) (k' b)) → (e : Outcome)
      → Alike (on_truth f k e) (on_truth f k' e)
  unfolding on_truth
  on_truth-alike h (Truth b) = h b
  on_truth-alike h (Value v) = stays
  on_truth-alike h Normal = stays
  on_truth-alike h (Returns v) = stays
  on_truth-alike h Breaks = stays
  on_truth-alike h Continues = stays
  on_truth-alike h (Halts halt) = stays
  on_truth-alike h (Waits lack fs) = stays

  -- a frame that goes on after the body of a loop does the same but for notes, if what follows does
  pub on_body-alike : {m m' : Meaning} → Alike m m' → (e : Outcome)
      → Alike (on_body f m e) (on_body f m' e)
  unfolding on_body
  on_body-alike h Normal = h
  on_body-alike h Continues = h
  on_body-alike h (Value v) = stays
  on_body-alike h (Truth b) = stays
  on_body-alike h (Returns v) = stays
  on_body-alike h Breaks = stays
  on_body-alike h (Halts halt) = stays
  on_body-alike h (Waits lack fs) = stays

pub on_return-alike : (s : Scope) (e : Outcome) → Alike (on_return s e) (on_return s e)
unfolding on_return
on_return-alike s Normal = record { by = λ c past same. record { past = past; same = same; is = refl } }
on_return-alike s (Value v) = record { by = λ c past same. record { past = past; same = same; is = refl } }
on_return-alike s (Truth b) = record { by = λ c past same. record { past = past; same = same; is = refl } }
on_return-alike s (Returns v) = record { by = λ c past same. record { past = past; same = same; is = refl } }
on_return-alike s Breaks = record { by = λ c past same. record { past = past; same = same; is = refl } }
on_return-alike s Continues = record { by = λ c past same. record { past = past; same = same; is = refl } }
on_return-alike s (Halts halt) = record { by = λ c past same. record { past = past; same = same; is = refl } }
on_return-alike s (Waits lack fs) = record { by = λ c past same. record { past = past; same = same; is = refl } }

pub on_main-alike : (e : Outcome) → Alike (on_main e) (on_main e)
unfolding on_main
on_main-alike Normal = stays
on_main-alike (Value v) = stays
on_main-alike (Truth b) = stays
on_main-alike (Returns v) = stays
on_main-alike Breaks = stays
on_main-alike Continues = stays
on_main-alike (Halts halt) = stays
on_main-alike (Waits lack fs) = stays

-- ---- the smallest parts

pub tick-alike : (f : Frame) {m m' : Meaning} → Alike m m' → Alike (tick f m) (tick f m')
unfolding tick
tick-alike f {m} {m'} h = record { by = λ c. at c.steps c } where
  at : (n : ℕ) (c : Config) (past : List Step) → trace_of past ≡ trace_of c.past
      → AlikeButNotes (tick_at n f m c) (tick_at n f m' (with_happened past c))
  at zero c past same = record { past = past; same = same; is = refl }
  at (suc n) c past same = h.by (record c { steps = n }) past same

pub trap-alike : (kind : Trap) → Alike (trap kind) (trap kind)
trap-alike kind = record { by = λ c past same. record { past = past; same = same; is = refl } }

draw_at-alike : (draws : List ℕ) (n : ℤ) → Alike (draw_at draws n) (draw_at draws n)
draw_at-alike [] n = record { by = λ c past same. record { past = past; same = same; is = refl } }
draw_at-alike (draw ∷ draws) n = record {
  by = λ c past same. record {
    past = past ++ Drew draw ∷ [];
    same = same_after past c.past (Drew draw ∷ []) same;
    is = refl;
  };
}

pub take_draw-alike : (n : ℤ) → Alike (take_draw n) (take_draw n)
take_draw-alike n = record { by = λ c. (draw_at-alike c.draws n).by c }

pub random_to-alike : (n : ℤ) → Alike (random_to n) (random_to n)
random_to-alike n =
    when-alike (int_lt n (pos 1)) (trap-alike t.Random) (take_draw-alike n)

line_at-alike : (lines : List (List ℕ)) (name : List ℕ)
    → Alike (line_at lines name) (line_at lines name)
line_at-alike [] name = record { by = λ c past same. record { past = past; same = same; is = refl } }
line_at-alike (line ∷ lines) name = record {
  by = λ c past same. record {
    past = past ++ Took line ∷ [];
    same = same_after past c.past (Took line ∷ []) same;
    is = refl;
  };
}

pub take_line-alike : (name : List ℕ) → Alike (take_line name) (take_line name)
take_line-alike name = record { by = λ c. (line_at-alike c.lines name).by c }

pub read_line-alike : (name : List ℕ) → Alike (read_line name) (read_line name)
read_line-alike name = record {
  by = λ c. (when-alike (has_room (entries_of name c.world)) (take_line-alike name)
      (trap-alike t.Line)).by c;
}

pub changes-alike : (f : World → World) → Alike (changes f) (changes f)
changes-alike f = record { by = λ c past same. record { past = past; same = same; is = refl } }

entry_by-alike : (o : Option ℤ) → Alike (entry_by o) (entry_by o)
entry_by-alike None = record { by = λ c past same. record { past = past; same = same; is = refl } }
entry_by-alike (Some v) = record { by = λ c past same. record { past = past; same = same; is = refl } }

pub fetch-alike : (name : List ℕ) (index : ℤ) → Alike (fetch name index) (fetch name index)
fetch-alike name index =
    record { by = λ c. (entry_by-alike (entry_at (entries_of name c.world) index)).by c }

store_by-alike : (o : Option ℤ) (f : World → World) → Alike (store_by o f) (store_by o f)
store_by-alike None f = record { by = λ c past same. record { past = past; same = same; is = refl } }
store_by-alike (Some v) f = record { by = λ c past same. record { past = past; same = same; is = refl } }

pub store-alike : (name : List ℕ) (words : Bool) (index v : ℤ)
    → Alike (store name words index v) (store name words index v)
store-alike name words index v = record {
  by = λ c. (store_by-alike (entry_at (entries_of name c.world) index)
      (stored name words index v)).by c;
}

pub saying-alike : (bytes : List ℕ) {m m' : Meaning} → Alike m m'
    → Alike (saying bytes m) (saying bytes m')
unfolding saying
saying-alike bytes h = record {
  by = λ c past same. h.by (with_said bytes c) (past ++ said_steps bytes)
      (same_after past c.past (said_steps bytes) same);
}
