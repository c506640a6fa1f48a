-- The rules of changes: what a variable or an entry is after them.
use Rattle.std.proofs.Common.{◌≡◌, ◌∙◌, ℕ, ◌+◌, ℤ, pos, negsuc, unsigned_abs, Bool, true, List, [], set, Option, Some, None, is_some, refl, ap}
use Rattle.std.specs.Prelude.{unwrap_or}
use Rattle.inform_tree.specs.Values.{Expression}
use Rattle.inform_tree.specs.Statements.{Set, SetEntry, Inc, Dec}
use Rattle.inform_meaning.specs.Words.{word_sum}
use Rattle.inform_meaning.specs.Tables.{found, put_by, first_of_two}
use Rattle.inform_meaning.specs.Worlds.{Program, Scope, assigned_by, assigned, entry_at, kept, stored}
use Rattle.inform_meaning.specs.Frames.{Normal}
use Rattle.inform_meaning.specs.Parts.{changes, counts, store_by, store}
use Rattle.inform_logic.specs.Stages.{Stage, world_in, in_scope, with_array, scope_after, stage_after}
use Rattle.inform_logic.specs.Leading.{Evaluates, Changes, ChangesIfAny}
use Rattle.inform_logic.proofs.Opened.{opened}
use Rattle.inform_logic.proofs.Steps.{nothing_taken, value_then, finally}

-- a variable that is there has the other value after it is assigned
assigned_is : (x : List ℕ) (v : ℤ) (s : Scope) (w : Stage)
    → is_some (first_of_two (found x s.locals) (w.globals x)) ≡ true → (k : ℕ)
    → changes (assigned x v) (in_scope k s w) ≡ (
      Normal,
      in_scope k
          (scope_after (found x s.locals) x v s) (stage_after (found x s.locals) x v w),
    )
assigned_is x v s w there k = by (found x s.locals) (w.globals x) refl there where
  by : (o g : Option ℤ) → w.globals x ≡ g → is_some (first_of_two o g) ≡ true
      → changes (assigned_by (is_some o) x v) (in_scope k s w)
      ≡ (Normal, in_scope k (scope_after o x v s) (stage_after o x v w))
  by (Some old) g is there = refl
  by None (Some old) is there =
      ap (λ g. changes (λ u. record u { globals = put_by g w.globals x v }) (in_scope k s w)) is
  by None None is there = cc

-- the change of a variable by 1 or -1, whose value was a
counted : (p : Program) (x : List ℕ) (s : Scope) (w : Stage) (a by v : ℤ)
    → first_of_two (found x s.locals) (w.globals x) ≡ Some a → word_sum p.width a by ≡ v
    → (k : ℕ) → counts p x by (in_scope k s w) ≡ (
      Normal,
      in_scope k
          (scope_after (found x s.locals) x v s) (stage_after (found x s.locals) x v w),
    )
counted p x s w a by v there is k =
    ap (λ u. changes (assigned x u) (in_scope k s w))
    (ap (λ u. word_sum p.width u by) (value (found x s.locals) (w.globals x) there) ∙ is)
    ∙ assigned_is x v s w (ap is_some there) k where
      value : (o g : Option ℤ) → first_of_two o g ≡ Some a
          → unwrap_or (first_of_two o (first_of_two g (p.constants x))) (pos 0) ≡ a
      value (Some b) g h = ap (λ o. unwrap_or o (pos 0)) h
      value None (Some b) h = ap (λ o. unwrap_or o (pos 0)) h
      value None None h = cc

module _ {p : Program} {d : ℕ} where
  -- a variable that is there gets the value
  pub set_variable : {x : List ℕ} {y : Expression} {s : Scope} {w w' : Stage} {v : ℤ} {n : ℕ}
      → Evaluates p d y s w v w' n
      → is_some (first_of_two (found x s.locals) (w'.globals x)) ≡ true
      → Changes p d (Set x y) s w (scope_after (found x s.locals) x v s)
      (stage_after (found x s.locals) x v w') n
  unfolding opened
  set_variable {x} {s = s} {w' = w'} {v = v} y there = record {
    takes = finally _ (λ j h. tt) y.takes (assigned_is x v s w' there);
  }

  -- a variable counts up
  pub increment : {x : List ℕ} {s : Scope} {w : Stage} {a v : ℤ}
      → first_of_two (found x s.locals) (w.globals x) ≡ Some a → word_sum p.width a (pos 1) ≡ v
      → Changes p d (Inc x) s w (scope_after (found x s.locals) x v s)
      (stage_after (found x s.locals) x v w) 0
  increment {x} {s} {w} {a} {v} there is =
      record { takes = nothing_taken (counted p x s w a (pos 1) v there is) }

  -- a variable counts down
  pub decrement : {x : List ℕ} {s : Scope} {w : Stage} {a v : ℤ}
      → first_of_two (found x s.locals) (w.globals x) ≡ Some a
      → word_sum p.width a (negsuc 0) ≡ v
      → Changes p d (Dec x) s w (scope_after (found x s.locals) x v s)
      (stage_after (found x s.locals) x v w) 0
  decrement {x} {s} {w} {a} {v} there is =
      record { takes = nothing_taken (counted p x s w a (negsuc 0) v there is) }

  -- an entry keeps the value, or its low 8 bits in an array of bytes
  pub set_entry : {a : List ℕ} {words : Bool} {x y : Expression} {s : Scope} {w w1 w' : Stage}
      {i v : ℤ} {xs : List ℤ} {n m : ℕ} → Evaluates p d x s w i w1 n → Evaluates p d y s w1 v w' m
      → w'.arrays a ≡ Some xs → is_some (entry_at xs i) ≡ true
      → Changes p d (SetEntry a words x y) s w s
      (with_array a (set xs (unsigned_abs i) (kept words v)) w') (n + m)
  unfolding opened
  set_entry {a} {words} {s = s} {w' = w'} {i} {v} {xs} x y there is = record {
    takes = value_then _ x.takes (finally _ (λ j h. tt) y.takes (λ k. written k));
  } where
    written : (k : ℕ) → store a words i v (in_scope k s w')
        ≡ (Normal, in_scope k s (with_array a (set xs (unsigned_abs i) (kept words v)) w'))
    written k =
        ap (λ o. store_by (entry_at (unwrap_or o []) i) (stored a words i v) (in_scope k s w'))
        there
        ∙ go (entry_at xs i) is where
          go : (o : Option ℤ) → is_some o ≡ true
              → store_by o (stored a words i v) (in_scope k s w')
              ≡ (Normal, in_scope k s (with_array a (set xs (unsigned_abs i) (kept words v)) w'))
          go (Some old) h = ap (λ o. (
            Normal,
            record (in_scope k s w') {
              world = record (world_in s w') {
                arrays = put_by o w'.arrays a
                    (set (unwrap_or o []) (unsigned_abs i) (kept words v));
              };
            },
          )) there
          go None h = cc

  -- no change
  pub no_change : {s : Scope} {w : Stage} → ChangesIfAny p d None s w s w 0
  no_change = record { takes = nothing_taken (λ k. refl) }
