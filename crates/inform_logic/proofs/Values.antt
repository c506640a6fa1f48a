-- The rules of values: what they evaluate to.
use Rattle.std.proofs.Common.{◌≡◌, ◌∙◌, arith, ℕ, ◌+◌, ◌≤◌, ℤ, pos, int_lt, Bool, false, List, [], ◌∷◌, Some, None, refl, sym, ap, subst}
use Rattle.std.specs.Prelude.{unwrap_or}
use Rattle.inform_tree.specs.declared.values.SumOp.{SumOp}
use Rattle.inform_tree.specs.declared.values.ProdOp.{ProdOp}
use Rattle.inform_tree.specs.Values.{Expression, Number, Char, Name, Entry, Call, Random, Neg, Sum, Product, Arguments, NoArguments, MoreArguments, Terms, NoTerms, MoreTerms, Factors, NoFactors, MoreFactors}
use Rattle.inform_meaning.specs.declared.traps.Trap.TheVariants as t
use Rattle.inform_meaning.specs.Words.{number_word, word_negation, summed, multiplied, draw_within}
use Rattle.inform_meaning.specs.Tables.{found, first_of_two}
use Rattle.inform_meaning.specs.Worlds.{Program, Scope, entry_at, with_argument}
use Rattle.inform_meaning.specs.Frames.{Outcome, Value, when}
use Rattle.inform_meaning.specs.Parts.{trap, entry_by, draw_at, take_draw}
use Rattle.inform_meaning.specs.Meaning.{on_product, eval_product}
use Rattle.inform_meaning.specs.Runs.{call_at}
use Rattle.inform_logic.specs.Stages.{Stage, in_scope, draw_taken}
use Rattle.inform_logic.specs.Leading.{Takes, Leads, Part, TheValue, TheCall, TheSum, TheProduct, Evaluates, Calls, Sums, Multiplies, Does}
use Rattle.inform_logic.proofs.Opened.{opened}
use Rattle.inform_logic.proofs.Steps.{nothing_taken, value_then, finally, one_step, takes_within}

module _ {p : Program} {d : ℕ} where
  -- a part within a greater bound
  pub within : {part : Part} {s s' : Scope} {w w' : Stage} {e : Outcome} {n most : ℕ} → n ≤ most
      → Leads p d part s w e s' w' n → Leads p d part s w e s' w' most
  within enough x = record { takes = takes_within enough x.takes }

  -- a value by what it is equal to
  pub valued : {x : Expression} {s : Scope} {w w' : Stage} {a v : ℤ} {n : ℕ} → a ≡ v
      → Evaluates p d x s w a w' n → Evaluates p d x s w v w' n
  valued {x} {s} {w} {w'} {n = n} h y = subst (λ v. Evaluates p d x s w v w' n) h y

  -- a number is the word that it stands for: itself where it is less than 32,768
  pub number : {m : ℕ} {s : Scope} {w : Stage}
      → Evaluates p d (Number m) s w (number_word p.width m) w 0
  number = record { takes = nothing_taken (λ k. refl) }

  -- a character is its byte
  pub character : {byte : ℕ} {s : Scope} {w : Stage} → Evaluates p d (Char byte) s w (pos byte) w 0
  character = record { takes = nothing_taken (λ k. refl) }

  -- a name has what is found first
  name : {x : List ℕ} {s : Scope} {w : Stage} {v : ℤ}
      → first_of_two (found x s.locals) (first_of_two (w.globals x) (p.constants x)) ≡ Some v
      → Evaluates p d (Name x) s w v w 0
  name {s = s} {w} h =
      record {
        takes = nothing_taken (λ k.
            ap (λ o. (Value (unwrap_or o (pos 0)), in_scope k s w)) h);
      }

  -- a name is that of a local, or of a global, or of a constant
  pub local : {x : List ℕ} {s : Scope} {w : Stage} {v : ℤ} → found x s.locals ≡ Some v
      → Evaluates p d (Name x) s w v w 0
  local {x} {w = w} h =
      name (ap (λ o. first_of_two o (first_of_two (w.globals x) (p.constants x))) h)

  pub global : {x : List ℕ} {s : Scope} {w : Stage} {v : ℤ} → found x s.locals ≡ None
      → w.globals x ≡ Some v → Evaluates p d (Name x) s w v w 0
  global {x} {w = w} none h =
      name (ap (λ o. first_of_two o (first_of_two (w.globals x) (p.constants x))) none
      ∙ ap (λ o. first_of_two o (p.constants x)) h)

  pub constant : {x : List ℕ} {s : Scope} {w : Stage} {v : ℤ} → found x s.locals ≡ None
      → w.globals x ≡ None → p.constants x ≡ Some v → Evaluates p d (Name x) s w v w 0
  constant {x} {w = w} none no_global h =
      name (ap (λ o. first_of_two o (first_of_two (w.globals x) (p.constants x))) none
      ∙ ap (λ o. first_of_two o (p.constants x)) no_global ∙ h)

  -- an entry that is there has its value
  pub entry : {a : List ℕ} {words : Bool} {x : Expression} {s : Scope} {w w' : Stage} {i v : ℤ}
      {xs : List ℤ} {n : ℕ} → Evaluates p d x s w i w' n → w'.arrays a ≡ Some xs
      → entry_at xs i ≡ Some v → Evaluates p d (Entry a words x) s w v w' n
  unfolding opened
  entry {s = s} {w' = w'} {i = i} x there is = record {
    takes = finally _ (λ j h. tt) x.takes (λ k.
        ap (λ o. entry_by (entry_at (unwrap_or o []) i) (in_scope k s w')) there
        ∙ ap (λ o. entry_by o (in_scope k s w')) is);
  }

  -- a negated value
  pub negation : {x : Expression} {s : Scope} {w w' : Stage} {a v : ℤ} {n : ℕ}
      → Evaluates p d x s w a w' n → word_negation p.width a ≡ v → Evaluates p d (Neg x) s w v w' n
  unfolding opened
  negation {s = s} {w' = w'} x is =
      record {
        takes = finally _ (λ j h. tt) x.takes (λ k.
            ap (λ a. (Value a, in_scope k s w')) is);
      }

  -- ---- sums

  -- nothing more is added
  pub no_terms : {s : Scope} {w : Stage} {a : ℤ} → Sums p d a NoTerms s w a w 0
  no_terms = record { takes = nothing_taken (λ k. refl) }

  -- one term, and those to come
  pub more_terms : {op : SumOp} {x : Expression} {xs : Terms} {s s' : Scope} {w w1 w' : Stage}
      {a b c : ℤ} {e : Outcome} {n m : ℕ} → Evaluates p d x s w b w1 n → summed p.width op a b ≡ c
      → Leads p d (TheSum c xs) s w1 e s' w' m
      → Leads p d (TheSum a (MoreTerms op x xs)) s w e s' w' (n + m)
  unfolding opened
  more_terms {op} {x} {xs} {s} {s'} {w} {w1} {w'} {a} {b} {e = e} {m = m} y is rest =
      let rest' : Leads p d (TheSum (summed p.width op a b) xs) s w1 e s' w' m =
      subst (λ c. Leads p d (TheSum c xs) s w1 e s' w' m) (sym is) rest in
      record { takes = value_then _ y.takes rest'.takes }

  -- a sum of its first part and its terms
  pub sum : {x : Expression} {xs : Terms} {s s' : Scope} {w w1 w' : Stage} {a : ℤ} {e : Outcome}
      {n m : ℕ} → Evaluates p d x s w a w1 n → Leads p d (TheSum a xs) s w1 e s' w' m
      → Leads p d (TheValue (Sum x xs)) s w e s' w' (n + m)
  unfolding opened
  sum x xs = record { takes = value_then _ x.takes xs.takes }

  -- a sum or a difference of two
  pub sum_of_two : {op : SumOp} {x y : Expression} {s : Scope} {w w1 w' : Stage} {a b v : ℤ}
      {n m : ℕ} → Evaluates p d x s w a w1 n → Evaluates p d y s w1 b w' m
      → summed p.width op a b ≡ v → Evaluates p d (Sum x (MoreTerms op y NoTerms)) s w v w' (n + m)
  sum_of_two x y is = within (omega arith) (sum x (more_terms y is no_terms))

  -- ---- products

  -- nothing more is multiplied
  pub no_factors : {s : Scope} {w : Stage} {a : ℤ} → Multiplies p d a NoFactors s w a w 0
  no_factors = record { takes = nothing_taken (λ k. refl) }

  -- one factor that isn't a division by 0, and those to come
  pub more_factors : {op : ProdOp} {x : Expression} {xs : Factors} {s s' : Scope} {w w1 w' : Stage}
      {a b c : ℤ} {e : Outcome} {n m : ℕ} → Evaluates p d x s w b w1 n
      → multiplied p.width op a b ≡ Some c → Leads p d (TheProduct c xs) s w1 e s' w' m
      → Leads p d (TheProduct a (MoreFactors op x xs)) s w e s' w' (n + m)
  unfolding opened
  more_factors {xs = xs} {s} {s'} {w1 = w1} {w'} {e = e} {m = m} y is rest = record {
    takes = value_then _ y.takes (subst (λ o. Takes (on_product o (λ c.
        eval_product p (call_at p d) c xs)) s w1 e s' w' m) (sym is) rest.takes);
  }

  -- a product of its first part and its factors
  pub product : {x : Expression} {xs : Factors} {s s' : Scope} {w w1 w' : Stage} {a : ℤ}
      {e : Outcome} {n m : ℕ} → Evaluates p d x s w a w1 n
      → Leads p d (TheProduct a xs) s w1 e s' w' m
      → Leads p d (TheValue (Product x xs)) s w e s' w' (n + m)
  unfolding opened
  product x xs = record { takes = value_then _ x.takes xs.takes }

  -- a product, a quotient or a remainder of two
  pub product_of_two : {op : ProdOp} {x y : Expression} {s : Scope} {w w1 w' : Stage} {a b v : ℤ}
      {n m : ℕ} → Evaluates p d x s w a w1 n → Evaluates p d y s w1 b w' m
      → multiplied p.width op a b ≡ Some v
      → Evaluates p d (Product x (MoreFactors op y NoFactors)) s w v w' (n + m)
  product_of_two x y is = within (omega arith) (product x (more_factors y is no_factors))

  -- ---- calls and draws

  -- all arguments are known: a step, and the routine
  pub called : {f : List ℕ} {values : List ℤ} {s : Scope} {w w' : Stage} {v : ℤ} {n : ℕ}
      → Does p d f values w v w' n → Calls p d f values NoArguments s w v w' (n + 1)
  called {s = s} does = record { takes = one_step _ (does.takes s) }

  -- one argument, and those to come
  pub argument : {f : List ℕ} {values : List ℤ} {x : Expression} {xs : Arguments} {s s' : Scope}
      {w w1 w' : Stage} {a : ℤ} {e : Outcome} {n m : ℕ} → Evaluates p d x s w a w1 n
      → Leads p d (TheCall f (with_argument values a) xs) s w1 e s' w' m
      → Leads p d (TheCall f values (MoreArguments x xs)) s w e s' w' (n + m)
  unfolding opened
  argument x xs = record { takes = value_then _ x.takes xs.takes }

  -- a call is a value
  pub call : {f : List ℕ} {xs : Arguments} {s : Scope} {w w' : Stage} {v : ℤ} {n : ℕ}
      → Calls p d f [] xs s w v w' n → Evaluates p d (Call f xs) s w v w' n
  call xs = record { takes = xs.takes }

  -- a number of 1 to the limit, by the next draw
  pub random : {x : Expression} {s : Scope} {w w' : Stage} {limit : ℤ} {draw : ℕ} {draws : List ℕ}
      {n : ℕ} → Evaluates p d x s w limit w' n → int_lt limit (pos 1) ≡ false
      → w'.draws ≡ draw ∷ draws → Evaluates p d (Random x) s w (draw_within limit draw)
      (draw_taken draw draws w') n
  unfolding opened when
  random {s = s} {w' = w'} {limit = limit} x some there = record {
    takes = finally _ (λ j h. tt) x.takes (λ k.
        ap (λ b. when b (trap t.Random) (take_draw limit) (in_scope k s w')) some
        ∙ ap (λ draws. draw_at draws limit (in_scope k s w')) there);
  }
