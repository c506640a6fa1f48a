-- What is read by one call after another.
use Rattle.std.proofs.Common.{◌≡◌, ◌≤◌, Bool, true, false, length, Ok, Err, sym, ap, subst, ◌∙◌, arith}
use Rattle.std.specs.Prelude.{Result, OnOk}
use Rattle.std.specs.Result.{IsErrAnd}
use Rattle.std.proofs.lemmas.Result.{on_ok_weaker}
use Rattle.inform_lexemes.specs.Lexemes.{Lexeme}
use Rattle.inform_grammar.specs.Lexemes.{heads}
use Rattle.inform_grammar.specs.Plan.{Plan, done, refuse, next, shut, ◌>>=◌, take}
use Rattle.inform_grammar.specs.Reading.{Input, Answer}
use Rattle.inform_grammar.proofs.Binding.{and_then}
use Rattle.inform_parser.specs.declared.stops.Stop.{Stop}
use Rattle.inform_parser.specs.declared.stops.Stop.TheVariants as stop
use Rattle.inform_parser.specs.Reading.{read, StopsAt, Answered, Reads, ReadsSome, Passes, shut_spot}
use Rattle.inform_parser.specs.Nexts.{next_of}
use Rattle.inform_parser.proofs.Steps.{continued, read-done, read-then, read-shut, stops-then, next_yes, next_no, ends-done}

-- what holds in any case holds of a value
on_any : {T E P : Type 0} (r : Result T E) → P → OnOk r P
on_any (Ok x) p = p
on_any (Err e) p = tt

-- what is read first was read, and what is left is the rest
read_on : {V W : Type 0} (p : Plan V) (f : V → Plan W) (s mid : Input) (x : V) → read p s ≡ Ok (x, mid) → read (p >>= f) s ≡ read (f x) mid
read_on p f s mid x e = read-then f p s ∙ ap (λ (a : Answer _). and_then a (continued f)) e

answered : {U W : Type 0} (out : U → W) (r : Result U Stop) (after : Input) (a b : Answer W) → a ≡ b → Answered out r after b → Answered out r after a
answered out r after a b e h = subst (λ (a : Answer _). Answered out r after a) (sym e) h

module _ {U W : Type 0} {out : U → W} where
  pub only : {p : Plan W} {s after : Input} {r : Result U Stop} → ReadsSome out p s r after → Reads out p s r after
  only h = record { gives = h.gives; ahead = h.ahead }

  -- nothing more is read
  pub made : {s : Input} {x : U} (y : W) → out x ≡ y → Reads out (done y) s (Ok x) s
  made {s = s} y e = record { gives = read-done y s ∙ ap (λ (y : W). Ok (y, s)) (sym e); ahead = omega arith }

  -- the same plan by another name
  pub same : {p : Plan W} {s after : Input} {r : Result U Stop} (q : Plan W) → read q s ≡ read p s → Reads out p s r after → Reads out q s r after
  same {p = p} {s = s} {after = after} {r = r} q e h = record { gives = answered out r after (read q s) (read p s) e h.gives; ahead = h.ahead }

  pub same_some : {p : Plan W} {s after : Input} {r : Result U Stop} (q : Plan W) → read q s ≡ read p s → ReadsSome out p s r after → ReadsSome out q s r after
  same_some {p = p} {s = s} {after = after} {r = r} q e h =
      record { gives = answered out r after (read q s) (read p s) e h.gives; ahead = h.ahead; taken = h.taken }

  -- what is read from here on is all that is read
  pub resumed : {p q : Plan W} {s now after : Input} {r : Result U Stop} → read q now ≡ read p s → length now.rest ≤ length s.rest → Reads out q now r after
      → Reads out p s r after
  resumed {p = p} {q = q} {s = s} {now = now} {after = after} {r = r} e le h =
      record { gives = answered out r after (read p s) (read q now) (sym e) h.gives; ahead = omega (arith, h.ahead, le) }

  -- what is read is known
  pub known : {p : Plan W} {s : Input} {x : U} {y : W} → read p s ≡ Ok (y, s) → out x ≡ y → Reads out p s (Ok x) s
  known {s = s} h e = record { gives = h ∙ ap (λ (y : W). Ok (y, s)) (sym e); ahead = omega arith }

  -- nothing follows
  pub ended : {p : Plan W} {s after : Input} {r : Result U Stop} → Reads out p s r after → Reads out (p >>= done) s r after
  ended {p = p} {s = s} h = same (p >>= done) (read-then done p s ∙ ends-done (read p s)) h

  pub ended_some : {p : Plan W} {s after : Input} {r : Result U Stop} → ReadsSome out p s r after → ReadsSome out (p >>= done) s r after
  ended_some {p = p} {s = s} h = same_some (p >>= done) (read-then done p s ∙ ends-done (read p s)) h

  -- a statement that was open has ended
  pub shuts : {p : Plan W} {s mid after : Input} {r : Result U Stop} → mid ≡ shut_spot s → Reads out p mid r after → Reads out (shut p) s r after
  shuts {p = p} {s = s} {mid = mid} {after = after} {r = r} e h = record {
    gives = answered out r after (read (shut p) s) (read p mid) (read-shut p s ∙ ap (read p) (sym e)) h.gives;
    ahead = omega (arith, h.ahead, ap (λ (s : Input). length s.rest) e);
  }

  -- a lexeme ends what was made, whose tree is known
  pub told : {test : Lexeme → Bool} {s after : Input} {r : Result U Stop} {x y : W} → x ≡ y → Reads out (take test (done x)) s r after → Reads out (take test (done y)) s r after
  told {test = test} {s = s} {x = x} {y = y} e h = same (take test (done y)) (ap (λ (x : W). read (take test (done x)) s) (sym e)) h

  pub told_word : {test also : Lexeme → Bool} {s after : Input} {r : Result U Stop} {x y : W} → x ≡ y
      → ReadsSome out (take test (take also (done x))) s r after → ReadsSome out (take test (take also (done y))) s r after
  told_word {test = test} {also = also} {s = s} {x = x} {y = y} e h =
      same_some (take test (take also (done y))) (ap (λ (x : W). read (take test (take also (done x))) s) (sym e)) h

  -- memory runs out
  pub memory : (p : Plan W) (s after : Input) (r : Result U Stop) → IsErrAnd r (λ e. e ≡ stop.Memory) → length after.rest ≤ length s.rest → Reads out p s r after
  memory p s after (Ok x) e h = absurd e
  memory p s after (Err x) e h = record { gives = subst (λ (x : Stop). StopsAt after x (read p s)) (sym e) tt; ahead = h }

  module _ {T V : Type 0} {view : T → V} (f : V → Plan W) {p : Plan V} {s mid : Input} where
    -- a fault of what is read first
    pub stops : {e : Stop} (r : Result U Stop) → IsErrAnd r (λ d. d ≡ e) → Reads view p s (Err e) mid → Reads out (p >>= f) s r mid
    stops (Ok x) d h = absurd d
    stops {e = e} (Err x) d h = record {
      gives = subst (λ (x : Stop). StopsAt mid x (read (p >>= f) s)) (sym d)
          (subst (λ (a : Answer W). StopsAt mid e a) (sym (read-then f p s)) (stops-then mid e (continued f) (read p s) h.gives));
      ahead = h.ahead;
    }

    pub stops_some : {e : Stop} (r : Result U Stop) → IsErrAnd r (λ d. d ≡ e) → Reads view p s (Err e) mid → ReadsSome out (p >>= f) s r mid
    stops_some (Ok x) d h = absurd d
    stops_some {e = e} (Err x) d h = record {
      gives = subst (λ (x : Stop). StopsAt mid x (read (p >>= f) s)) (sym d)
          (subst (λ (a : Answer W). StopsAt mid e a) (sym (read-then f p s)) (stops-then mid e (continued f) (read p s) h.gives));
      ahead = h.ahead;
      taken = tt;
    }

    -- and then what is read after it
    pub follows : {x : T} {r : Result U Stop} {after : Input} → Reads view p s (Ok x) mid → Reads out (f (view x)) mid r after → Reads out (p >>= f) s r after
    follows {x = x} {r = r} {after = after} h g = record {
      gives = answered out r after (read (p >>= f) s) (read (f (view x)) mid) (read_on p f s mid (view x) h.gives) g.gives;
      ahead = omega (arith, h.ahead, g.ahead);
    }

    pub follows_some : {x : T} {r : Result U Stop} {after : Input} → ReadsSome view p s (Ok x) mid → Reads out (f (view x)) mid r after → ReadsSome out (p >>= f) s r after
    follows_some {x = x} {r = r} {after = after} h g = record {
      gives = answered out r after (read (p >>= f) s) (read (f (view x)) mid) (read_on p f s mid (view x) h.gives) g.gives;
      ahead = omega (arith, h.ahead, g.ahead);
      taken = on_any r (omega (arith, h.taken, g.ahead));
    }

    pub follows_later : {x : T} {r : Result U Stop} {after : Input} → Reads view p s (Ok x) mid → ReadsSome out (f (view x)) mid r after → ReadsSome out (p >>= f) s r after
    follows_later {x = x} {r = r} {after = after} h g = record {
      gives = answered out r after (read (p >>= f) s) (read (f (view x)) mid) (read_on p f s mid (view x) h.gives) g.gives;
      ahead = omega (arith, h.ahead, g.ahead);
      taken = on_ok_weaker r (λ e. omega (arith, e, h.ahead)) g.taken;
    }

  module _ (test : Lexeme → Bool) (k : Lexeme → Plan W) {q : Plan W} {s : Input} where
    -- what stands next passes the test, and is taken
    pub passed : {x : Lexeme} {mid after : Input} {r : Result U Stop} → heads test s.rest ≡ true → Passes test x s mid → Reads out (k x) mid r after
        → ReadsSome out (next test k q) s r after
    passed {x = x} {mid = mid} {after = after} {r = r} e h g = record {
      gives = answered out r after (read (next test k q) s) (read (k x) mid) (next_yes test k q s e ∙ read_on (next_of test) k s mid x h.gives) g.gives;
      ahead = omega (arith, h.taken, g.ahead);
      taken = on_any r (omega (arith, h.taken, g.ahead));
    }

    pub there : {after : Input} {r : Result U Stop} → heads test s.rest ≡ true → ReadsSome out (next test k refuse) s r after → ReadsSome out (next test k q) s r after
    there e h = same_some (next test k q) (next_yes test k q s e) h

    -- what stands next doesn't pass it
    pub other : {after : Input} {r : Result U Stop} → heads test s.rest ≡ false → Reads out q s r after → Reads out (next test k q) s r after
    other e h = same (next test k q) (next_no test k q s e) h

    pub other_some : {after : Input} {r : Result U Stop} → heads test s.rest ≡ false → ReadsSome out q s r after → ReadsSome out (next test k q) s r after
    other_some e h = same_some (next test k q) (next_no test k q s e) h
