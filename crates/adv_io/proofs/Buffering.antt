-- How bytes that are buffered, and said one after the other, add up.
use Rattle.std.proofs.Common.{◌≡◌, ◌∙◌, ℕ, ◌≤◌, ◌<◌, suc, ◌+◌, List, [], ◌++◌, take, drop, length, get_or, flat_map, Result, Ok, Err, IsErr, sym, ap, subst, arith, append_assoc, add-one}
use Rattle.std.proofs.lemmas.List.{append-nil, take_all}
use Rattle.adv_io.specs.History.{says, grown, GrewByPrefix}
use Rattle.adv_io.specs.Console.{ConsoleView, Speaks, Buffers}
use Rattle.adv_io.proofs.Histories.{says-append}
use Rattle.adv_io.proofs.Sayings.{cause_again, cause_then, cause_fails, grown_on, part_on, part_of_more, flat_map-split, flat_map-next}

-- what succeeds succeeds with anything
buffers-again : {T U E : Type 0} {old new : ConsoleView} {x : T} (y : U) {before after added : List ℕ} → Buffers {E = E} old new (Ok x) before after added → Buffers {E = E} old new (Ok y) before after added
buffers-again y g = record { said = g.said; part = tt; lines_stay = g.lines_stay; bounded = g.bounded; cause = cause_again y g.cause }

-- what failed had more to add
pub buffers-fail : {T U D E : Type 0} {old new : ConsoleView} {d : D} (e : E) (before mid after a b : List ℕ) → Buffers {T = T} old new (Err d) before mid a → Buffers {T = U} old new (Err e) before after (a ++ b)
buffers-fail {old = old} {new = new} e before mid after a b g = record {
  said = tt;
  part =
      subst (λ bytes. GrewByPrefix old.history new.history bytes)
      (sym (says-append (before ++ a) b) ∙ ap says (append_assoc before a b))
      (part_of_more old.history new.history (says (before ++ a)) (says b) g.part);
  lines_stay = g.lines_stay;
  bounded = g.bounded;
  cause = cause_fails e g.cause;
}

-- the same at the exit of a call that passes the failure on
pub buffers-exit : {T U D E : Type 0} {old new : ConsoleView} {d : D} {r : Result U E} (before mid after a b : List ℕ) → IsErr r → Buffers {T = T} old new (Err d) before mid a → Buffers old new r before after (a ++ b)
buffers-exit {r = Ok x} before mid after a b failed g = absurd cc
buffers-exit {r = Err e} before mid after a b failed g = buffers-fail e before mid after a b g

-- more bytes were buffered after
pub buffers-kept : {T U E : Type 0} {old new : ConsoleView} {x : T} (y : U) (before mid added : List ℕ) → Buffers {E = E} old new (Ok x) before mid [] → Buffers {E = E} old new (Ok y) before (mid ++ added) added
buffers-kept y before mid added g = record {
  said = (
    g.said.0,
    g.said.1,
    sym (append_assoc g.said.0 mid added) ∙ ap (λ bytes. bytes ++ added) (g.said.2 ∙ append-nil before),
  );
  part = tt;
  lines_stay = g.lines_stay;
  bounded = g.bounded;
  cause = cause_again y g.cause;
}

-- or were said after all that was buffered
pub buffers-direct : {S T D E : Type 0} {old mid new : ConsoleView} {x : S} {r : Result T E} (before buffered added : List ℕ) → buffered ≡ [] → Buffers {E = D} old mid (Ok x) before buffered [] → Speaks mid new r (says added)
    → Buffers old new r before [] added
buffers-direct {old = old} {mid = mid} {new = new} {r = Ok y} before buffered added empty g s =
    let all : g.said.0 ≡ before = sym (append-nil g.said.0) ∙ ap (λ bytes. g.said.0 ++ bytes) (sym empty) ∙ g.said.2 ∙ append-nil before in
    record {
      said = (
        before ++ added,
        grown_on old.history mid.history new.history (says before) (says added) (g.said.1 ∙ ap (λ bytes. grown old.history (says bytes)) all) s.said ∙ ap (grown old.history) (sym (says-append before added)),
        append-nil (before ++ added),
      );
      part = tt;
      lines_stay = s.lines_stay ∙ g.lines_stay;
      bounded = omega (arith, g.bounded, s.bounded);
      cause = cause_then g.cause s.cause;
    }
buffers-direct {old = old} {mid = mid} {new = new} {r = Err e} before buffered added empty g s =
    let all : g.said.0 ≡ before = sym (append-nil g.said.0) ∙ ap (λ bytes. g.said.0 ++ bytes) (sym empty) ∙ g.said.2 ∙ append-nil before in
    record {
      said = tt;
      part = rw (says-append before added) (part_on old.history mid.history new.history (says before) (says added) (g.said.1 ∙ ap (λ bytes. grown old.history (says bytes)) all) s.part);
      lines_stay = s.lines_stay ∙ g.lines_stay;
      bounded = omega (arith, g.bounded, s.bounded);
      cause = cause_then g.cause s.cause;
    }

-- more was added after
pub buffers-then : {S T D E : Type 0} {old mid new : ConsoleView} {x : S} {r : Result T E} (before buffered after a b : List ℕ) → Buffers {E = D} old mid (Ok x) before buffered a → Buffers mid new r buffered after b
    → Buffers old new r before after (a ++ b)
buffers-then {old = old} {mid = mid} {new = new} {r = Ok y} before buffered after a b g h =
    let first = g.said.0 in
    let then = h.said.0 in
    record {
      said = (
        first ++ then,
        grown_on old.history mid.history new.history (says first) (says then) g.said.1 h.said.1 ∙ ap (grown old.history) (sym (says-append first then)),
        append_assoc first then after ∙ ap (λ bytes. first ++ bytes) h.said.2 ∙ sym (append_assoc first buffered b) ∙ ap (λ bytes. bytes ++ b) g.said.2 ∙ append_assoc before a b,
      );
      part = tt;
      lines_stay = h.lines_stay ∙ g.lines_stay;
      bounded = omega (arith, g.bounded, h.bounded);
      cause = cause_then g.cause h.cause;
    }
buffers-then {old = old} {mid = mid} {new = new} {r = Err e} before buffered after a b g h =
    let first = g.said.0 in
    let all : says first ++ says (buffered ++ b) ≡ says (before ++ (a ++ b)) =
    sym (says-append first (buffered ++ b)) ∙ ap says (sym (append_assoc first buffered b) ∙ ap (λ bytes. bytes ++ b) g.said.2 ∙ append_assoc before a b) in
    record {
      said = tt;
      part = subst (λ bytes. GrewByPrefix old.history new.history bytes) all (part_on old.history mid.history new.history (says first) (says (buffered ++ b)) g.said.1 h.part);
      lines_stay = h.lines_stay ∙ g.lines_stay;
      bounded = omega (arith, g.bounded, h.bounded);
      cause = cause_then g.cause h.cause;
    }

-- in the end all that was buffered is said
pub buffers-end : {S T D E : Type 0} {old mid new : ConsoleView} {x : S} {r : Result T E} (buffered all : List ℕ) → Buffers {E = D} old mid (Ok x) [] buffered all → Speaks mid new r (says buffered)
    → Speaks old new r (says all)
buffers-end {old = old} {mid = mid} {new = new} {r = Ok y} buffered all g s = record {
  said = grown_on old.history mid.history new.history (says g.said.0) (says buffered) g.said.1 s.said ∙ ap (grown old.history) (sym (says-append g.said.0 buffered) ∙ ap says g.said.2);
  part = tt;
  lines_stay = s.lines_stay ∙ g.lines_stay;
  bounded = omega (arith, g.bounded, s.bounded);
  cause = cause_then g.cause s.cause;
}
buffers-end {old = old} {mid = mid} {new = new} {r = Err e} buffered all g s = record {
  said = tt;
  part = subst (λ bytes. GrewByPrefix old.history new.history bytes) (sym (says-append g.said.0 buffered) ∙ ap says g.said.2) (part_on old.history mid.history new.history (says g.said.0) (says buffered) g.said.1 s.part);
  lines_stay = s.lines_stay ∙ g.lines_stay;
  bounded = omega (arith, g.bounded, s.bounded);
  cause = cause_then g.cause s.cause;
}

-- a failure on the way said a part of all
pub buffers-stopped : {T E : Type 0} {old new : ConsoleView} {r : Result T E} (after all : List ℕ) → IsErr r → Buffers old new r [] after all → Speaks old new r (says all)
buffers-stopped {r = Ok x} after all failed g = absurd cc
buffers-stopped {r = Err e} after all failed g = record { said = tt; part = g.part; lines_stay = g.lines_stay; bounded = g.bounded; cause = g.cause }

-- ---- a list of things that have a text, buffered one by one

module _ {X : Type 0} (text : X → List ℕ) where
  -- one more text
  pub buffers-next : {S T U D E : Type 0} {old mid new : ConsoleView} {x : S} {y : T} (z : U) (xs : List X) (i : ℕ) (d : X) (before buffered after : List ℕ) → i < length xs
      → Buffers {E = D} old mid (Ok x) before buffered (flat_map text (take i xs)) → Buffers {E = E} mid new (Ok y) buffered after (text (get_or xs i d))
      → Buffers {E = E} old new (Ok z) before after (flat_map text (take (i + 1) xs))
  buffers-next z xs i d before buffered after within g h =
      rw (add-one, flat_map-next text xs i d within)
      (buffers-again z (buffers-then before buffered after (flat_map text (take i xs)) (text (get_or xs i d)) g h))

  -- a text that fails
  pub buffers-break : {S T U D E F : Type 0} {old mid new : ConsoleView} {x : S} {e : E} {r : Result U F} (xs : List X) (i : ℕ) (d : X) (before buffered after last : List ℕ) → i < length xs → IsErr r
      → Buffers {E = D} old mid (Ok x) before buffered (flat_map text (take i xs)) → Buffers {T = T} mid new (Err e) buffered after (text (get_or xs i d))
      → Buffers old new r before last (flat_map text xs)
  buffers-break {r = Ok z} xs i d before buffered after last within failed g h = absurd cc
  buffers-break {r = Err e} xs i d before buffered after last within failed g h =
      let here = text (get_or xs i d) in
      let prefix = flat_map text (take i xs) in
      let rest = flat_map text (drop (suc i) xs) in
      rw (flat_map-split text xs i d within, ← append_assoc prefix here rest)
      (buffers-fail e before after last (prefix ++ here) rest (buffers-then before buffered after prefix here g h))

  -- all texts
  pub buffers-whole : {T E : Type 0} {old new : ConsoleView} {r : Result T E} (xs : List X) (i : ℕ) (before after : List ℕ) → length xs ≤ i
      → Buffers old new r before after (flat_map text (take i xs))
      → Buffers old new r before after (flat_map text xs)
  buffers-whole xs i before after whole g = rw (take_all i xs whole) at g
