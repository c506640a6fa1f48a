-- What a reader has read stays what it has read, piece by piece.
use Rattle.std.proofs.Common.{◌≡◌, ℕ, ◌+◌, ◌≤◌, Bool, inl, inr, List, [], ◌∷◌, ◌++◌, length, Option, Some, Result, Ok, Err, refl, sym, ap, subst, ◌∙◌, append_assoc, length-append, arith}
use Rattle.std.specs.Prelude.{IfOk, IfErr, MatchResult, OnOk}
use Rattle.std.specs.List.{list_all}
use Rattle.std.proofs.lemmas.Bool.{and_parts, and_from}
use Rattle.std.proofs.lemmas.List.{append-nil}
use Rattle.adv_text.specs.Reading.{Input, input, with_more}
use Rattle.adv_text.specs.Laws.{is_byte, AreBytes}
use Rattle.scott_types.specs.Database.{Database}
use Rattle.scott_types.specs.Limits.{KeepsLimits}
use Rattle.scott_format.specs.declared.faults.FormatFault.{FormatFault}
use Rattle.scott_format.specs.declared.faults.FormatFault.TheVariants as answer
use Rattle.scott_format.specs.declared.stops.Due.TheVariants.{Number}
use Rattle.scott_format.specs.declared.stops.Stop.{Stop}
use Rattle.scott_format.specs.declared.stops.Stop.TheVariants as stop
use Rattle.scott_format.specs.declared.bodies.Body.{Body}
use Rattle.scott_format.specs.declared.readers.DbReader.{DbReader}
use Rattle.scott_format.specs.declared.readers.TheConstants.{DATABASE_LIMIT}
use Rattle.scott_format.specs.Faults.{Fault}
use Rattle.scott_format.specs.Plan.{Plan, ◌>>=◌, run}
use Rattle.scott_format.specs.Reading.{Stands}
use Rattle.scott_format.specs.Sections.{head}
use Rattle.scott_format.specs.File.{file, IsReadFrom, value_of, database_in}
use Rattle.scott_format.specs.TextLaws.{TextLaws}
use Rattle.scott_format.specs.Pieces.{fault_at, IsFaultOf, IsDue, Moves, Advances}
use Rattle.scott_format.specs.Bodies.{AllInOrder, FileRead, body_from, file_from}
use Rattle.scott_format.specs.Readers.{HasRead, IsFailed, Reads, Keeps, bytes_fed}
use Rattle.scott_format.proofs.Answered.{fault_or_memory, stands_value, value_back, fault_back, parts_keep}
use Rattle.scott_format.proofs.Dues.{head_due}
use Rattle.scott_format.proofs.ListSteps.{stands_by, moves_then, stay}
use Rattle.scott_format.proofs.BodySteps.{due_first, body_of, file_head}

are_bytes : (a b : List ℕ) → AreBytes a → AreBytes b → AreBytes (a ++ b)
are_bytes [] b h k = k
are_bytes (c ∷ a) b h k =
    let parts = and_parts (is_byte c) (list_all is_byte a) h in and_from _ _ parts.0 (are_bytes a b parts.1 k)

-- ---- nothing was fed

file_due : IsDue Number file
file_due = subst (λ (p : Plan Database). IsDue Number p) file_head (due_first Number head body_of head_due)

-- a reader that was fed nothing yet has read nothing, and the whole file is to be read
pub nothing_read : (r : DbReader) → r.at ≡ 0 → r.kept.items ≡ [] → AllInOrder r.body → file_from r.body ≡ file → r.so_far ≡ Err (stop.Cut (answer.NoNumber 0)) → HasRead r []
nothing_read r at kept order body so_far = record {
  all = omega (arith, at, ap (λ (xs : List ℕ). length xs) kept);
  within = omega arith;
  bytes = refl;
  order = order;
  advances = advances;
  read = read;
}
  where
    here : Advances {T = Unit {0}} file (input 0 []) (Err (stop.Cut (answer.NoNumber 0))) file (input 0 [])
    here = (stay file (input 0 []) (input 0 []) refl, file_due 0)

    advances : Advances file (input 0 []) r.so_far (file_from r.body) (input r.at r.kept.items)
    advances =
        subst (λ (x : Result (Unit {0}) Stop). Advances file (input 0 []) x (file_from r.body) (input r.at r.kept.items)) (sym so_far)
        (subst (λ (p : Plan Database). Advances {T = Unit {0}} file (input 0 []) (Err (stop.Cut (answer.NoNumber 0))) p (input r.at r.kept.items)) (sym body)
        (subst (λ (t : Input). Advances {T = Unit {0}} file (input 0 []) (Err (stop.Cut (answer.NoNumber 0))) file t) (λ i. input (sym at i) (sym kept i)) here))

    read : OnOk r.so_far (FileRead r.body)
    read = subst (λ (x : Result (Unit {0}) Stop). OnOk x (FileRead r.body)) (sym so_far) tt

-- ---- a piece more

module _ (fed piece : List ℕ) where
  fed_more : (q : Plan Database) (at : ℕ) (kept : List ℕ) → Moves file (input 0 fed) q (input at kept) → Moves file (input 0 (fed ++ piece)) q (input at (kept ++ piece))
  fed_more q at kept h = record {
    ends = omega (arith, h.ends, length-append kept piece, length-append fed piece);
    reads = λ more.
        ap (λ (bytes : List ℕ). run file (input 0 bytes)) (append_assoc fed piece more)
        ∙ h.reads (piece ++ more) ∙ ap (λ (bytes : List ℕ). run q (input at bytes)) (sym (append_assoc kept piece more));
  }

  faulty_more : (fault : FormatFault) → ((more : List ℕ) → Stands fault (run file (with_more (input 0 fed) more))) → (more : List ℕ) → Stands fault (run file (with_more (input 0 (fed ++ piece)) more))
  faulty_more fault h more =
      subst (λ (bytes : List ℕ). Stands fault (run file (input 0 bytes))) (sym (append_assoc fed piece more)) (h (piece ++ more))

ok_moves : (p q : Plan Database) (s after : Input) (r : Result (Unit {0}) Stop) → r ≡ Ok tt → Advances p s r q after → Moves p s q after
ok_moves p q s after r e h = subst (λ (x : Result (Unit {0}) Stop). Advances p s x q after) e h

cut_moves : (p q : Plan Database) (s after : Input) (r : Result (Unit {0}) Stop) (fault : FormatFault) → r ≡ Err (stop.Cut fault) → Advances p s r q after → Moves p s q after
cut_moves p q s after r fault e h = (subst (λ (x : Result (Unit {0}) Stop). Advances p s x q after) e h).0

module _ (old new : DbReader) (fed piece : List ℕ) (has : HasRead old fed) (are : AreBytes piece) (room : bytes_fed old + length piece ≤ DATABASE_LIMIT) where
  -- where a list or the header was cut
  pub reads_more : (fault : FormatFault) → old.so_far ≡ Err (stop.Cut fault) → Reads old piece new → HasRead new (fed ++ piece)
  reads_more fault e h = record {
    all = omega (arith, h.all, has.all, length-append fed piece);
    within = omega (arith, has.all, room, length-append fed piece);
    bytes = are_bytes fed piece has.bytes are;
    order = h.order;
    advances = moves_then file (file_from old.body) (file_from new.body) (input 0 (fed ++ piece)) (input old.at (old.kept.items ++ piece)) (input new.at new.kept.items) new.so_far
        (fed_more fed piece (file_from old.body) old.at old.kept.items (cut_moves file (file_from old.body) (input 0 fed) (input old.at old.kept.items) old.so_far fault e has.advances))
        h.advances;
    read = h.read;
  }

  -- where a fault was found
  pub stops_more : (fault : FormatFault) → old.so_far ≡ Err (stop.Fault fault) → new.so_far ≡ Err (stop.Fault fault) → new.body ≡ old.body
      → bytes_fed new ≡ bytes_fed old + length piece → HasRead new (fed ++ piece)
  stops_more fault e f body size = record {
    all = omega (arith, size, has.all, length-append fed piece);
    within = omega (arith, has.all, room, length-append fed piece);
    bytes = are_bytes fed piece has.bytes are;
    order = subst AllInOrder (sym body) has.order;
    advances = subst (λ (x : Result (Unit {0}) Stop). Advances file (input 0 (fed ++ piece)) x (file_from new.body) (input new.at new.kept.items)) (sym f)
        (faulty_more fed piece fault (subst (λ (x : Result (Unit {0}) Stop). Advances file (input 0 fed) x (file_from old.body) (input old.at old.kept.items)) e has.advances));
    read = subst (λ (x : Result (Unit {0}) Stop). OnOk x (FileRead new.body)) (sym f) tt;
  }

  -- where all lists were read
  pub keeps_more : old.so_far ≡ Ok tt → Keeps old piece new → HasRead new (fed ++ piece)
  keeps_more e h = elim h.1 [
    | inl k ↦ record {
      all = omega (arith, k.0, ap (λ (xs : List ℕ). length xs) k.2, has.all, length-append fed piece, length-append old.kept.items piece);
      within = omega (arith, has.all, room, length-append fed piece);
      bytes = are_bytes fed piece has.bytes are;
      order = subst AllInOrder (sym h.0) has.order;
      advances = subst (λ (x : Result (Unit {0}) Stop). Advances file (input 0 (fed ++ piece)) x (file_from new.body) (input new.at new.kept.items)) (sym (k.1 ∙ e))
          (subst (λ (b : _). Moves file (input 0 (fed ++ piece)) (file_from b) (input new.at new.kept.items)) (sym h.0)
          (subst (λ (t : Input). Moves file (input 0 (fed ++ piece)) (file_from old.body) t) (λ i. input (sym k.0 i) (sym k.2 i))
          (fed_more fed piece (file_from old.body) old.at old.kept.items (ok_moves file (file_from old.body) (input 0 fed) (input old.at old.kept.items) old.so_far e has.advances))));
      read = subst (λ (x : Result (Unit {0}) Stop). OnOk x (FileRead new.body)) (sym k.1) (subst (λ (b : _). OnOk old.so_far (FileRead b)) (sym h.0) has.read);
    }
    | inr k ↦ record {
      all = omega (arith, k.1, has.all, length-append fed piece);
      within = omega (arith, has.all, room, length-append fed piece);
      bytes = are_bytes fed piece has.bytes are;
      order = subst AllInOrder (sym h.0) has.order;
      advances = subst (λ (x : Result (Unit {0}) Stop). Advances file (input 0 (fed ++ piece)) x (file_from new.body) (input new.at new.kept.items)) (sym k.0) (λ more. tt);
      read = subst (λ (x : Result (Unit {0}) Stop). OnOk x (FileRead new.body)) (sym k.0) tt;
    }
  ]

-- ---- the end

exact_stands : {A : Type 0} (fault : FormatFault) (r : Result A Fault) → IsFaultOf fault r → Stands fault r
exact_stands (answer.NoNumber at) r h = h
exact_stands (answer.BigNumber at) r h = h
exact_stands (answer.NoQuote at) r h = h
exact_stands (answer.OpenString at) r h = h
exact_stands (answer.LongString at) r h = h
exact_stands (answer.Limit field value) r h = h
exact_stands (answer.NoStart value) r h = h
exact_stands (answer.NegativeAction k) r h = h
exact_stands answer.Memory r h = tt

clash : (x : Result (Unit {0}) Stop) (why : Stop) → x ≡ Ok tt → x ≡ Err why → ⊥
clash x why e f = cc

pub not_failed : (r : DbReader) → r.so_far ≡ Ok tt → IsFailed r → ⊥
not_failed r e failed = clash r.so_far (stop.Fault answer.Memory) e failed

module _ (r : DbReader) (fed : List ℕ) (has : HasRead r fed) where
  at_end : Moves file (input 0 fed) (file_from r.body) (input r.at r.kept.items) → run file (input 0 fed) ≡ run (file_from r.body) (input r.at r.kept.items)
  at_end m =
      ap (λ (bytes : List ℕ). run file (input 0 bytes)) (sym (append-nil fed)) ∙ m.reads []
      ∙ ap (λ (bytes : List ℕ). run (file_from r.body) (input r.at bytes)) (append-nil r.kept.items)

  stop_stands : (why : Stop) → Advances {T = Unit {0}} file (input 0 fed) (Err why) (file_from r.body) (input r.at r.kept.items) → Stands (fault_at why) (run file (input 0 fed))
  stop_stands (stop.Cut fault) h = subst (λ (x : Result (Database × Input) Fault). Stands fault x) (sym (at_end h.0)) (exact_stands fault _ h.1)
  stop_stands (stop.Fault fault) h = subst (λ (bytes : List ℕ). Stands fault (run file (input 0 bytes))) (append-nil fed) (h [])

  -- the bytes end where reading had stopped
  pub stopped : (why : Stop) (fault : FormatFault) → r.so_far ≡ Err why → fault ≡ fault_at why → Stands fault (database_in fed)
  unfolding database_in
  stopped why fault e is =
      stands_value fault (run file (input 0 fed))
      (subst (λ (f : FormatFault). Stands f (run file (input 0 fed))) (sym is)
      (stop_stands why (subst (λ (x : Result (Unit {0}) Stop). Advances file (input 0 fed) x (file_from r.body) (input r.at r.kept.items)) e has.advances)))

  module _ (e : r.so_far ≡ Ok tt) (b : Body) (some : r.body ≡ Some b) (t : Input) (bytes : List ℕ) (is : t ≡ input r.at bytes) (kept : bytes ≡ r.kept.items) where
    whole : run file (input 0 fed) ≡ run (body_from b) t
    whole =
        at_end (ok_moves file (file_from r.body) (input 0 fed) (input r.at r.kept.items) r.so_far e has.advances)
        ∙ ap (λ (o : Option Body). run (file_from o) (input r.at r.kept.items)) some
        ∙ ap (λ (u : Input). run (body_from b) u) (sym (is ∙ ap (λ (bs : List ℕ). input r.at bs) kept))

    pub closed_limits : (laws : TextLaws) (db : Database) (after : Input) → run (body_from b) t ≡ Ok (db, after) → KeepsLimits db
    closed_limits laws db after h = parts_keep laws fed db after has.bytes (whole ∙ h)

    pub closed_value : (db given : Database) (after : Input) → run (body_from b) t ≡ Ok (db, after) → given ≡ db → database_in fed ≡ Ok given
    unfolding database_in
    closed_value db given after h same = ap value_of (whole ∙ h) ∙ ap (λ (d : Database). Ok d) (sym same)

    pub closed_fault : (fault : FormatFault) → Stands fault (run (body_from b) t) → Stands fault (database_in fed)
    unfolding database_in
    closed_fault fault h =
        stands_value fault (run file (input 0 fed)) (subst (λ (x : Result (Database × Input) Fault). Stands fault x) (sym whole) h)

-- ---- all bytes at once

module _ (bytes : List ℕ) where
  pub once_value : (r : Result Database FormatFault) → MatchResult r (λ db. database_in bytes ≡ Ok db) (λ fault. Stands fault (database_in bytes)) → IfOk r (λ db. IsReadFrom bytes db)
  unfolding database_in
  once_value (Ok db) h = value_back (run file (input 0 bytes)) db h
  once_value (Err fault) h = tt

  -- a fault that is given of all bytes at once is that of the file, unless memory ran out
  pub once_fault : (r : Result Database FormatFault) → MatchResult r (λ db. database_in bytes ≡ Ok db) (λ fault. Stands fault (database_in bytes))
      → IfErr r (λ fault. Stands fault (run file (input 0 bytes)))
  unfolding database_in
  once_fault (Ok db) h = tt
  once_fault (Err fault) h =
      elim (fault_or_memory fault (value_of (run file (input 0 bytes))) h) [
        | inl e ↦ subst (λ (f : FormatFault). Stands f (run file (input 0 bytes))) (sym e) tt
        | inr f ↦
            subst (λ (g : FormatFault). Stands g (run file (input 0 bytes))) (sym f.1)
            (stands_by f.0 (run file (input 0 bytes)) (fault_back (run file (input 0 bytes)) f.0 f.2))
      ]
