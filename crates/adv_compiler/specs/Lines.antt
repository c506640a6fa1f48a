-- What the lines mean.
use Rattle.std.specs.Prelude.{ℕ, ◌+◌, ◌==◌, ◌≤◌, nat_lt, ℤ, pos, int_le, unsigned_abs, if◌then◌else◌, List, [], ◌∷◌, ◌++◌, length, slice_index, Result, Ok, Err}
use Rattle.scott_types.specs.declared.parts.Action.{Action}
use Rattle.scott_types.specs.Opcode.{say_number}
use Rattle.source_reader.specs.declared.tree.At.{At}
use Rattle.source_reader.specs.declared.tree.Ref.{Ref}
use Rattle.source_reader.specs.declared.tree.Head.{Head}
use Rattle.source_reader.specs.declared.tree.Head.TheVariants as head
use Rattle.source_reader.specs.declared.tree.Cond.{Cond}
use Rattle.source_reader.specs.declared.tree.Op.{Op}
use Rattle.source_reader.specs.declared.tree.Op.TheVariants as op
use Rattle.source_reader.specs.declared.tree.LinePart.{LinePart}
use Rattle.adv_compiler.specs.declared.pairs.Pairs.{Pairs}
use Rattle.adv_compiler.specs.Faults.{Fault, too_many_conditions, too_many_opcodes, limit, ◌>>=◌}
use Rattle.adv_compiler.specs.Known.{Known}
use Rattle.adv_compiler.specs.Values.{value_of, vocab_of, thing, natural, first_of_two, second_of_two, packed_condition}

-- what holds of packed opcodes
abbrev pub AreFew : Pairs → Type 0
AreFew pairs = (pairs.first ≤ 2147483647) × (pairs.second ≤ 2147483647)

-- ---- heads

-- a noun, after a verb that was multiplied by 150
abbrev pub noun_after : ℕ → ℕ → ℤ → Result ℕ Fault
noun_after verb at z = natural at z >>= second_of_two at z verb

abbrev pub verb_first : ℕ → ℤ → Result ℕ Fault
verb_first at z = natural at z >>= first_of_two at z

-- the vocabulary of a head
abbrev pub vocabulary : Known → Head → Result ℕ Fault
vocabulary known (head.Line verb noun) =
    vocab_of known.verbs verb.at verb.what >>= λ v. verb_first verb.at v
    >>= λ first. vocab_of known.nouns noun.at noun.what >>= λ n. noun_after first noun.at n
vocabulary known (head.Auto n) = noun_after 0 n.at n.what
vocabulary known head.Also = Ok 0

-- ---- conditions

-- one condition more, of which there are five at most
abbrev pub with_condition : ℕ → List ℕ → Result ℕ Fault → Result (List ℕ) Fault
with_condition at before packed =
    if nat_lt (length before) 5 then (packed >>= λ n. Ok (before ++ n ∷ []))
    else Err (too_many_conditions at)

abbrev pub condition : Known → List ℕ → At Cond → Result (List ℕ) Fault
condition known before c =
    with_condition c.at before
    (value_of (thing known) c.what.arg.at c.what.arg.what
    >>= packed_condition c.what.arg.at c.what.code)

abbrev pub conditions : Known → List ℕ → List (At Cond) → Result (List ℕ) Fault
conditions known before [] = Ok before
conditions known before (c ∷ conds) =
    condition known before c >>= λ more. conditions known more conds

-- the parameters of an opcode with brackets are conditions of code 0; what a name stands for is
-- looked for first
abbrev pub parameter : Known → List ℕ → At Ref → Result (List ℕ) Fault
parameter known before p =
    value_of (thing known) p.at p.what >>= λ z. with_condition p.at before
    (packed_condition p.at 0 z)

abbrev pub parameters : Known → List ℕ → List (At Ref) → Result (List ℕ) Fault
parameters known before [] = Ok before
parameters known before (p ∷ ps) = parameter known before p >>= λ more. parameters known more ps

-- ---- opcodes

-- one opcode more, in the place that is its turn; `written` is the number that a fault has
abbrev pub with_opcode : ℕ → ℤ → Pairs → ℕ → Result Pairs Fault
with_opcode at written pairs n =
    if pairs.count == 0
    then (first_of_two at written n >>= λ v. Ok
    (record { first = v; second = pairs.second; count = 1 }))
    else if pairs.count == 1
    then (second_of_two at written pairs.first n
    >>= λ v. Ok (record { first = v; second = pairs.second; count = 2 }))
    else if pairs.count == 2
    then (first_of_two at written n >>= λ v. Ok
    (record { first = pairs.first; second = v; count = 3 }))
    else (second_of_two at written pairs.second n
    >>= λ v. Ok (record { first = pairs.first; second = v; count = 4 }))

-- the number of the opcode that says a message, which is 1 at least
abbrev pub message_opcode : ℕ → ℤ → Result ℕ Fault
message_opcode at z =
    if int_le (pos 1) z then Ok (say_number (unsigned_abs z)) else Err (limit at z)

abbrev pub said : Known → Pairs → At Ref → Result Pairs Fault
said known pairs m =
    value_of known.messages m.at m.what >>= λ z. message_opcode m.at z
    >>= λ n. with_opcode m.at z pairs n

abbrev pub numbered : Pairs → At ℤ → Result Pairs Fault
numbered pairs n = natural n.at n.what >>= with_opcode n.at n.what pairs

-- what an opcode adds to the conditions and the opcodes before it
abbrev pub added : Known → List ℕ → Pairs → ℕ → Op → Result (List ℕ × Pairs) Fault
added known conds pairs at (op.Say m) = said known pairs m >>= λ q. Ok (conds, q)
added known conds pairs at (op.Number n) = numbered pairs n >>= λ q. Ok (conds, q)
added known conds pairs at (op.Named n) = with_opcode at (pos n) pairs n >>= λ q. Ok (conds, q)
added known conds pairs at (op.With n ps) =
    with_opcode at (pos n) pairs n >>= λ q. parameters known conds ps >>= λ more. Ok (more, q)

-- of opcodes there are four at most
abbrev pub opcode : Known → List ℕ → Pairs → At Op → Result (List ℕ × Pairs) Fault
opcode known conds pairs o =
    if nat_lt pairs.count 4 then added known conds pairs o.at o.what
    else Err (too_many_opcodes o.at)

abbrev pub opcodes : Known → List ℕ → Pairs → List (At Op) → Result (List ℕ × Pairs) Fault
opcodes known conds pairs [] = Ok (conds, pairs)
opcodes known conds pairs (o ∷ ops) =
    opcode known conds pairs o >>= λ more. opcodes known more.0 more.1 ops

-- ---- the whole line

abbrev pub no_opcodes : Pairs
no_opcodes = record { first = 0; second = 0; count = 0 }

-- five conditions, with zeros after those that are there
abbrev pub five : List ℕ → List ℕ
five cs =
    slice_index cs 0 ∷ slice_index cs 1 ∷ slice_index cs 2 ∷ slice_index cs 3 ∷ slice_index cs 4
    ∷ []

abbrev pub action_of : ℕ → List ℕ → Pairs → Action
action_of vocab conds pairs =
    record { vocab = vocab; conds = five conds; pairs = pairs.first ∷ pairs.second ∷ [] }

abbrev pub line : Known → ℕ → At LinePart → Result Action Fault
line known k e =
    vocabulary known e.what.head
    >>= λ vocab. conditions known [] e.what.conds
    >>= λ conds. opcodes known conds no_opcodes e.what.ops
    >>= λ all. Ok (action_of vocab all.0 all.1)
