use Rattle.std.proofs.Common.{ℕ, List, [], ◌∷◌, ◌++◌, ◌∙◌, ap, vec_len, vec_capacity, arith}
use Rattle.adv_text.proofs.Turns.{byte_more, quote_more, whole_text}
use Rattle.adv_text.proofs.writing.put_quoted.Goals as goal
use Rattle.adv_text.proofs.writing.put_quoted.Goals.{then-byte-eq34, else-byte-eq34}

pub loop-byte-preserved : goal.loop-byte-preserved
loop-byte-preserved c =
    let text = c.args.text.now in
    let i = c.loop-byte.byte-index in
    elim c.if-byte-eq34.branch [
      | then-byte-eq34 w ↦
          record {
            written = quote_more c.args.out.now.items c.loop-byte.out.items w.push_reserved-then-byte-eq34.new.self.items c.push_reserved-in-loop-byte.new.self.items text i
                (omega arith) w.if-byte-eq34.true c.loop-byte.invariant.written w.push_reserved-then-byte-eq34.ensures.items
                (rw w.out-is at c.push_reserved-in-loop-byte.ensures.items);
            room = omega (arith, ap vec_len w.out-is, ap vec_capacity w.out-is);
          }
      | else-byte-eq34 w ↦
          record {
            written = byte_more c.args.out.now.items c.loop-byte.out.items c.push_reserved-in-loop-byte.new.self.items text i
                (omega arith) w.if-byte-eq34.false c.loop-byte.invariant.written (rw w.out-is at c.push_reserved-in-loop-byte.ensures.items);
            room = omega (arith, ap vec_len w.out-is, ap vec_capacity w.out-is);
          }
    ]

pub loop-byte-init : goal.loop-byte-init
loop-byte-init c = record {
  written = c.push_reserved.ensures.items ∙ ap (λ (out : List ℕ). out ++ 34 ∷ []) c.in_ok-reserve.ensures.items;
  room = omega (arith, c.in_ok-reserve.ensures);
}

pub returns : goal.returns
returns c = record {
  written = whole_text c.args.out.now.items c.loop-byte.out.items c.push_reserved-2.new.self.items c.args.text.now c.loop-byte.byte-index c.loop-byte-test.false
      c.loop-byte.invariant.written c.push_reserved-2.ensures.items;
  kept = tt;
}
