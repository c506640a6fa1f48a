use Rattle.std.proofs.Common.{◌≡◌, ◌∙◌, ℕ, ◌+◌, ◌≤◌, List, ◌++◌, length, take, drop, sym, ap, arith, rules}
use Rattle.std.proofs.lemmas.Grind.{common_steps}
use Rattle.std.proofs.lemmas.List.{drop-drop}
use Rattle.adv_io.proofs.reading.fill_part.Goals as goal
use Rattle.adv_io.proofs.reading.fill_part.Goals.{in-Ok, in-Err}

-- what stays behind some bytes stays behind more of them
further : (start before now : List ℕ) (count size : ℕ) → drop count before ≡ drop count start
    → drop (count + size) now ≡ drop (count + size) before → drop (count + size) now ≡ drop (count + size) start
further start before now count size so_far later =
    later ∙ sym (drop-drop size count before) ∙ ap (drop size) so_far ∙ drop-drop size count start

-- as many bytes are copied as were read
copied : (size : ℕ) (read others : List ℕ) → size ≤ length read → length (take size (read ++ others)) ≡ size
copied size read others most = grind (arith, common_steps)

-- src/reading.rt:69:5
pub loop-preserved : goal.loop-preserved
loop-preserved g c =
    elim c.match-read.branch [
      | in-Ok w ↦ (
        search rules,
        let size = copied w.in-Ok.size c.read.new.buf (drop c.min-room.result c.loop.chunk) w.in-Ok.ensures.bound.0 in
            rw (w.out-is, w.count-is) (further c.args.out.now c.loop.out w.copy_to.new.out c.loop.count w.in-Ok.size c.loop.invariant.1 (rw size at w.copy_to.ensures)),
      )
      | in-Err w ↦ search rules
    ]
