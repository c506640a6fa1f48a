use Rattle.std.proofs.Common.{◌≡◌, ◌∷◌, ◌++◌, take}
use Rattle.std.specs.List.{flat_map}
use Rattle.adv_io.specs.Text.{space}
use Rattle.adv_position.proofs.writing.put_line.Given as goal

-- the numbers so far are written
abbrev pub invariant-loop-number : goal.invariant-loop-number
invariant-loop-number g l =
    l.out.items
    ≡ l.initial.out.items
    ++ flat_map (λ n. space ∷ g.I.Integer.text n) (take l.number-index l.numbers)
