use Rattle.std.proofs.Common.{◌≡◌, ◌+◌, ◌*◌, ◌++◌, take}
use Rattle.std.specs.Prelude.{flat_map}
use Rattle.scott_light.proofs.pages.Page.add_after.Given as goal

-- the texts so far are there, each after the separator
abbrev pub invariant-loop-text : goal.invariant-loop-text
invariant-loop-text l = record {
  text : l.self.text ≡ l.initial.self.text ++ flat_map (λ text. l.separator ++ text.now) (take l.text-index l.texts);
  pieces : l.self.pieces ≡ l.initial.self.pieces + 2 * l.text-index;
}
