use Rattle.std.proofs.Common.{◌≡◌, ◌-◌, take}
use Rattle.adv_position.specs.Reading.{fields_in}
use Rattle.adv_position.proofs.Stepping.{ahead}
use Rattle.adv_position.proofs.reader.Reader.fields.Given as goal

-- the values so far, and those that are read after them, are all
abbrev pub invariant-loop-value : goal.invariant-loop-value
invariant-loop-value g l =
    fields_in g.N.Number.value_of l.least l.most l.value-index-end l.initial.self
    ≡ ahead (take l.value-index l.values)
    (fields_in g.N.Number.value_of l.least l.most (l.value-index-end - l.value-index) l.self)
