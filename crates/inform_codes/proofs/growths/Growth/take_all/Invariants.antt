use Rattle.std.proofs.Common.{◌≡◌, drop, map}
use Rattle.inform_codes.specs.Growths.{waiting}
use Rattle.inform_codes.specs.Grown.{parts_of}
use Rattle.inform_codes.proofs.growths.Growth.take_all.Given as goal

-- the codes from this one on are taken
abbrev pub invariant-loop-at : goal.invariant-loop-at
invariant-loop-at l = waiting l.self ≡ parts_of (map (λ n. n.now) l.names) l.given (drop l.at l.codes) (waiting l.initial.self)
