-- Where a word stands in a line.
use Rattle.std.specs.Prelude.{ℕ, ◌+◌, ◌≤◌, List, length}
use Rattle.scott_rules.specs.Commands.{Span}

-- a word ends within the line
abbrev pub IsWithin : Span → List ℕ → Type 0
IsWithin span line = span.0 + span.1 ≤ length line
