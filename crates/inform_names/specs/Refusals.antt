-- The fault that a function of the program finds.
use Rattle.std.specs.Prelude.{Option, Some, None, Result, Ok, Err}
use Rattle.inform_names.specs.declared.refusals.Refusal.{Refusal}
use Rattle.inform_names.specs.declared.refusals.Refusal.TheVariants as r
use Rattle.inform_names.specs.Faults.{Fault, twice, missing, wrong_kind, too_many_locals, too_many_arguments, wide_number, wrong_size, outside, too_deep, main_locals, no_main}

-- the fault that a refusal is, without its place
abbrev pub refused : Refusal → Fault
refused (r.Twice name) = twice name.now
refused (r.Missing name) = missing name.now
refused (r.Kind name) = wrong_kind name.now
refused (r.TooManyLocals name) = too_many_locals name.now
refused (r.TooManyArguments name) = too_many_arguments name.now
refused (r.WideNumber n) = wide_number n
refused (r.Size name) = wrong_size name.now
refused (r.Outside name) = outside name.now
refused (r.TooDeep name) = too_deep name.now
refused r.MainLocals = main_locals
refused r.NoMain = no_main

-- what a test found
abbrev pub found : {X : Type 0} → Result X Refusal → Option Fault
found (Ok x) = None
found (Err refusal) = Some (refused refusal)
