-- The scope that a `Scope` of the program is.
use Rattle.inform_names.specs.declared.places.Scope as s
use Rattle.inform_names.specs.Tables.{found_in}
use Rattle.inform_names.specs.Places.{Scope}

abbrev pub scope_of : s.Scope → Scope
scope_of x = record {
  width = x.width;
  known = found_in x.table.now;
  directive = x.directive.now;
  locals = x.locals.now;
}
