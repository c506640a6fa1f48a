-- An accepted program, as the definitions see it.
use Rattle.std.specs.Prelude.{List}
use Rattle.inform_tree.specs.Programs.{DirectiveTree, program_of}
use Rattle.inform_names.specs.declared.accepted.Accepted.{Accepted}
use Rattle.inform_names.specs.Meanings.{Known, meanings}

-- its directives
abbrev pub directives_of : Accepted → List DirectiveTree
directives_of a = program_of a.program

-- what its names mean
abbrev pub names_of : Accepted → Known
names_of a = meanings a.width (directives_of a)
