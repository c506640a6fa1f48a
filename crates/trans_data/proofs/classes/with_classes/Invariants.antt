use Rattle.std.proofs.Common.{◌≡◌, ◌++◌, drop, map}
use Rattle.scott_types.specs.declared.commands.Column.TheVariants.{Nouns}
use Rattle.scott_rules.specs.Words.{column_of}
use Rattle.trans_specs.specs.Tables.{class_of_noun}
use Rattle.trans_data.proofs.classes.with_classes.Given as goal

-- the classes of the nouns before, and of those to come, are all
abbrev pub invariant-loop-word : goal.invariant-loop-word
invariant-loop-word l =
    l.initial.all.items ++ map (class_of_noun l.nouns) (map (column_of Nouns) l.words)
    ≡ l.all.items ++ map (class_of_noun l.nouns) (map (column_of Nouns) (drop l.word-index l.words))
