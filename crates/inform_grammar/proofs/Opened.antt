-- Every rule and every plan of the grammar, opened at once.
use Rattle.inform_grammar.specs.ValueRules.{minus_number, constant, entry, arguments, name_after, entry_after, primary, unary, factor, factors_after, product, term, terms_after, value, argument}
use Rattle.inform_grammar.specs.ConditionRules.{relation_after, value_after, bracket_after, test, member, members_after, tests_after, guarded}
use Rattle.inform_grammar.specs.StatementRules.{change_after, change, statement_after, item, further_item, range_after, choice, further_choice, choices_after, head_after, part_after, default_after, cases_after, switch, body_of, else_after, if_after, while_after, do_after, for_body, for_last, for_test, for_after, return_after, print_after, read_after, statement, body, part_of, part}
use Rattle.inform_grammar.specs.Rule.{constant_after, global_after, array_after, routine_after, directive, local, program, rule}
use Rattle.inform_grammar.specs.Reading.{step, reads}

unfoldable pub opened : Unit {0}
unfolding minus_number constant entry arguments name_after entry_after primary unary factor factors_after product term terms_after value argument relation_after value_after bracket_after test member members_after tests_after guarded change_after change statement_after item further_item range_after choice further_choice choices_after head_after part_after default_after cases_after switch body_of else_after if_after while_after do_after for_body for_last for_test for_after return_after print_after read_after statement body part_of part constant_after global_after array_after routine_after directive local program rule step reads
opened = tt
