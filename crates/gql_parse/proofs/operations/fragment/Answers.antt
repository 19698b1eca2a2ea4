use Rattle.gql_grammar.proofs.Rests.{rest_then}
use Rattle.gql_parse.proofs.operations.fragment.Goals as goal

pub returns-in_err-directives-clause-rest : goal.returns-in_err-directives-clause-rest
returns-in_err-directives-clause-rest c = rest_then c.directives.ensures.rest (rest_then c.type_condition.ensures.rest (rest_then c.fragment_name.ensures.rest c.expect_word.ensures.rest))

pub returns-in_err-selections-clause-rest : goal.returns-in_err-selections-clause-rest
returns-in_err-selections-clause-rest c = rest_then c.set.ensures.rest (rest_then c.directives.ensures.rest (rest_then c.type_condition.ensures.rest (rest_then c.fragment_name.ensures.rest c.expect_word.ensures.rest)))

pub returns-clause-rest : goal.returns-clause-rest
returns-clause-rest c = rest_then c.set.ensures.rest (rest_then c.directives.ensures.rest (rest_then c.type_condition.ensures.rest (rest_then c.fragment_name.ensures.rest c.expect_word.ensures.rest)))

pub returns-in_err-new-clause-rest : goal.returns-in_err-new-clause-rest
returns-in_err-new-clause-rest c = rest_then c.set.ensures.rest (rest_then c.directives.ensures.rest (rest_then c.type_condition.ensures.rest (rest_then c.fragment_name.ensures.rest c.expect_word.ensures.rest)))
