use Rattle.gql_grammar.proofs.Rests.{rest_then}
use Rattle.gql_parse_sdl.proofs.directive_definition.directive_definition.Goals as goal

pub returns-in_err-arguments-clause-rest : goal.returns-in_err-arguments-clause-rest
returns-in_err-arguments-clause-rest c = rest_then c.optional_argument_definitions.ensures.rest (rest_then c.name.ensures.rest (rest_then c.expect.ensures.rest c.expect_word.ensures.rest))

pub returns-in_err-is_repeatable-clause-rest : goal.returns-in_err-is_repeatable-clause-rest
returns-in_err-is_repeatable-clause-rest c = rest_then c.optional_repeatable.ensures.rest (rest_then c.optional_argument_definitions.ensures.rest (rest_then c.name.ensures.rest (rest_then c.expect.ensures.rest c.expect_word.ensures.rest)))

pub returns-in_err-locations-clause-rest : goal.returns-in_err-locations-clause-rest
returns-in_err-locations-clause-rest c = rest_then c.locations.ensures.rest (rest_then c.optional_repeatable.ensures.rest (rest_then c.optional_argument_definitions.ensures.rest (rest_then c.name.ensures.rest (rest_then c.expect.ensures.rest c.expect_word.ensures.rest))))

pub returns-clause-rest : goal.returns-clause-rest
returns-clause-rest c = rest_then c.locations.ensures.rest (rest_then c.optional_repeatable.ensures.rest (rest_then c.optional_argument_definitions.ensures.rest (rest_then c.name.ensures.rest (rest_then c.expect.ensures.rest c.expect_word.ensures.rest))))
