use Rattle.gql_grammar.proofs.Rests.{rest_then}
use Rattle.gql_parse_sdl.proofs.input_values.input_value.Goals as goal

pub returns-in_err-of_type-clause-rest : goal.returns-in_err-of_type-clause-rest
returns-in_err-of_type-clause-rest c = rest_then c.type_ref.ensures.rest (rest_then c.expect.ensures.rest (rest_then c.name.ensures.rest c.optional_description.ensures.rest))

pub returns-in_err-default-clause-rest : goal.returns-in_err-default-clause-rest
returns-in_err-default-clause-rest c = rest_then c.optional_default.ensures.rest (rest_then c.type_ref.ensures.rest (rest_then c.expect.ensures.rest (rest_then c.name.ensures.rest c.optional_description.ensures.rest)))

pub returns-in_err-directives-clause-rest : goal.returns-in_err-directives-clause-rest
returns-in_err-directives-clause-rest c = rest_then c.directives.ensures.rest (rest_then c.optional_default.ensures.rest (rest_then c.type_ref.ensures.rest (rest_then c.expect.ensures.rest (rest_then c.name.ensures.rest c.optional_description.ensures.rest))))

pub returns-in_err-new-clause-rest : goal.returns-in_err-new-clause-rest
returns-in_err-new-clause-rest c = rest_then c.directives.ensures.rest (rest_then c.optional_default.ensures.rest (rest_then c.type_ref.ensures.rest (rest_then c.expect.ensures.rest (rest_then c.name.ensures.rest c.optional_description.ensures.rest))))

pub returns-clause-rest : goal.returns-clause-rest
returns-clause-rest c = rest_then c.directives.ensures.rest (rest_then c.optional_default.ensures.rest (rest_then c.type_ref.ensures.rest (rest_then c.expect.ensures.rest (rest_then c.name.ensures.rest c.optional_description.ensures.rest))))
