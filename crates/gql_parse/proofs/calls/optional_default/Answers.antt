use Rattle.gql_grammar.proofs.Outcomes.{answers}
use Rattle.gql_parse.specs.Operations.{optional_default}
use Rattle.gql_parse.proofs.calls.optional_default.Goals as goal

pub returns-clause-answers : goal.returns-clause-answers
returns-clause-answers c = answers optional_default c.args.cursor.now c.optional_default.result c.optional_default.new.cursor c.optional_default.ensures.value c.optional_default.ensures.rest
