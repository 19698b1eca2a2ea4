use Rattle.gql_grammar.proofs.Outcomes.{answers}
use Rattle.gql_parse.specs.Documents.{definition}
use Rattle.gql_parse.proofs.calls.definition.Goals as goal

pub returns-clause-answers : goal.returns-clause-answers
returns-clause-answers c = answers definition c.args.cursor.now c.definition.result c.definition.new.cursor c.definition.ensures.value c.definition.ensures.rest
