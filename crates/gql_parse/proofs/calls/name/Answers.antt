use Rattle.gql_grammar.proofs.Outcomes.{answers}
use Rattle.gql_parse.specs.Names.{name}
use Rattle.gql_parse.proofs.calls.name.Goals as goal

pub returns-clause-answers : goal.returns-clause-answers
returns-clause-answers c = answers name c.args.cursor.now c.name.result c.name.new.cursor c.name.ensures.value c.name.ensures.rest
