use Rattle.gql_grammar.proofs.Outcomes.{answers}
use Rattle.gql_parse.specs.Types.{type_ref}
use Rattle.gql_parse.proofs.calls.type_ref.Goals as goal

pub returns-clause-answers : goal.returns-clause-answers
returns-clause-answers c = answers type_ref c.args.cursor.now c.type_ref.result c.type_ref.new.cursor c.type_ref.ensures.value c.type_ref.ensures.rest
