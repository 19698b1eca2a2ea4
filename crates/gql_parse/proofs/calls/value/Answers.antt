use Rattle.gql_grammar.proofs.Outcomes.{answers}
use Rattle.gql_parse.specs.Values.{is_constant, value}
use Rattle.gql_parse.proofs.calls.value.Goals as goal

pub returns-clause-answers : goal.returns-clause-answers
returns-clause-answers c = answers (value (is_constant c.args.form)) c.args.cursor.now c.value.result c.value.new.cursor c.value.ensures.value c.value.ensures.rest
