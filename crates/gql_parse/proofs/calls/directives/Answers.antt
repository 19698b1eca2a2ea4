use Rattle.gql_grammar.proofs.Outcomes.{answers}
use Rattle.gql_parse.specs.Directives.{directives}
use Rattle.gql_parse.specs.Values.{is_constant}
use Rattle.gql_parse.proofs.calls.directives.Goals as goal

pub returns-clause-answers : goal.returns-clause-answers
returns-clause-answers c = answers (directives (is_constant c.args.form)) c.args.cursor.now c.directives.result c.directives.new.cursor c.directives.ensures.value c.directives.ensures.rest
