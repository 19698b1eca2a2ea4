use Rattle.gql_grammar.proofs.Outcomes.{answers}
use Rattle.gql_parse.specs.Selections.{set}
use Rattle.gql_parse.proofs.calls.set.Goals as goal

pub returns-clause-answers : goal.returns-clause-answers
returns-clause-answers c = answers set c.args.cursor.now c.set.result c.set.new.cursor c.set.ensures.value c.set.ensures.rest
