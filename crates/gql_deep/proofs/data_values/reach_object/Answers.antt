use Rattle.gql_steps.specs.Objects.{basis}
use Rattle.gql_deep.proofs.data_values.reach_object.Goals as goal

pub returns-clause-keeps : goal.returns-clause-keeps
returns-clause-keeps c = c.done.ensures.keeps (basis c.args.setting.now) c.args.table.now _ c.args.run.now c.raise.new.run c.requires.right c.raise.ensures
