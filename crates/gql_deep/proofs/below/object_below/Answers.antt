use Rattle.gql_steps.specs.Objects.{basis}
use Rattle.gql_steps.specs.Tables.{below_at}
use Rattle.gql_deep.proofs.Entering.{enters_entry}
use Rattle.gql_deep.proofs.below.object_below.Goals as goal

pub returns-clause-enters : goal.returns-clause-enters
returns-clause-enters c = λ now name met x i. enters_entry (basis c.args.setting.now) c.at.new.self c.in_ok-entry.entry c.args.of_type.now name
    (below_at c.args.table.now c.args.slot) x c.args.object now c.in_ok-entry.ensures.has met i
