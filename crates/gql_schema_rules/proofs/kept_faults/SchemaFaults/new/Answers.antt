use Rattle.std.proofs.Common.{ap}
use Rattle.gql_node_rules.specs.FileFaults.{joint_on_types}
use Rattle.gql_schema_rules.specs.RuleGroups.{type_faults_on}
use Rattle.gql_schema_rules.proofs.kept_faults.SchemaFaults.new.Goals as goal

pub returns : goal.returns
returns c = c.in_ok-faults.ensures c.in_ok-checks.ensures c.in_ok-found.ensures (record {
  joint = ap (joint_on_types c.args.schema.now) c.types-all.ensures;
  own = ap (λ types. type_faults_on c.args.schema.now types types) c.types-all.ensures;
})
