use Rattle.std.proofs.Common.{rules}
use Rattle.gql_iface_rules.specs.Borrowed.{pair}
use Rattle.gql_iface_rules.specs.S13MissingArguments.{missing_arguments}
use Rattle.gql_iface_rules.proofs.Steps.{added_step}
use Rattle.gql_iface_rules.proofs.s13_missing_arguments.check.Goals as goal

pub loop-fields-preserved : goal.loop-fields-preserved
loop-fields-preserved c = added_step missing_arguments pair c.args.pairs.now c.loop-fields.fields-index c.fields-item.result c.args.faults.now.items c.loop-fields.faults.items _
    (search rules) (search rules) c.loop-fields.invariant c.in_ok-check_pair.ensures
