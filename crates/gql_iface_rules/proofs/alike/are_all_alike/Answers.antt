use Rattle.std.proofs.Common.{rules}
use Rattle.gql_iface_rules.specs.Alike.{IsAlike}
use Rattle.gql_types.specs.Schemas.{type_named}
use Rattle.gql_iface_rules.proofs.AlikeTypes.{alike_more}
use Rattle.gql_iface_rules.proofs.alike.are_all_alike.Goals as goal

pub loop-name-preserved : goal.loop-name-preserved
loop-name-preserved c =
    let now : IsAlike c.args.may_come (type_named c.args.before.now c.name-item.result) (type_named c.args.after.now c.name-item.result) = search rules in
    alike_more c.args.may_come c.args.before.now c.args.after.now c.args.names.now c.loop-name.name-index c.name-item.result (search rules) (search rules) c.loop-name.invariant now
