use Rattle.gql_iface_rules.proofs.AlikeTypes.{kept_interfaces}
use Rattle.gql_iface_rules.proofs.alike.keeps_interfaces.Goals as goal

pub returns : goal.returns
returns c = λ is keeps undone. kept_interfaces c.args.may_come c.args.edited.now c.args.before.now c.args.after.now keeps undone (c.are_all_alike.ensures is)
