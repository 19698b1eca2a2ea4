use Rattle.std.proofs.Common.{rules}
use Rattle.gql_iface_rules.proofs.name_set.NameSet.has.Goals as goal

pub returns-in-Some : goal.returns-in-Some
returns-in-Some c = let e = c.self.invariant c.args.name.now in search rules
