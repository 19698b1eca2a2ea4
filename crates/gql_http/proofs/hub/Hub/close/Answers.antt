use Rattle.std.proofs.Common.{rules, None, refl}
use Rattle.gql_http.specs.Events.{ignores}
use Rattle.gql_http.proofs.Deeds.{closed}
use Rattle.gql_http.proofs.Framers.{limits_set}
use Rattle.gql_http.proofs.hub.Hub.close.Goals as goal

pub returns-then-is_open : goal.returns-then-is_open
returns-then-is_open c = closed _ c.args.self.now.framers c.args.connection c.from.result c.from.ensures (search rules)

pub returns-else-is_open : goal.returns-else-is_open
returns-else-is_open c = ignores (λ allowed. search rules)

pub invariant_of-self : goal.invariant_of-self
invariant_of-self c = (limits_set _ c.args.self.now.framers c.from.result None c.args.self.now.limits refl, tt)
