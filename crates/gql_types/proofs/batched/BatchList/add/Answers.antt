use Rattle.std.proofs.Common.{arith}
use Rattle.gql_types.proofs.Filling.{filled_with_made}
use Rattle.gql_types.proofs.batched.BatchList.add.Goals as goal

pub returns : goal.returns
returns g c = filled_with_made c.self.inside.made.items c.push.new.self.items
    c.self.inside.slots.items c.push-2.new.self.items c.len-place.result c.args.value
    c.args.self.now c.self.invariant c.self.view_is (omega arith) c.in_ok-push.ensures.items
    c.in_ok-push-2.ensures.items
