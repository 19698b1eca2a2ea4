use Rattle.std.proofs.Common.{rules, ◌≡◌, ◌++◌, [], ◌∷◌}
use Rattle.gql_push.proofs.Owners.{none_at, owners_more}
use Rattle.gql_push.proofs.report.owners_in.Goals as goal

pub returns-in-None : goal.returns-in-None
returns-in-None c = none_at c.args.faults.now c.loop-fault.fault-index c.fault-item.result c.loop-fault-test.true c.fault-item.is (search rules)

pub loop-fault-preserved : goal.loop-fault-preserved
loop-fault-preserved c =
    let items : c.push.new.self.items ≡ c.loop-fault.owners.items ++ c.in-Some.owner ∷ [] = search rules in
    owners_more c.args.faults.now c.loop-fault.fault-index c.fault-item.result c.in-Some.owner c.loop-fault.owners.items c.push.new.self.items c.loop-fault-test.true c.fault-item.is (search rules) c.loop-fault.invariant items
