use Rattle.std.proofs.Common.{refl, get_or}
use Rattle.std.specs.HashSet.{contains}
use Rattle.gql_findings.specs.Keys.{same_key}
use Rattle.gql_findings.proofs.Counting.{has_more, blank}
use Rattle.gql_findings.proofs.served.set_of.Goals as goal

pub loop-key-preserved : goal.loop-key-preserved
loop-key-preserved c =
    let key = get_or c.args.keys.now c.loop-key.key-index blank in
    λ q. has_more q key c.args.keys.now c.loop-key.key-index blank c.loop-key-test.true refl (contains same_key c.loop-key.set q) (contains same_key c.insert.new.self q)
    (c.loop-key.invariant q) (same_key key q) refl (c.in_ok-insert.ensures.updates.0 q)
