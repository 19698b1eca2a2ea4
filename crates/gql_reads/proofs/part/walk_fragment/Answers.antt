use Rattle.std.proofs.Common.{rules}
use Rattle.gql_reads.specs.Own.{tree_of}
use Rattle.gql_reads.specs.Records.{IsRecord}
use Rattle.gql_reads.proofs.Recorded.{certified, same_certified}
use Rattle.gql_reads.proofs.part.walk_fragment.Goals as goal

pub invariant_of-result : goal.invariant_of-result
invariant_of-result g c =
    let F = g.W.World.facts c.args.world.now in
    let r : IsRecord F (tree_of c.args.fragment.now) c.in_ok-seen.seen = search rules in
    same_certified c.args.fragment.now c.in_ok-held.held.fragment c.in_ok-seen.seen c.in_ok-held.held.seen (search rules) (search rules)
    (certified F c.args.fragment.now c.in_ok-seen.seen r)
