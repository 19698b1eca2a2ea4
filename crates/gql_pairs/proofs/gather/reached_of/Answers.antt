use Rattle.std.proofs.Common.{[]}
use Rattle.gql_pairs.specs.Fragments.{with_reached}
use Rattle.gql_pairs.proofs.Gathered.{gathers_more}
use Rattle.gql_pairs.proofs.gather.reached_of.Goals as goal

pub loop-member-preserved : goal.loop-member-preserved
loop-member-preserved c = record {
  names = c.in_ok-add_reached.ensures.names;
  gathered = gathers_more with_reached c.args.members.now c.loop-member.member-index c.member-item.result c.loop-member-test.true c.member-item.is [] c.loop-member.found.fragments.items c.add_reached.new.found.fragments.items
      c.loop-member.invariant.gathered c.in_ok-add_reached.ensures.gathered;
}
