use Rattle.std.proofs.Common.{rules}
use Rattle.gql_merge.proofs.BadFields.{at_bodies}
use Rattle.gql_merge.proofs.two_fragments.bad_between.Goals as goal

pub returns : goal.returns
returns c = at_bodies c.args.numbered.now c.args.all.now c.args.left c.args.right _ (search rules) c.in_ok-pairs.pairs.items c.in_ok-bad.bad.items c.in_ok-pairs.ensures (search rules)
