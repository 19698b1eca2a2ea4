use Rattle.std.proofs.Common.{List, reverse}
use Rattle.gql_collect.specs.Borrowed.{all_selections, names_of, nodes_of}
use Rattle.gql_collect.specs.Contexts.{given}
use Rattle.gql_collect.specs.Groups.{firsts, is_same_field}
use Rattle.gql_collect.specs.Nodes.{FieldNode}
use Rattle.gql_collect.specs.Unfolding.{Unfolds}
use Rattle.gql_collect.specs.Walks.{work}
use Rattle.gql_collect.proofs.Walking.{Goes}
use Rattle.gql_collect.proofs.unfold.unfold.Given as goal

abbrev pub invariant-loop-set : goal.invariant-loop-set
invariant-loop-set l = (ns : List FieldNode)
    → Unfolds (given l.context) l.of_type (all_selections l.sets) ns
    → Goes (given l.context) l.of_type (names_of l.met.fragments.keys) (nodes_of l.met.fields.keys)
    (all_selections (reverse l.pending.items)) (firsts is_same_field ns)

abbrev pub decreases-loop-set : goal.decreases-loop-set
decreases-loop-set l = work (given l.context).fragments l.pending.items (names_of l.met.fragments.keys)
