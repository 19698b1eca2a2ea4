use Rattle.gql_clashes.proofs.ByName.{back_in, classes_moved}
use Rattle.gql_clashes.proofs.groups.join_in_order.Goals as goal

pub returns : goal.returns
returns c = record {
  grouped = c.in_ok-made.ensures.grouped;
  extends = c.in_ok-made.ensures.extends;
  classes = classes_moved _ _ _ c.in_ok-made.ensures.classes c.put_in_order.ensures.permutation;
  joined = λ d a. c.in_ok-made.ensures.joined d (back_in _ _ d c.put_in_order.ensures.permutation a);
  ordered = record {
    named = λ d a. c.in_ok-made.ensures.named d (back_in _ _ d c.put_in_order.ensures.permutation a);
    sorted = c.put_in_order.ensures.sorted;
  };
}
