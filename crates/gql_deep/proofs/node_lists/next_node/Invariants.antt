use Rattle.std.proofs.Common.{◌≡◌, ◌≤◌, drop, flat_map, length, option_to_list}
use Rattle.gql_intro.specs.Borrowed.{elements}
use Rattle.gql_deep.proofs.node_lists.next_node.Given as goal

abbrev pub invariant-loop-i : goal.invariant-loop-i
invariant-loop-i l = record {
  count : l.i-end ≡ length (elements l.schema l.nodes);
  later : l.passed ≤ l.i;
  rest : flat_map option_to_list (drop l.passed (elements l.schema l.nodes)) ≡ flat_map option_to_list (drop l.i (elements l.schema l.nodes));
}
