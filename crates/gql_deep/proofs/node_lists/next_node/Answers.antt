use Rattle.std.proofs.Common.{flat_map, option_to_list, option_map, sym, ap, ◌∙◌, arith}
use Rattle.std.proofs.lemmas.List.{drop_all}
use Rattle.gql_intro.specs.Borrowed.{elements, node_of}
use Rattle.gql_deep.proofs.Picked.{picked_none, picked_some}
use Rattle.gql_deep.proofs.node_lists.next_node.Goals as goal

pub returns-in-Some-clause-is : goal.returns-in-Some-clause-is
returns-in-Some-clause-is c =
    let inv = c.loop-i.invariant in
    inv.rest ∙ picked_some (elements c.args.schema.now c.args.nodes) c.loop-i.i (node_of c.in-Some.node) (omega (arith, inv.count, c.loop-i-test.true)) (sym c.get.ensures ∙ ap (option_map node_of) c.in-Some.is)

pub loop-i-preserved : goal.loop-i-preserved
loop-i-preserved c =
    let inv = c.loop-i.invariant in
    record {
      count = inv.count;
      later = omega (arith, inv.later);
      rest = inv.rest ∙ picked_none (elements c.args.schema.now c.args.nodes) c.loop-i.i (omega (arith, inv.count, c.loop-i-test.true)) (sym c.get.ensures ∙ ap (option_map node_of) c.in_default.is);
    }

pub returns-clause-is : goal.returns-clause-is
returns-clause-is c =
    let inv = c.loop-i.invariant in
    inv.rest ∙ ap (flat_map option_to_list) (drop_all c.loop-i.i (elements c.args.schema.now c.args.nodes) (omega (arith, inv.count, c.loop-i-test.false)))
