use Rattle.std.proofs.Common.{◌≡◌, ◌++◌, drop}
use Rattle.gql_chunks.specs.Edits.{edited}
use Rattle.gql_chunks.specs.Lists.{AreInOrder}
use Rattle.gql_chunks.proofs.edits.edit.Given as goal

abbrev pub invariant-loop-item : goal.invariant-loop-item
invariant-loop-item g l =
    let order = g.T.HasOrder.order in
    record {
      sorted : AreInOrder order l.rest;
      so_far : l.all.items ++ edited order l.comes l.rest (drop l.item-index l.changed) ≡ edited order l.comes l.items l.changed;
    }
