use Rattle.std.proofs.Common.{◌≡◌, ◌++◌, drop}
use Rattle.gql_readers.specs.Merged.{edited}
use Rattle.gql_readers.specs.Orders.{AreInOrder}
use Rattle.gql_readers.proofs.ids.edit.Given as goal

abbrev pub invariant-loop-id : goal.invariant-loop-id
invariant-loop-id l = record {
  order : AreInOrder l.rest;
  so_far : l.all.items ++ edited l.comes l.rest (drop l.id-index l.changed) ≡ edited l.comes l.ids l.changed;
}
