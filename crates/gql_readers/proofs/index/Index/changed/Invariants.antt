use Rattle.std.proofs.Common.{◌≡◌, ◌++◌, Contains}
use Rattle.gql_facts.specs.declared.key.Key.{Key}
use Rattle.gql_readers.specs.Changes.{Noted}
use Rattle.gql_readers.specs.Indexes.{AreEntriesInOrder, Reading}
use Rattle.gql_readers.specs.Merged.{here, index_after, key_of}
use Rattle.gql_readers.specs.Orders.{key_order}
use Rattle.gql_readers.proofs.Editing.{AreSorted}
use Rattle.gql_readers.proofs.index.Index.changed.Given as goal

abbrev pub invariant-loop-key : goal.invariant-loop-key
invariant-loop-key l = record {
  next : (goal.iterator-loop-key).can_next l.key-iterator;
  finite : (goal.iterator-loop-key).is_finite l.key-iterator;
  order : AreEntriesInOrder l.rest;
  kept : (e : Reading) → Contains l.rest e → Contains l.fn.self e;
  noted : (n : Key × Noted) → Contains l.key-iterator n → Contains l.fn.changes n;
  sorted : AreSorted l.key-iterator;
  same : (n : Key × Noted) → Contains l.key-iterator n → here key_order key_of n.0 l.rest ≡ here key_order key_of n.0 l.fn.self;
  so_far : l.all.items ++ index_after l.rest l.key-iterator ≡ index_after l.fn.self l.fn.changes;
}
