use Rattle.std.specs.List.{AllByRecursion}
use Rattle.gql_stored.specs.Rooms.{IsEmptyRoom}
use Rattle.gql_stored.proofs.Rooming.{AreDone}
use Rattle.gql_stored.proofs.rooms.rooms_by.Given as goal

abbrev pub invariant-loop-to : goal.invariant-loop-to
invariant-loop-to l = record {
  empty : AllByRecursion IsEmptyRoom l.rooms.items;
  done : AreDone l.stored l.rooms.items l.counts.entries l.to-iterator;
}
