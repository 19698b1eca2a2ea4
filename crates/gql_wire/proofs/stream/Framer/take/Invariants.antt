use Rattle.std.proofs.Common.{◌≡◌, ◌≤◌, ◌-◌, length, take, ◌++◌}
use Rattle.gql_wire.specs.Stream.{skip_blank}
use Rattle.gql_wire.proofs.stream.Framer.take.Given as goal

abbrev pub invariant-parts : goal.invariant-parts
invariant-parts l = record {
  within : l.taken ≤ length l.piece;
  limit : l.self.limit ≡ l.initial.self.limit;
  same : l.self.bytes ≡ skip_blank (l.initial.self.bytes ++ take l.taken l.piece);
}

abbrev pub decreases-parts : goal.decreases-parts
decreases-parts l = length l.piece - l.taken
