use Rattle.std.proofs.Common.{◌≡◌, take, Contains}
use Rattle.gql_readers.specs.Indexes.{Reading}
use Rattle.gql_verdict.specs.Marks.{AreBroken, IsDoubtCompared}
use Rattle.gql_verdict.proofs.marks.compare_all.Given as goal

abbrev pub invariant-loop-entry : goal.invariant-loop-entry
invariant-loop-entry g l = record {
  same_facts : g.W.World.facts l.world ≡ g.W.World.facts l.fn.world;
  same_names : g.W.World.names l.world ≡ g.W.World.names l.fn.world;
  same_lent : g.W.World.lent l.world ≡ g.W.World.lent l.fn.world;
  broken : AreBroken (g.W.World.facts l.fn.world) l.slots l.marks;
  compared : (e : Reading) → Contains (take l.entry-index l.entry-items) e → IsDoubtCompared (g.W.World.facts l.fn.world) l.doubt l.slots l.marks e;
}
