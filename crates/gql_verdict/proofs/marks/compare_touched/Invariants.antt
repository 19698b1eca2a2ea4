use Rattle.std.proofs.Common.{◌≡◌, ℕ, List, bytes_eq, is_some, take, Contains}
use Rattle.std.specs.HashMap as hash
use Rattle.gql_verdict.specs.Marks.{AreBroken, AreDone, IsFragmentCompared}
use Rattle.gql_verdict.proofs.marks.compare_touched.Given as goal

abbrev pub invariant-loop-name : goal.invariant-loop-name
invariant-loop-name g l = record {
  same_facts : g.W.World.facts l.world ≡ g.W.World.facts l.fn.world;
  same_names : g.W.World.names l.world ≡ g.W.World.names l.fn.world;
  same_lent : g.W.World.lent l.world ≡ g.W.World.lent l.fn.world;
  broken : AreBroken (g.W.World.facts l.fn.world) l.slots l.marks;
  done : AreDone (g.W.World.facts l.fn.world) l.slots l.index l.marks (λ n. is_some (hash.get_by (λ k. bytes_eq n k.now) l.done));
  compared : (n : List ℕ) → Contains (take l.name-index l.name-items) n → IsFragmentCompared (g.W.World.facts l.fn.world) l.slots l.index l.marks n;
}
