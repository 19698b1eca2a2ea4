use Rattle.std.proofs.Common.{◌≡◌, take}
use Rattle.gql_reads.specs.Tables.{AllHold, Keeps}
use Rattle.gql_pairs.specs.Growing.{Grows}
use Rattle.gql_pairs.proofs.growing.grown_members.Given as goal

abbrev pub invariant-loop-fragment : goal.invariant-loop-fragment
invariant-loop-fragment g l =
    let F = g.W.World.facts l.fn.world in
    record {
      same_facts : g.W.World.facts l.world ≡ F;
      same_names : g.W.World.names l.world ≡ g.W.World.names l.fn.world;
      same_lent : g.W.World.lent l.world ≡ g.W.World.lent l.fn.world;
      holds : AllHold F l.reads;
      reads_keep : Keeps l.fn.reads l.reads;
      grows : Grows F l.base (take l.fragment-index l.fragments) l.members.items;
    }
