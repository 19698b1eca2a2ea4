use Rattle.std.proofs.Common.{◌≡◌, Contains, take}
use Rattle.gql_merge.specs.declared.spreading.SpreadSet.{SpreadSet}
use Rattle.gql_reads.specs.Tables as of_reads
use Rattle.gql_pairs.specs.Tables.{AllHold, HasPairs, Keeps}
use Rattle.gql_pairs.proofs.table.PairTable.cover_definition.Given as goal

abbrev pub invariant-loop-set : goal.invariant-loop-set
invariant-loop-set g l =
    let F = g.W.World.facts l.fn.world in
    record {
      same_facts : g.W.World.facts l.world ≡ F;
      same_names : g.W.World.names l.world ≡ g.W.World.names l.fn.world;
      same_lent : g.W.World.lent l.world ≡ g.W.World.lent l.fn.world;
      reads : of_reads.AllHold F l.reads;
      reads_keep : of_reads.Keeps l.fn.reads l.reads;
      holds : AllHold F l.self;
      keeps : Keeps l.fn.self l.self;
      has : (s : SpreadSet) → Contains (take l.set-index l.set-items) s → HasPairs l.self s.fragments.items;
    }
