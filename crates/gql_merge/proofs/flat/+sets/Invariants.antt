use Rattle.std.proofs.Common.{◌≡◌, take}
use Rattle.gql_merge.specs.FieldSets.{part_within}
use Rattle.gql_merge.specs.Flat.{Grows}
use Rattle.gql_merge.proofs.flat.+sets.Given as goal

abbrev pub invariant-add_selections-loop-selection : goal.invariant-add_selections-loop-selection
invariant-add_selections-loop-selection g l =
    let F = g.W.World.facts l.initial.world in
    record {
      same_facts : g.W.World.facts l.world ≡ F;
      same_names : g.W.World.names l.world ≡ g.W.World.names l.initial.world;
      same_lent : g.W.World.lent l.world ≡ g.W.World.lent l.initial.world;
      grows : Grows (part_within F l.file l.parent (take l.selection-index l.set)) l.initial.sets.items l.initial.own l.sets.items l.own;
    }
