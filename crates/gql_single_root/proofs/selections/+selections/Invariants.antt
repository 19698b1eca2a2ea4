use Rattle.std.proofs.Common.{◌≡◌, map, take}
use Rattle.gql_single_root.specs.RootSelections.{Adds, IsAtRootOf}
use Rattle.gql_single_root.proofs.selections.+selections.Given as goal

abbrev pub invariant-add_set-loop-selection : goal.invariant-add_set-loop-selection
invariant-add_set-loop-selection g l =
    let F = g.W.World.facts l.initial.world in
    record {
      same_facts : g.W.World.facts l.world ≡ F;
      same_names : g.W.World.names l.world ≡ g.W.World.names l.initial.world;
      same_lent : g.W.World.lent l.world ≡ g.W.World.lent l.initial.world;
      added : Adds (IsAtRootOf F l.root (take l.selection-index l.set)) (map (λ x. x.now) l.initial.found.items) (map (λ x. x.now) l.found.items);
    }
