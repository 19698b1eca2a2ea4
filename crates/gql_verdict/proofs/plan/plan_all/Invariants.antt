use Rattle.std.proofs.Common.{◌≡◌, ◌++◌, map, take}
use Rattle.std.specs.List.{AllZip}
use Rattle.gql_pairs.specs.Tables.{Keeps}
use Rattle.gql_verdict.specs.SharedWorks.{Holds}
use Rattle.gql_verdict.specs.Shelves.{HasDuePairs, IsWholeDueWork}
use Rattle.gql_verdict.specs.Plans.{IsStep}
use Rattle.gql_verdict.specs.Slots.{ids_of, verdicts}
use Rattle.gql_verdict.proofs.plan.plan_all.Given as goal

abbrev pub invariant-loop-definition : goal.invariant-loop-definition
invariant-loop-definition g l = record {
  same_facts : g.W.World.facts l.world ≡ g.W.World.facts l.fn.world;
  same_names : g.W.World.names l.world ≡ g.W.World.names l.fn.world;
  same_lent : g.W.World.lent l.world ≡ g.W.World.lent l.fn.world;
  holds : Holds (g.W.World.facts l.fn.world) l.shared;
  pairs : Keeps l.fn.shared.pairs l.shared.pairs;
  steps : AllZip (IsStep (g.W.World.facts l.fn.world) l.kept) (take l.definition-index (map (λ d. d.now) l.definitions)) l.steps.items;
  walked : HasDuePairs (g.W.World.facts l.fn.world) (verdicts l.kept) (take l.definition-index (map (λ d. d.now) l.definitions)) l.shared.pairs;
  entries : l.meter ≡ l.fn.meter ++ ids_of (verdicts l.steps.items);
  whole : IsWholeDueWork (g.W.World.facts l.fn.world) (verdicts l.kept) (take l.definition-index (map (λ d. d.now) l.definitions)) l.fn.meter l.meter;
}
