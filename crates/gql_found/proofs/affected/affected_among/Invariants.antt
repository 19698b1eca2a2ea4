use Rattle.std.proofs.Common.{◌≡◌, map, take}
use Rattle.gql_found.specs.Affected.{AreAffected}
use Rattle.gql_found.specs.Steps.{owns}
use Rattle.gql_found.proofs.affected.affected_among.Given as goal

abbrev pub invariant-loop-definition : goal.invariant-loop-definition
invariant-loop-definition g l = (g.W.World.facts l.world ≡ g.W.World.facts l.initial.world)
    × AreAffected l.sources (g.W.World.facts l.initial.world) (owns l.owners) (map (λ d. d.now) (take l.definition-index l.definitions)) l.affected.items
