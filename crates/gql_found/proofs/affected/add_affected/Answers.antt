use Rattle.std.proofs.Common.{◌∙◌, ◌++◌, ap}
use Rattle.gql_found.proofs.Lists.{ok_then}
use Rattle.gql_found.proofs.Serving.{not_operation, operation_more}
use Rattle.gql_found.specs.Spots.{spot_of}
use Rattle.gql_found.specs.Steps.{against_in, owns}
use Rattle.gql_found.proofs.affected.add_affected.Goals as goal

pub returns-in_default-clause-added : goal.returns-in_default-clause-added
returns-in_default-clause-added g c =
    not_operation c.args.sources.now (g.W.World.facts c.args.world.now) (owns c.args.owners.now) c.args.definition.now c.args.affected.now.items c.in_default.not-Operation

pub returns-clause-added : goal.returns-clause-added
returns-clause-added g c =
    ok_then c.add_against.result c.add_against.ensures (λ e.
    operation_more c.args.sources.now (g.W.World.facts c.args.world.now) (owns c.args.owners.now) c.args.definition.now c.in-Operation.operation c.spot-spot.result c.in_ok-against.against
    c.args.affected.now.items c.add_against.new.affected.items c.in-Operation.is (c.spot-spot.ensures ∙ ap (spot_of c.args.sources.now) c.in_ok-start.ensures) c.in_ok-against.ensures.against
    (e ∙ ap (λ o. c.args.affected.now.items ++ against_in o c.spot-spot.result c.in_ok-against.against) c.get.ensures))
