use Rattle.std.proofs.Common.{codes, refl}
use Rattle.gql_deep.specs.Frames.{node_parts}
use Rattle.gql_steps.specs.Plans.{types_of}
use Rattle.gql_steps.specs.States.{path_of}
use Rattle.gql_steps.specs.ValueParts.{node_list_part, nodes_in, site_of}
use Rattle.gql_steps.specs.declared.ended.Ended.TheVariants.{Written}
use Rattle.gql_deep.specs.declared.frames.NodesFrame.{NodesFrame}
use Rattle.gql_deep.proofs.Midway.{midway_starts}
use Rattle.gql_deep.proofs.node_values.nodes_below.Goals as goal

pub returns-clause-does : goal.returns-clause-does
returns-clause-does c = λ g t now within x place asked.
    let f : NodesFrame = record { slot = c.args.slot; name = c.args.name; nodes = c.args.nodes; passed = 0; next = 0; ended = Written } in (
      refl,
      λ m opens. record {
        plan = x;
        place = place;
        within = within;
        asked = asked;
        rest = refl;
        midway = midway_starts (codes "[") (codes "]") (node_parts g f (site_of (types_of g) place x) now) (node_list_part c.args.name.now (site_of (types_of g) place x) (nodes_in g.given.schema c.args.nodes) (path_of now)) now m opens refl;
      },
    )
