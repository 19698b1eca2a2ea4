use Rattle.std.proofs.Common.{arith}
use Rattle.gql_intro.specs.Borrowed.{node_of}
use Rattle.gql_steps.specs.Objects.{basis}
use Rattle.gql_steps.specs.Plans.{types_of}
use Rattle.gql_steps.specs.States.{path_of}
use Rattle.gql_steps.specs.ValueParts.{content_of_node, node_part, site_of}
use Rattle.gql_steps.proofs.Doing.{counted-executes}
use Rattle.gql_deep.proofs.Entering.{comma_weight, node_later}
use Rattle.gql_deep.proofs.Running.{node_lift}
use Rattle.gql_deep.proofs.node_lists.begin_node.Goals as goal

pub returns-clause-does : goal.returns-clause-does
returns-clause-does c = λ x place i.
    let g = basis c.args.setting.now in
    let n = node_of c.args.node in
    let site = site_of (types_of g) place x in
    node_lift g c.begin_content.new.table (content_of_node c.args.name.now site c.args.i n (path_of c.count.new.run)) (node_part c.args.name.now site (path_of c.args.run.now) c.args.i n) c.begin_content.result c.count.new.run c.args.run.now c.begin_content.new.run
    (λ result u y. counted-executes c.args.i (λ p. content_of_node c.args.name.now site c.args.i n p) result c.args.run.now c.write_comma.new.run c.count.new.run u
    c.in_ok-write_comma.ensures.follows c.in_ok-count.ensures.follows y)
    (c.begin_content.ensures.does x place i)

pub returns-clause-keeps : goal.returns-clause-keeps
returns-clause-keeps c = node_later (basis c.args.setting.now) c.args.table.now c.begin_content.new.table c.begin_content.result c.args.run.now c.count.new.run c.begin_content.new.run
    (omega (arith, c.in_ok-write_comma.ensures.follows.left, c.in_ok-count.ensures.follows.left, comma_weight c.args.i)) c.begin_content.ensures.keeps
