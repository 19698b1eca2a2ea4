use Rattle.std.proofs.Common.{sym, ap, ◌∙◌}
use Rattle.serde_json.specs.View.{view}
use Rattle.gql_intro.specs.Borrowed.{node_of}
use Rattle.gql_deep.specs.Frames.{object_in}
use Rattle.gql_steps.specs.Objects.{basis}
use Rattle.gql_steps.specs.Plans.{types_of}
use Rattle.gql_steps.specs.States.{path_of}
use Rattle.gql_steps.specs.ValueParts.{answer_part, called_part, source_part}
use Rattle.gql_deep.proofs.Entering.{as_reached}
use Rattle.gql_steps.proofs.Executing.{called_described, called_stored}
use Rattle.gql_deep.proofs.field_values.reach_field.Goals as goal

pub returns-clause-does : goal.returns-clause-does
returns-clause-does c = λ q h.
    let types = types_of (basis c.args.setting.now) in
    let p = path_of c.args.run.now in
    as_reached (basis c.args.setting.now) c.reach_stored.new.table (called_part types (object_in c.args.object) q p)
    (source_part types (view c.in-Given.given) (view c.in-Stored.value.now) q p)
    c.reach_stored.result c.args.run.now c.reach_stored.new.run
    (ap (λ o. called_part types (object_in o) q p) c.in-Stored.is
    ∙ called_stored types q p c.args.field.now _ h.planned c.in-Given.is (view c.in-Stored.value.now))
    (c.reach_stored.ensures.does q h)

pub returns-in-Described-clause-does : goal.returns-in-Described-clause-does
returns-in-Described-clause-does c = λ q h.
    let types = types_of (basis c.args.setting.now) in
    let p = path_of c.args.run.now in
    as_reached (basis c.args.setting.now) c.reach_value.new.table (called_part types (object_in c.args.object) q p)
    (answer_part types (view c.in-Given.given) (node_of c.answering-node.result) q p)
    c.reach_value.result c.args.run.now c.reach_value.new.run
    (ap (λ o. called_part types (object_in o) q p) c.in-Described.is
    ∙ called_described types q p c.args.field.now _ h.planned c.in-Given.is (node_of c.in-Described.node)
    ∙ ap (λ n. answer_part types (view c.in-Given.given) n q p) (sym c.answering-node.ensures))
    (c.reach_value.ensures.does q h)

pub returns-in-Refused-clause-keeps : goal.returns-in-Refused-clause-keeps
returns-in-Refused-clause-keeps c = c.done.ensures.keeps (basis c.args.setting.now) c.args.table.now _ c.args.run.now c.raise.new.run c.requires.right c.raise.ensures
