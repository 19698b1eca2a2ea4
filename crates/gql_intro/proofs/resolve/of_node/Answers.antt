use Rattle.std.proofs.Common.{ap, sym, ◌∙◌}
use Rattle.gql_intro.specs.Borrowed.{given_of, node_of}
use Rattle.gql_intro.specs.Introspection.{directive_rows, field_rows, resolve, type_rows}
use Rattle.gql_intro.specs.Nodes.{answer_in}
use Rattle.gql_intro.proofs.resolve.of_node.Goals as goal

pub returns-in-Named : goal.returns-in-Named
returns-in-Named c = c.of_named.ensures
    ∙ ap (λ d. answer_in (type_rows c.args.schema.now c.in-Named.of_type.now d) c.args.field.now)
    c.includes_deprecated-deprecated.ensures
    ∙ ap (λ x. resolve c.args.schema.now c.args.made.now (given_of c.args.arguments) (node_of x) c.args.field.now)
    (sym c.in-Named.is)

pub returns-in-Field : goal.returns-in-Field
returns-in-Field c = c.of_field.ensures
    ∙ ap (λ d. answer_in (field_rows c.args.schema.now c.in-Field.definition.now d) c.args.field.now)
    c.includes_deprecated-deprecated.ensures
    ∙ ap (λ x. resolve c.args.schema.now c.args.made.now (given_of c.args.arguments) (node_of x) c.args.field.now)
    (sym c.in-Field.is)

pub returns-in-EnumValue : goal.returns-in-EnumValue
returns-in-EnumValue c = c.of_value.ensures c.args.schema.now
    ∙ ap (λ x. resolve c.args.schema.now c.args.made.now (given_of c.args.arguments) (node_of x) c.args.field.now)
    (sym c.in-EnumValue.is)

pub returns-in-Directive : goal.returns-in-Directive
returns-in-Directive c = c.of_directive.ensures c.args.schema.now
    ∙ ap (λ d. answer_in (directive_rows c.in-Directive.definition.now d) c.args.field.now)
    c.includes_deprecated-deprecated.ensures
    ∙ ap (λ x. resolve c.args.schema.now c.args.made.now (given_of c.args.arguments) (node_of x) c.args.field.now)
    (sym c.in-Directive.is)
