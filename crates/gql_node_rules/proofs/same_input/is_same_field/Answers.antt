use Rattle.std.proofs.Common.{◌≡◌, ◌∙◌, ap, rules, sym}
use Rattle.std.specs.Prelude.{is_some}
use Rattle.gql_types.specs.Written.{written}
use Rattle.gql_types.specs.WrittenTypes.{type_of}
use Rattle.gql_node_rules.proofs.SameInputs.{field_same}
use Rattle.gql_node_rules.proofs.same_input.is_same_field.Goals as goal

pub returns : goal.returns
returns c = λ same.
    let names : c.args.field.now.node.name.text ≡ c.args.other.now.node.name.text = search rules in
    let defaults : is_some c.args.field.now.node.default ≡ is_some c.args.other.now.node.default = search rules in
    field_same c.args.field.now c.args.other.now names
    (ap (λ d. type_of (written d.of_type)) (sym c.get-field.ensures) ∙ sym c.in_ok-its.ensures ∙ c.same-2.ensures.0 same ∙ c.in_ok-theirs.ensures
    ∙ ap (λ d. type_of (written d.of_type)) c.get-other.ensures)
    defaults
