use Rattle.std.proofs.Common.{◌≡◌, get_or, subst, sym, ap, ◌∙◌, rules}
use Rattle.gql_collect.specs.Borrowed.{node_of}
use Rattle.gql_collect.specs.BorrowedGroups.{nodes_in}
use Rattle.gql_collect.specs.Nodes.{FieldNode}
use Rattle.gql_coerce.specs.Requests.{ArgumentsCome}
use Rattle.gql_types.specs.Written.{written}
use Rattle.serde_json.specs.View.{view}
use Rattle.gql_steps.specs.Objects.{field_in}
use Rattle.gql_steps.specs.Plans.{planned}
use Rattle.gql_steps.proofs.planning.field_plan.Goals as goal

pub returns : goal.returns
returns c = record {
  label = search rules;
  is = λ first others o nodes comes.
      let setting = c.args.setting.now in
      let definition = c.args.field.definition.now in
      let same : first ≡ node_of c.args.group.now.first = sym (ap (λ ns. get_or ns 0 first) nodes) in
      let called = c.in_ok-arguments.ensures o (subst (λ (n : FieldNode). ArgumentsCome setting.context.schema.now definition.arguments n.field.arguments (view setting.context.values.now) o) same comes) in
      (λ j. record {
        response_name = c.args.name.now;
        place = c.place.ensures j;
        name = c.as_str.ensures j;
        source = c.args.field.source;
        arguments = called j;
        of_type = written definition.of_type;
      }) ∙ ap (λ (n : FieldNode). planned (record { key = c.args.name.now; nodes = nodes_in c.args.group.now }) n (field_in c.args.field) o) (sym same);
  kind = search rules;
  sets = search rules;
}
