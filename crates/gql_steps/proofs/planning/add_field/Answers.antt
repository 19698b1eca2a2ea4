use Rattle.std.proofs.Common.{◌≡◌, ◌++◌, ◌∷◌, [], ap, option_map, refl, subst, sym, ◌∙◌}
use Rattle.gql_collect.specs.Borrowed.{node_of}
use Rattle.gql_collect.specs.BorrowedGroups.{nodes_in, others_of}
use Rattle.gql_collect.specs.Groups.{Group}
use Rattle.gql_steps.specs.Objects.{basis, field_in}
use Rattle.gql_steps.specs.Plans.{field_of}
use Rattle.gql_steps.specs.Tables.{Planning}
use Rattle.gql_steps.proofs.Grouped.{none_more, one_more}
use Rattle.gql_steps.proofs.planning.add_field.Goals as goal

pub returns-in_default : goal.returns-in_default
returns-in_default c = λ groups h.
    let group : Group = record { key = c.args.name.now; nodes = nodes_in c.args.group.now } in
    let g = basis c.args.setting.now in
    none_more g c.args.of_type.now groups c.args.fields.now.items group (node_of c.args.group.now.first) (others_of c.args.group.now.others.items) h refl
    (ap (field_of g c.args.of_type.now) (sym c.as_str-first.ensures) ∙ sym c.in_ok-found.ensures ∙ ap (option_map field_in) c.in_default.is)

pub returns : goal.returns
returns c = λ groups h.
    let group : Group = record { key = c.args.name.now; nodes = nodes_in c.args.group.now } in
    let g = basis c.args.setting.now in
    let pushed : c.push.new.self.items ≡ c.args.fields.now.items ++ c.in_ok-field.field ∷ [] =
    c.in_ok-push.ensures.items in
    subst (λ fs. Planning g c.args.of_type.now (groups ++ group ∷ []) fs) (sym pushed)
    (one_more g c.args.of_type.now groups c.args.fields.now.items group (node_of c.args.group.now.first) (others_of c.args.group.now.others.items) (field_in c.in-Some.found) c.in_ok-field.field h refl
    (ap (field_of g c.args.of_type.now) (sym c.as_str-first.ensures) ∙ sym c.in_ok-found.ensures ∙ ap (option_map field_in) c.in-Some.is)
    c.in_ok-field.ensures)
