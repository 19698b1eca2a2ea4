use Rattle.std.proofs.Common.{◌≡◌, Vec, Global, ap, get_or, refl, subst, sym, ◌∙◌}
use Rattle.gql_collect.specs.Borrowed.{all_selections}
use Rattle.gql_steps.specs.Objects.{basis}
use Rattle.gql_steps.specs.Tables.{below_at, fields_at}
use Rattle.gql_steps.specs.declared.planning.FieldPlan.{FieldPlan}
use Rattle.gql_steps.specs.declared.table.Link.{Link}
use Rattle.gql_steps.proofs.Entries.{linked_has, linked_right, same_grows, sets_here}
use Rattle.gql_steps.proofs.table.Table.add_below.Goals as goal

pub returns-clause-right : goal.returns-clause-right
returns-clause-right c =
    let g = basis c.args.setting.now in
    let f = c.index-field.result.now in
    let here : f ≡ get_or (fields_at c.args.self.now.entries.items c.args.slot.entry) c.args.slot.field f =
    subst (λ fs. f ≡ get_or fs c.args.slot.field f) (ap (λ (v : Vec FieldPlan Global). v.items) c.get.ensures ∙ c.in_ok-fields.ensures) c.index-field.ensures in
    let xs : all_selections c.as_slice.result.now ≡ below_at c.args.self.now c.args.slot = ap all_selections c.as_slice.ensures.value
    ∙ sym (sets_here (fields_at c.args.self.now.entries.items c.args.slot.entry) c.args.slot.field f c.requires.within.field here) in
    let link : Link = record { slot = c.args.slot; entry = c.in_ok-number.number; before = c.last_link-before.result } in
    linked_right g c.args.self.now c.entry_for.new.self c.add_link.new.self c.args.slot c.in_ok-number.number c.args.of_type.now (all_selections c.as_slice.result.now)
    c.in_ok-number.ensures.right c.in_ok-number.ensures.made xs c.in_ok-add_link.ensures.entries link c.in_ok-number.ensures.grows c.requires.within refl refl c.in_ok-add_link.ensures.links

pub returns-clause-grows : goal.returns-clause-grows
returns-clause-grows c = same_grows c.args.self.now c.entry_for.new.self c.add_link.new.self c.in_ok-add_link.ensures.entries c.in_ok-number.ensures.grows

pub returns-clause-has : goal.returns-clause-has
returns-clause-has c =
    let g = basis c.args.setting.now in
    let f = c.index-field.result.now in
    let here : f ≡ get_or (fields_at c.args.self.now.entries.items c.args.slot.entry) c.args.slot.field f =
    subst (λ fs. f ≡ get_or fs c.args.slot.field f) (ap (λ (v : Vec FieldPlan Global). v.items) c.get.ensures ∙ c.in_ok-fields.ensures) c.index-field.ensures in
    let xs : all_selections c.as_slice.result.now ≡ below_at c.args.self.now c.args.slot = ap all_selections c.as_slice.ensures.value
    ∙ sym (sets_here (fields_at c.args.self.now.entries.items c.args.slot.entry) c.args.slot.field f c.requires.within.field here) in
    linked_has g c.args.self.now c.entry_for.new.self c.add_link.new.self c.args.slot c.in_ok-number.number c.args.of_type.now (all_selections c.as_slice.result.now)
    c.in_ok-number.ensures.right c.in_ok-number.ensures.made xs c.in_ok-add_link.ensures.entries
