use Rattle.std.proofs.Common.{Vec, Global, ap, subst, sym}
use Rattle.gql_collect.specs.Borrowed.{all_selections}
use Rattle.gql_steps.specs.Objects.{basis}
use Rattle.gql_steps.specs.Tables.{Hold}
use Rattle.gql_steps.specs.declared.planning.FieldPlan.{FieldPlan}
use Rattle.gql_steps.proofs.Entries.{added_made, added_right, entry_right, grown, made_has}
use Rattle.gql_steps.proofs.table.Table.add_sets.Goals as goal

pub returns-clause-right : goal.returns-clause-right
returns-clause-right c =
    let g = basis c.args.setting.now in
    added_right g c.args.self.now c.add.new.self _ c.requires c.in_ok-number.ensures.entries c.in_ok-number.ensures.links
    (entry_right g c.in_ok-from_str.field-0 c.in_ok-from_slice.field-0.items c.in_ok-new.field-0.items c.args.of_type.now (all_selections c.args.sets.now) c.in_ok-from_str.ensures (ap all_selections c.in_ok-from_slice.ensures.items)
    (subst (λ (v : Vec FieldPlan Global). Hold g c.args.of_type.now (all_selections c.args.sets.now) v.items) (sym c.in_ok-new.ensures) c.in_ok-fields.ensures))

pub returns-clause-grows : goal.returns-clause-grows
returns-clause-grows c = grown c.args.self.now c.add.new.self _ c.in_ok-number.ensures.entries

pub returns-clause-made : goal.returns-clause-made
returns-clause-made c = added_made c.args.self.now c.add.new.self _ c.in_ok-number.number c.args.of_type.now (all_selections c.args.sets.now)
    c.in_ok-number.ensures.entries c.in_ok-number.ensures.number c.in_ok-from_str.ensures (ap all_selections c.in_ok-from_slice.ensures.items)

pub returns-clause-has : goal.returns-clause-has
returns-clause-has c =
    let g = basis c.args.setting.now in
    made_has g c.add.new.self.entries.items c.add.new.self.links.items c.in_ok-number.number c.args.of_type.now (all_selections c.args.sets.now)
    (added_right g c.args.self.now c.add.new.self _ c.requires c.in_ok-number.ensures.entries c.in_ok-number.ensures.links
    (entry_right g c.in_ok-from_str.field-0 c.in_ok-from_slice.field-0.items c.in_ok-new.field-0.items c.args.of_type.now (all_selections c.args.sets.now) c.in_ok-from_str.ensures (ap all_selections c.in_ok-from_slice.ensures.items)
    (subst (λ (v : Vec FieldPlan Global). Hold g c.args.of_type.now (all_selections c.args.sets.now) v.items) (sym c.in_ok-new.ensures) c.in_ok-fields.ensures)))
    (added_made c.args.self.now c.add.new.self _ c.in_ok-number.number c.args.of_type.now (all_selections c.args.sets.now)
    c.in_ok-number.ensures.entries c.in_ok-number.ensures.number c.in_ok-from_str.ensures (ap all_selections c.in_ok-from_slice.ensures.items))
