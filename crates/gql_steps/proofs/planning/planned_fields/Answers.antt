use Rattle.std.proofs.Common.{Vec, Global, arith, ◌++◌, ◌∷◌, [], ap, append_assoc, append-nil, subst, sym, ◌∙◌}
use Rattle.std.proofs.lemmas.Map.Iter.{rest_all, rest_more}
use Rattle.std.specs.Map.Iter.{deref_pair}
use Rattle.gql_collect.specs.Alone.{groups_alone}
use Rattle.gql_collect.specs.Borrowed.{all_selections, selections_of}
use Rattle.gql_collect.specs.BorrowedGroups.{groups_in, nodes_in}
use Rattle.gql_collect.specs.Collection.{AreGroups}
use Rattle.gql_collect.specs.Groups.{Group}
use Rattle.gql_steps.specs.Objects.{basis}
use Rattle.gql_steps.specs.Tables.{Hold, Planning}
use Rattle.gql_steps.specs.declared.planning.FieldPlan.{FieldPlan}
use Rattle.gql_steps.proofs.Ending.{ok_then}
use Rattle.gql_steps.proofs.Grouped.{all_held, only_set}
use Rattle.gql_steps.proofs.planning.planned_fields.Goals as goal

pub loop-name-preserved : goal.loop-name-preserved
loop-name-preserved c =
    let inv = c.loop-name.invariant in
    let group : Group = record { key = c.in-Some.name.now.now; nodes = nodes_in c.in-Some.group.now } in (
      inv.0 ++ group ∷ [],
      inv.1 ∙ ap (λ es. inv.0 ++ groups_in es) (rest_more deref_pair c.loop-name.name-iterator c.next.new.self c.next.result (c.in-Some.name, c.in-Some.group) c.in-Some.is c.next.ensures.steps)
          ∙ sym (append_assoc inv.0 (group ∷ []) (groups_in c.next.new.self)),
      c.in_ok-add_field.ensures inv.0 inv.2,
    )

pub returns : goal.returns
returns c =
    let inv = c.loop-name.invariant in
    all_held (basis c.args.setting.now) c.args.of_type.now (all_selections c.args.sets.now) inv.0 c.loop-name.fields.items
    (subst (AreGroups (basis c.args.setting.now).given c.args.of_type.now (all_selections c.args.sets.now))
    (ap groups_in (sym (c.into_iter-name-iterator.ensures.into_iter_gives ∙ c.iter-name-items.ensures.rest)) ∙ inv.1
    ∙ ap (λ es. inv.0 ++ groups_in es) (rest_all deref_pair c.loop-name.name-iterator c.next.new.self c.next.result c.in-None.is c.next.ensures.steps)
    ∙ append-nil inv.0) c.in_ok-groups.ensures) inv.2

pub returns-then-is_plain : goal.returns-then-is_plain
returns-then-is_plain c =
    let g = basis c.args.setting.now in
    let t = c.args.of_type.now in
    let xs = all_selections c.args.sets.now in
    let groups = groups_alone (selections_of c.set-item.result) in
    ok_then c.plain_fields.result (λ (fs : Vec FieldPlan Global). Planning g t groups fs.items) (λ (fs : Vec FieldPlan Global). Hold g t xs fs.items)
    (λ fs h. all_held g t xs groups fs.items
    (subst (λ ys. AreGroups g.given t ys groups) (sym (only_set c.args.sets.now c.set-item.result (omega (arith, c.in-len1.len_at_least, c.in-len1.len_below)) c.set-item.is))
    (c.is_plain.ensures.groups c.if-is_plain.true g.given t)) h) c.plain_fields.ensures
