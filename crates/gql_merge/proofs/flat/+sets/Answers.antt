use Rattle.std.proofs.Common.{◌≡◌, ◌∙◌, ap, length, map, rules, refl, subst, sym}
use Rattle.gql_merge.proofs.Drawing.{grows_spread, set_added}
use Rattle.gql_merge.proofs.FlatParts.{field_added, inline_added}
use Rattle.gql_merge.specs.FieldSets.{part_in, part_spread, part_within}
use Rattle.gql_merge.specs.Flat.{Grows}
use Rattle.gql_merge.specs.declared.flat.FlatSet.{FlatSet}
use Rattle.gql_merge.proofs.flat.+sets.Goals as goal

pub add_field-returns-clause-added : goal.add_field-returns-clause-added
add_field-returns-clause-added g t c =
    field_added (g.W.World.facts c.args.world.now) _ c.args.file.now c.args.parent.now c.args.field.now _ _ _ _ _ _ _ _
    c.in_ok-seen.ensures.facts c.in_ok-seen.ensures.below c.as_slice-set.ensures c.in_ok-seen.ensures.known
    c.in_ok-below.ensures.added c.in_ok-push_known.ensures.names c.in_ok-push_known.ensures.fields

pub add_inline-returns-clause-added : goal.add_inline-returns-clause-added
add_inline-returns-clause-added g t c =
    inline_added (g.W.World.facts c.args.world.now) _ c.args.file.now c.args.parent.now c.args.inline.now _ _ _ _ _ _
    c.in_ok-within.ensures.facts c.in_ok-within.ensures.answer c.as_slice-set.ensures c.in_ok-add_selections.ensures.added

pub add_selection-returns-in_ok-push-in-Spread-clause-added :
    goal.add_selection-returns-in_ok-push-in-Spread-clause-added
add_selection-returns-in_ok-push-in-Spread-clause-added g t c =
    let F = g.W.World.facts c.args.world.now in
    let file = c.args.file.now in
    let parent = c.args.parent.now in
    let done : FlatSet = record { fields = c.args.own.now.fields; names = c.push.new.self } in
    subst (λ p. Grows p c.args.sets.now.items c.args.own.now c.args.sets.now.items done)
    (sym (ap (λ y. part_in F file y parent) c.in-Spread.is ∙ part_spread F file c.in-Spread.spread parent))
    (grows_spread c.in-Spread.spread.name.text c.args.sets.now.items c.args.own.now done _ refl refl c.in_ok-push-in-Spread.ensures.items)

pub add_set-returns-clause-added : goal.add_set-returns-clause-added
add_set-returns-clause-added g t c =
    let at : c.len-number.result ≡ length c.add_selections.new.sets.items = search rules in
    set_added (part_within (g.W.World.facts c.args.world.now) c.args.file.now c.args.parent.now c.args.set.now)
    c.args.sets.now.items _ _ (record { fields = c.new.result; names = c.new-2.result }) _ _
    c.new.ensures.items (ap (map (λ n. n.now)) c.new-2.ensures.items) c.in_ok-add_selections.ensures.added at c.in_ok-push.ensures.items
