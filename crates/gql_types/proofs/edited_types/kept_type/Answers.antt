use Rattle.std.proofs.Common.{◌≡◌, ◌∙◌, Some, ap, option_and_then, rules, slice_get, sym}
use Rattle.gql_types.proofs.EditedTypes.{edited_there, unedited_there}
use Rattle.gql_types.proofs.edited_types.kept_type.Goals as goal

pub returns-then-is_kept_at-clause-unedited : goal.returns-then-is_kept_at-clause-unedited
returns-then-is_kept_at-clause-unedited c =
    unedited_there c.args.edit.now.edited.now c.args.edit.now.schema.now.types c.args.edit.now.are_edited.items c.in-Some.place _
    c.requires (search rules) (c.thing_at.ensures ∙ ap (λ types. slice_get types c.in-Some.place) c.types.ensures)

pub returns-else-is_kept_at-clause-none : goal.returns-else-is_kept_at-clause-none
returns-else-is_kept_at-clause-none c = λ t there.
    let types = c.args.edit.now.schema.now.types in
    edited_there c.args.edit.now.edited.now types c.as_slice.result.now c.in-Some.place t c.is_kept_at.result
    (c.as_slice.ensures.value ∙ c.requires) c.is_kept_at.ensures c.if-is_kept_at.false
    (ap (option_and_then (λ i. slice_get types i)) (sym c.in-Some.is) ∙ there)
