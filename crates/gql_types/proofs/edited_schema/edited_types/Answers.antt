use Rattle.std.proofs.Common.{◌≡◌, ◌∙◌, ap, length, map, rules, subst, sym}
use Rattle.std.specs.Option.{option_copied}
use Rattle.gql_built_in.specs.BuiltIn.{built_in as all_built_in}
use Rattle.gql_types.specs.Definitions.{type_definitions}
use Rattle.gql_types.specs.EditedTypes.{AreTypesAfter, definition_of}
use Rattle.gql_types.specs.Sites.{site}
use Rattle.gql_types.specs.TypesAround.{AreAround, ArePlaced, sites_in_place}
use Rattle.gql_types.proofs.edited_schema.edited_types.Goals as goal

pub taken_over-requires-clause-around : goal.taken_over-requires-clause-around
taken_over-requires-clause-around c =
    let edit = c.args.edit.now in
    let placed : ArePlaced c.args.name.now (option_copied c.args.document) c.args.files.now c.args.before.now c.args.after.now edit.schema.now = c.requires.placed (search rules) in
    let count : c.in_ok-count.count ≡ length (type_definitions (all_built_in c.args.files.now.profile.floats)) = c.in_ok-count.ensures ∙ ap (λ ds. length (type_definitions ds)) c.requires.built_in in
    subst (λ n. AreAround n c.args.name.now c.others_of-others.result.now.files edit.schema.now.types) (sym count)
    (subst (λ fs. AreAround (length (type_definitions (all_built_in c.args.files.now.profile.floats))) c.args.name.now fs edit.schema.now.types) (sym c.others_of-others.ensures) placed.around)

pub returns-in-Some-clause-types : goal.returns-in-Some-clause-types
returns-in-Some-clause-types c =
    let edit = c.args.edit.now in
    let placed : ArePlaced c.args.name.now (option_copied c.args.document) c.args.files.now c.args.before.now c.args.after.now edit.schema.now = c.requires.placed (search rules) in
    let count : c.in_ok-count.count ≡ length (type_definitions (all_built_in c.args.files.now.profile.floats)) = c.in_ok-count.ensures ∙ ap (λ ds. length (type_definitions ds)) c.requires.built_in in
    let here = ap (map site) c.as_slice.ensures.value ∙ c.in_ok-here.ensures in
    let types : AreTypesAfter edit (sites_in_place c.in_ok-count.count c.args.name.now c.others_of-others.result.now.files (map definition_of edit.schema.now.types) (map site c.as_slice.result.now)) c.in-Some.types
    = search rules in
    subst (λ ds. AreTypesAfter edit ds c.in-Some.types)
    ((λ k. sites_in_place (count k) c.args.name.now (c.others_of-others.ensures k) (map definition_of edit.schema.now.types) (here k)) ∙ sym placed.sites) types
