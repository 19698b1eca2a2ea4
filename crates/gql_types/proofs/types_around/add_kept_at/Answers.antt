use Rattle.std.proofs.Common.{◌≡◌, ◌++◌, ◌∷◌, ◌∙◌, [], None, Some, ap, bytes_eq, get_or, refl, rules, subst, sym}
use Rattle.std.specs.List.{position_from}
use Rattle.gql_types.specs.EditedTypes.{AreMade, defined_name, definition_of, extensions_at, type_by}
use Rattle.std.proofs.lemmas.Option.{get_or_from_slice_get}
use Rattle.gql_types.specs.Possible.{name_of}
use Rattle.gql_types.specs.Prints.{print_of}
use Rattle.gql_types.specs.Roles.{concrete_place, role_of}
use Rattle.gql_types.specs.Sites.{site}
use Rattle.gql_types.specs.declared.schema_type.SchemaType.{SchemaType}
use Rattle.gql_types.proofs.EditedTypes.{four_ok, made_more}
use Rattle.gql_types.proofs.KnownPlaces.{known_made}
use Rattle.gql_types.proofs.TypesAround.{kept_as_it_stood, stood_in_place}
use Rattle.gql_types.proofs.types_around.add_kept_at.Goals as goal

pub keep-requires : goal.keep-requires
keep-requires c = c.role_at.ensures c.in-Some.of_type.now (search rules)

pub returns-in-Some : goal.returns-in-Some
returns-in-Some c =
    four_ok c.keep.result
    (λ types roles places prints t there sites before.
    let kept = c.in-Some.of_type.now in
    let all = kept_as_it_stood c.args.edit.now c.args.place t kept c.requires.once there (search rules) (search rules) in
    made_more c.args.edit.now sites t.definition c.args.list.now c.keep.new.self kept (concrete_place (role_of kept) (Some c.args.place)) c.args.print
    all.0 all.1 (c.requires.print t there) all.2 all.3 types roles places prints before)
    c.keep.ensures.types c.keep.ensures.roles c.keep.ensures.places c.keep.ensures.prints

pub returns-in-None : goal.returns-in-None
returns-in-None c =
    let edit = c.args.edit.now in
    let d = site c.site_of-definition.result in
    let made = type_by (extensions_at edit) d in
    four_ok c.make_alone.result
    (λ types roles places prints t there sites before.
    let same : c.get.result.now ≡ t = c.get.ensures ∙ c.index-types-place.is
    ∙ ap (λ ts. get_or ts c.args.place c.index-types-place.result) c.types.ensures
    ∙ get_or_from_slice_get edit.schema.now.types c.args.place t c.index-types-place.result there in
    let is : d ≡ t.definition = c.site_of-definition.ensures ∙ ap definition_of same in
    let place : Some c.args.place ≡ position_from (λ (u : SchemaType). bytes_eq (name_of made) (name_of u)) 0 edit.schema.now.types
    = subst (λ e. Some c.args.place ≡ position_from (λ (u : SchemaType). bytes_eq (defined_name e) (name_of u)) 0 edit.schema.now.types) (sym is)
    (stood_in_place edit.schema.now.types c.args.place t c.requires.once there) in
    subst (λ e. AreMade edit (sites ++ e ∷ []) c.make_alone.new.self) is
    (made_more edit sites d c.args.list.now c.make_alone.new.self made None c.args.print
    (λ keeps. refl) refl (c.requires.print t there ∙ ap (λ e. print_of (defined_name e)) (sym is)) tt
    (known_made edit.edited.now edit.schema.now.types made (Some c.args.place) place (search rules)) types roles places prints before))
    c.make_alone.ensures.types c.make_alone.ensures.roles c.make_alone.ensures.places c.make_alone.ensures.prints
