use Rattle.std.proofs.Common.{◌≡◌, ◌∙◌, ap, bytes_eq, None, Some, refl, rules, subst, sym}
use Rattle.std.specs.List.{position_from}
use Rattle.gql_types.specs.EditedTypes.{extensions_at, type_by}
use Rattle.gql_types.specs.Possible.{name_of}
use Rattle.gql_types.specs.Prints.{print_of}
use Rattle.gql_types.specs.Roles.{concrete_place, role_of}
use Rattle.gql_types.specs.Sites.{site}
use Rattle.gql_types.specs.declared.schema_type.SchemaType.{SchemaType}
use Rattle.gql_types.proofs.EditedTypes.{four_ok, kept_found, kept_there, made_more}
use Rattle.gql_types.proofs.KnownPlaces.{known_kept, known_made}
use Rattle.gql_types.proofs.edited_types.add_type.Goals as goal

pub keep-requires : goal.keep-requires
keep-requires c = c.role_at.ensures c.in-Some.of_type.now (search rules)

pub returns-in-Some : goal.returns-in-Some
returns-in-Some c =
    let edit = c.args.edit.now in
    let types = edit.schema.now.types in
    let d = site c.args.definition.now in
    let t = c.in-Some.of_type.now in
    let both = kept_found edit.edited.now edit.schema.now d.node.name.text c.args.stood (Some t)
    (type_by (extensions_at edit) d) t c.requires.stood (search rules) (search rules) refl refl in
    let place : c.args.stood ≡ position_from (λ (u : SchemaType). bytes_eq (name_of t) (name_of u)) 0 types
    = subst (λ n. c.args.stood ≡ position_from (λ (u : SchemaType). bytes_eq n (name_of u)) 0 types) (sym both.1) c.requires.stood in
    four_ok c.keep.result
    (λ ts roles places prints sites before. made_more edit sites d c.args.list.now c.keep.new.self t (concrete_place (role_of t) c.args.stood) c.print_of-print.result
    both.0 both.1 (c.print_of-print.ensures ∙ ap print_of c.name.ensures)
    (kept_there types t c.args.stood (search rules))
    (known_kept edit.edited.now types t c.args.stood place (search rules)) ts roles places prints before)
    c.keep.ensures.types c.keep.ensures.roles c.keep.ensures.places c.keep.ensures.prints

pub returns-in-None : goal.returns-in-None
returns-in-None c =
    let edit = c.args.edit.now in
    let d = site c.args.definition.now in
    let t = type_by (extensions_at edit) d in
    four_ok c.make.result
    (λ ts roles places prints sites before. made_more edit sites d c.args.list.now c.make.new.self t None c.print_of-print.result
    (λ keeps. refl) refl (c.print_of-print.ensures ∙ ap print_of c.name.ensures) tt
    (known_made edit.edited.now edit.schema.now.types t c.args.stood c.requires.stood (search rules)) ts roles places prints before)
    c.make.ensures.types c.make.ensures.roles c.make.ensures.places c.make.ensures.prints
