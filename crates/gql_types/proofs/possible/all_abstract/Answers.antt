use Rattle.std.proofs.Common.{[], ℕ, List, map, flat_map, ap, ◌∙◌}
use Rattle.std.specs.Option.{option_map_or}
use Rattle.std.specs.HashMap as hash
use Rattle.gql_types.specs.Abstracts.{abstract_by}
use Rattle.gql_types.specs.declared.possible.Declaration.{Declaration}
use Rattle.gql_types.specs.declared.schema_type.SchemaType.{SchemaType}
use Rattle.gql_types.proofs.Declaring.{abstract_of_all, of_abstracts}
use Rattle.gql_types.proofs.possible.all_abstract.Goals as goal

pub returns : goal.returns
returns c =
    let at : List ℕ → List Declaration = λ q. option_map_or (λ group. map (λ x. x.now) group.items) (hash.get_by_text c.in_ok-declaring.declaring q) [] in
    let objects : List ℕ → List (List ℕ) = λ q. map (λ (d : Declaration). d.object.now) (at q) in
    c.in_ok-found.ensures
    ∙ ap (flat_map (λ (t : SchemaType). abstract_by t.kind objects t)) (ap (map (λ t. t.now)) c.as_slice-2.ensures.value ∙ c.in_ok-gathering.ensures.abstracts)
    ∙ of_abstracts objects c.args.types.now
    ∙ abstract_of_all c.args.types.now c.as_slice.result.now at
    (ap (map _) c.as_slice.ensures.value ∙ c.in_ok-gathering.ensures.declarations) c.in_ok-declaring.ensures
