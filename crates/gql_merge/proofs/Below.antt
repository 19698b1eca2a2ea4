-- The parent type of what a field selects, by the field's definition.
use Rattle.std.specs.Prelude.{◌≡◌, ℕ, List, refl, Option, Some, None}
use Rattle.std.proofs.Common.{ap, sym, ◌∙◌}
use Rattle.gql_types.specs.declared.kind.TypeKind.{TypeKind}
use Rattle.gql_facts.specs.Nodes.{parent_below}
use Rattle.gql_facts.specs.Worlds.{Facts}
use Rattle.gql_facts.specs.declared.fact.FieldFact.{FieldFact}
use Rattle.gql_rules.proofs.Parents.{below_is}
use Rattle.gql_rules.specs.Answers.{composite_by, field_of, kind_of, kind_of_field, selected_type}

selected_is : (d : FieldFact) (k : Option TypeKind) → composite_by d.of_type.name k ≡ selected_type (Some d) k
selected_is d None = refl
selected_is d (Some k) = refl

pub below_known : (facts later : Facts) (parent : Option (List ℕ)) (n : List ℕ) (d : FieldFact) (below : Option (List ℕ))
    → Some d ≡ field_of facts parent n → later ≡ facts → below ≡ composite_by d.of_type.name (kind_of later d.of_type.name)
    → below ≡ parent_below facts parent n
below_known facts later parent n d below known same is =
    is ∙ ap (λ f. composite_by d.of_type.name (kind_of f d.of_type.name)) same
    ∙ selected_is d (kind_of facts d.of_type.name)
    ∙ ap (λ o. selected_type o (kind_of_field facts o)) known
    ∙ sym (below_is facts parent n)
