-- The parent type of what a field or a condition selects, by what the code asks.
use Rattle.std.specs.Prelude.{◌≡◌, ℕ, List, refl, Option, Some, None, if◌then◌else◌}
use Rattle.std.proofs.Common.{ap, sym, ◌∙◌}
use Rattle.gql_types.specs.declared.kind.TypeKind.{TypeKind}
use Rattle.gql_facts.specs.Nodes.{composite, parent_below, field_type_in, is_composite_fact}
use Rattle.gql_facts.specs.Worlds.{Facts}
use Rattle.gql_facts.specs.declared.fact.Fact.{Fact}
use Rattle.gql_facts.specs.declared.fact.Fact.TheVariants as fact
use Rattle.gql_facts.specs.declared.fact.FieldFact.{FieldFact}
use Rattle.gql_facts.specs.declared.key.Key.TheVariants as key
use Rattle.gql_rules.specs.Answers.{composite_by, field_in, field_of, kind_in, kind_of_field, selected_type}

by_kind : (t : List ℕ) (f : Fact) → (if is_composite_fact f then Some t else None) ≡ composite_by t (kind_in f)
by_kind t fact.Absent = refl
by_kind t (fact.Kind k) = refl
by_kind t (fact.Field d) = refl
by_kind t (fact.Possible names) = refl
by_kind t (fact.Input fields) = refl
by_kind t (fact.Enum values) = refl
by_kind t (fact.Directive d) = refl
by_kind t (fact.Root name) = refl
by_kind t (fact.Fragment g) = refl

pub composite_is : (facts : Facts) (t : List ℕ) → composite facts (Some t) ≡ composite_by t (kind_in (facts (key.KindOf t)))
composite_is facts t = by_kind t (facts (key.KindOf t))

selected_is : (d : FieldFact) (k : Option TypeKind) → composite_by d.of_type.name k ≡ selected_type (Some d) k
selected_is d None = refl
selected_is d (Some k) = refl

by_field : (facts : Facts) (f : Fact) → composite facts (field_type_in f) ≡ selected_type (field_in f) (kind_of_field facts (field_in f))
by_field facts fact.Absent = refl
by_field facts (fact.Kind k) = refl
by_field facts (fact.Field d) = composite_is facts d.of_type.name ∙ selected_is d (kind_in (facts (key.KindOf d.of_type.name)))
by_field facts (fact.Possible names) = refl
by_field facts (fact.Input fields) = refl
by_field facts (fact.Enum values) = refl
by_field facts (fact.Directive d) = refl
by_field facts (fact.Root name) = refl
by_field facts (fact.Fragment g) = refl

pub below_is : (facts : Facts) (parent : Option (List ℕ)) (n : List ℕ)
    → parent_below facts parent n ≡ selected_type (field_of facts parent n) (kind_of_field facts (field_of facts parent n))
below_is facts None n = refl
below_is facts (Some t) n = by_field facts (facts (key.FieldOf t n))

-- the same, where these answers come from facts that stayed
pub below_by : (facts later : Facts) (parent : Option (List ℕ)) (n : List ℕ) (known : Option FieldFact) (kind : Option TypeKind) (below : Option (List ℕ))
    → known ≡ field_of facts parent n → later ≡ facts → kind ≡ kind_of_field later known → below ≡ selected_type known kind
    → below ≡ parent_below facts parent n
below_by facts later parent n known kind below known_is same kind_is below_is_it =
    below_is_it ∙ ap (selected_type known) kind_is ∙ ap (λ f. selected_type known (kind_of_field f known)) same
    ∙ ap (λ k. selected_type k (kind_of_field facts k)) known_is ∙ sym (below_is facts parent n)
