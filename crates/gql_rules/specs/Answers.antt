-- What the answers to a rule's questions say, and what is known of a field, a directive or a type.
-- If a parent type, a field or a directive is not known, rules that need it report nothing.
use Rattle.std.specs.Prelude.{ℕ, List, Bool, true, false, Option, Some, None, ◌∷◌, ◌&&◌, not, if◌then◌else◌}
use Rattle.gql_types.specs.Kinds.{is_composite}
use Rattle.gql_types.specs.declared.kind.TypeKind.{TypeKind}
use Rattle.gql_facts.specs.declared.fact.Fact.{Fact}
use Rattle.gql_facts.specs.declared.fact.Fact.TheVariants as fact
use Rattle.gql_facts.specs.declared.fact.FieldFact.{FieldFact}
use Rattle.gql_facts.specs.declared.fact.InputFact.{InputFact}
use Rattle.gql_facts.specs.declared.fact.DirectiveFact.{DirectiveFact}
use Rattle.gql_facts.specs.declared.fact.FragmentFact.{FragmentFact}
use Rattle.gql_facts.specs.declared.key.Key.TheVariants as key
use Rattle.gql_types.specs.declared.written_type.Wrapper.{Wrapper}
use Rattle.gql_types.specs.declared.written_type.Wrapper.TheVariants as wrapper
use Rattle.gql_facts.specs.Worlds.{Facts}
pub use Rattle.gql_facts.specs.Floats.{kind_in}

-- ---- what an answer says

-- the field definition that an answer gives
abbrev pub field_in : Fact → Option FieldFact
field_in (fact.Field field) = Some field
field_in _ = None

-- the possible types of a composite type, as an answer gives them (GraphQL 5.5.2.3,
-- GetPossibleTypes)
abbrev pub possible_in : Fact → Option (List (List ℕ))
possible_in (fact.Possible names) = Some names
possible_in _ = None

-- the directive definition that an answer gives
abbrev pub directive_in : Fact → Option DirectiveFact
directive_in (fact.Directive directive) = Some directive
directive_in _ = None

-- the fragment definition that an answer gives
abbrev pub fragment_in : Fact → Option FragmentFact
fragment_in (fact.Fragment fragment) = Some fragment
fragment_in _ = None

-- ---- what is known

-- the kind of a type
abbrev pub kind_of : Facts → List ℕ → Option TypeKind
kind_of facts t = kind_in (facts (key.KindOf t))

-- the field of this name of a parent type
abbrev pub field_of : Facts → Option (List ℕ) → List ℕ → Option FieldFact
field_of facts None name = None
field_of facts (Some t) name = field_in (facts (key.FieldOf t name))

-- the kind of a field's type
abbrev pub kind_of_field : Facts → Option FieldFact → Option TypeKind
kind_of_field facts None = None
kind_of_field facts (Some field) = kind_of facts field.of_type.name

-- a type of this kind, if the kind is composite
abbrev pub composite_by : List ℕ → Option TypeKind → Option (List ℕ)
composite_by t None = None
composite_by t (Some k) = if is_composite k then Some t else None

-- the parent type of what a field selects, by the field and the kind of its type
abbrev pub selected_type : Option FieldFact → Option TypeKind → Option (List ℕ)
selected_type None kind = None
selected_type (Some field) None = None
selected_type (Some field) (Some k) = if is_composite k then Some field.of_type.name else None

-- the possible types of a parent type
abbrev pub possible_of : Facts → Option (List ℕ) → Option (List (List ℕ))
possible_of facts None = None
possible_of facts (Some t) = possible_in (facts (key.PossibleOf t))

-- the directive of this name
abbrev pub directive_of : Facts → List ℕ → Option DirectiveFact
directive_of facts name = directive_in (facts (key.DirectiveOf name))

-- the fragment of this name
abbrev pub fragment_of : Facts → List ℕ → Option FragmentFact
fragment_of facts name = fragment_in (facts (key.FragmentOf name))

-- ---- arguments that are required (GraphQL 3.6.1)

-- whether a type with these wrappers, from the outside in, is Non-Null
abbrev pub starts_non_null : List Wrapper → Bool
starts_non_null (wrapper.NonNull ∷ steps) = true
starts_non_null _ = false

-- an argument is required if its type is Non-Null and it has no default value
abbrev pub is_required : InputFact → Bool
is_required input = starts_non_null input.of_type.wrappers && not input.has_default
