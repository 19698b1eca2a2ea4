-- The nodes of a selection set, each with its parent type (GraphQL specification, 2.4 and 5.3). The
-- parent type is the type of the set that a node is in. It is `None` if the type is unknown or
-- not composite: rules that need it report nothing there.
use Rattle.std.specs.Prelude.{◌≡◌, ℕ, List, [], ◌∷◌, ◌++◌, map, flat_map, refl, Bool, true, false, Option, Some, None, if◌then◌else◌}
use Rattle.std.proofs.Common.{ap, sym, ◌∙◌}
use Rattle.gql_text.specs.declared.place.Place.{Place}
use Rattle.gql_ast.specs.declared.text.Name.{Name}
use Rattle.gql_ast.specs.declared.literal.Argument.{Argument}
use Rattle.gql_ast.specs.declared.literal.Directive.{Directive}
use Rattle.gql_ast.specs.declared.executable.Selection.{Selection, fold-Selection}
use Rattle.gql_ast.specs.declared.executable.Field.{Field}
use Rattle.gql_ast.specs.declared.executable.InlineFragment.{InlineFragment}
use Rattle.gql_ast.specs.declared.executable.Spread.{Spread}
use Rattle.gql_ast.specs.declared.executable.Selection.TheOpen.{Selection-F, Field-F, InlineFragment-F}
use Rattle.gql_ast.specs.declared.executable.Selection.TheFolds.{fold-roll-Selection, fold_out-Field, fold_out-InlineFragment}
use Rattle.gql_ast.specs.declared.executable.Selection.TheVariants as s
use Rattle.gql_types.specs.Kinds.{is_composite}
use Rattle.gql_facts.specs.declared.fact.Fact.{Fact}
use Rattle.gql_facts.specs.declared.fact.Fact.TheVariants as fact
use Rattle.gql_facts.specs.declared.key.Key.TheVariants as key
use Rattle.gql_facts.specs.Worlds.{Facts}

-- ---- parent types

-- whether the fact is the kind of a composite type
abbrev pub is_composite_fact : Fact → Bool
is_composite_fact (fact.Kind k) = is_composite k
is_composite_fact _ = false

-- the named type of a field, from its fact
abbrev pub field_type_in : Fact → Option (List ℕ)
field_type_in (fact.Field f) = Some f.of_type.name
field_type_in _ = None

-- the name of a root operation type, from its fact
abbrev pub root_in : Fact → Option (List ℕ)
root_in (fact.Root name) = Some name
root_in _ = None

-- this type, if it is composite
abbrev pub composite : Facts → Option (List ℕ) → Option (List ℕ)
composite facts None = None
composite facts (Some t) = if is_composite_fact (facts (key.KindOf t)) then Some t else None

-- the named type of a field of a type
abbrev pub field_type : Facts → Option (List ℕ) → List ℕ → Option (List ℕ)
field_type facts None n = None
field_type facts (Some t) n = field_type_in (facts (key.FieldOf t n))

-- the parent type of what a field selects
abbrev pub parent_below : Facts → Option (List ℕ) → List ℕ → Option (List ℕ)
parent_below facts parent n = composite facts (field_type facts parent n)

-- the parent type within an inline fragment: its condition, or without one that of the set that it
-- is in
abbrev pub parent_within : Facts → Option (List ℕ) → Option Name → Option (List ℕ)
parent_within facts parent None = parent
parent_within facts parent (Some c) = composite facts (Some c.text)

-- ---- nodes

-- whether a list has items
abbrev pub has_any : {A : Type 0} → List A → Bool
has_any [] = false
has_any (x ∷ xs) = true

-- a field, without what it selects
pub record FieldNode : Type 0 where
  pub parent : Option (List ℕ)
  pub alias : Option Name
  pub name : Name
  pub arguments : List Argument
  pub directives : List Directive
  pub has_selections : Bool

-- an inline fragment, without what it selects
pub record InlineNode : Type 0 where
  pub parent : Option (List ℕ)
  pub place : Place
  pub condition : Option Name
  pub directives : List Directive

-- a node of a selection set: a field, a spread with its parent type, or an inline fragment
pub data Node : Type 0 where
  field : FieldNode → Node
  spread : Option (List ℕ) → Spread → Node
  inline : InlineNode → Node

-- the nodes of a selection, as a function of the parent type
abbrev pub ByParent : Type 0
ByParent = Option (List ℕ) → List Node

-- the nodes of a selection of this form, from those of its parts
abbrev pub nodes_at : Selection-F ByParent ByParent ByParent → ByParent
nodes_at (Selection-F.Field below) parent = below parent
nodes_at (Selection-F.Spread x) parent = spread parent x ∷ []
nodes_at (Selection-F.InlineFragment below) parent = below parent

-- the nodes of a field, from those of what it selects
abbrev pub nodes_of_field : Facts → Field-F ByParent ByParent ByParent → ByParent
nodes_of_field facts f parent =
    field (record {
      parent = parent;
      alias = f.alias;
      name = f.name;
      arguments = f.arguments;
      directives = f.directives;
      has_selections = has_any f.selections;
    })
    ∷ flat_map (λ by. by (parent_below facts parent f.name.text)) f.selections

-- the nodes of an inline fragment, from those of what it selects
abbrev pub nodes_of_inline : Facts → InlineFragment-F ByParent ByParent ByParent → ByParent
nodes_of_inline facts i parent =
    inline (record {
      parent = parent;
      place = i.place;
      condition = i.condition;
      directives = i.directives;
    })
    ∷ flat_map (λ by. by (parent_within facts parent i.condition)) i.selections

-- the nodes of a selection, itself first, then those that it selects
unfoldable pub nodes_in : Facts → Selection → ByParent
nodes_in facts =
    fold-Selection ByParent ByParent ByParent nodes_at (nodes_of_field facts)
    (nodes_of_inline facts)

-- the nodes of a selection set with this parent type
abbrev pub nodes : Facts → Option (List ℕ) → List Selection → List Node
nodes facts parent = flat_map (λ x. nodes_in facts x parent)

-- ---- the nodes of each form of a selection

-- the node of a field
abbrev pub field_node : Option (List ℕ) → Field → FieldNode
field_node parent f = record {
  parent = parent;
  alias = f.alias;
  name = f.name;
  arguments = f.arguments;
  directives = f.directives;
  has_selections = has_any f.selections;
}

-- the node of an inline fragment
abbrev pub inline_node : Option (List ℕ) → InlineFragment → InlineNode
inline_node parent i = record {
  parent = parent;
  place = i.place;
  condition = i.condition;
  directives = i.directives;
}

flat : {A B C : Type 0} (g : B → List C) (f : A → B) (xs : List A)
    → flat_map g (map f xs) ≡ flat_map (λ x. g (f x)) xs
flat g f [] = refl
flat g f (x ∷ xs) = ap (λ r. g (f x) ++ r) (flat g f xs)

any_map : {A B : Type 0} (f : A → B) (xs : List A) → has_any (map f xs) ≡ has_any xs
any_map f [] = refl
any_map f (x ∷ xs) = refl

pub nodes_spread : (facts : Facts) (x : Spread) (parent : Option (List ℕ))
    → nodes_in facts (s.Spread x) parent ≡ spread parent x ∷ []
unfolding nodes_in
nodes_spread facts x parent = ap (λ y. nodes_in facts y parent) (sym (s.rolls-Spread x))
    ∙ ap (λ by. by parent)
    (fold-roll-Selection ByParent ByParent ByParent nodes_at (nodes_of_field facts)
    (nodes_of_inline facts) (Selection-F.Spread x))

pub nodes_field : (facts : Facts) (f : Field) (parent : Option (List ℕ))
    → nodes_in facts (s.Field f) parent
    ≡ field (field_node parent f) ∷ nodes facts (parent_below facts parent f.name.text) f.selections
unfolding nodes_in
nodes_field facts f parent = ap (λ y. nodes_in facts y parent) (sym (s.rolls-Field f))
    ∙ ap (λ by. by parent)
    (fold-roll-Selection ByParent ByParent ByParent nodes_at (nodes_of_field facts)
    (nodes_of_inline facts) (Selection-F.Field f)
    ∙ fold_out-Field ByParent ByParent ByParent nodes_at (nodes_of_field facts)
    (nodes_of_inline facts) f)
    ∙ ap (λ e. field
    (record {
      parent = parent;
      alias = f.alias;
      name = f.name;
      arguments = f.arguments;
      directives = f.directives;
      has_selections = e;
    })
    ∷ flat_map (λ by. by (parent_below facts parent f.name.text))
    (map (nodes_in facts) f.selections)) (any_map (nodes_in facts) f.selections)
    ∙ ap (λ r. field (field_node parent f) ∷ r)
    (flat (λ by. by (parent_below facts parent f.name.text)) (nodes_in facts) f.selections)

pub nodes_inline : (facts : Facts) (i : InlineFragment) (parent : Option (List ℕ))
    → nodes_in facts (s.InlineFragment i) parent
    ≡ inline (inline_node parent i)
    ∷ nodes facts (parent_within facts parent i.condition) i.selections
unfolding nodes_in
nodes_inline facts i parent = ap (λ y. nodes_in facts y parent) (sym (s.rolls-InlineFragment i))
    ∙ ap (λ by. by parent)
    (fold-roll-Selection ByParent ByParent ByParent nodes_at (nodes_of_field facts)
    (nodes_of_inline facts) (Selection-F.InlineFragment i)
    ∙ fold_out-InlineFragment ByParent ByParent ByParent nodes_at (nodes_of_field facts)
    (nodes_of_inline facts) i)
    ∙ ap (λ r. inline (inline_node parent i) ∷ r)
    (flat (λ by. by (parent_within facts parent i.condition)) (nodes_in facts) i.selections)
