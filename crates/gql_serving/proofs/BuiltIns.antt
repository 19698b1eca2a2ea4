-- What is built in defines no schema, and no type that is a root by its name.
use Rattle.std.proofs.Common.{◌≡◌, ℕ, List, [], ◌∷◌, ◌++◌, Bool, true, false, ◌||◌, Option, map, codes, bytes_eq, if◌then◌else◌, Contains, refl, ap, sym, ◌∙◌, subst, inl, inr}
use Rattle.std.specs.List.{list_any}
use Rattle.std.proofs.lemmas.List.Elements.{Contains-append_cases}
use Rattle.gql_ast.specs.declared.definition.Tree.{Tree}
use Rattle.gql_ast.specs.declared.definition.Tree.TheVariants as tree
use Rattle.gql_ast.specs.declared.type_system.DirectiveDefinition.{DirectiveDefinition}
use Rattle.gql_ast.specs.declared.type_system.SchemaDefinition.{SchemaDefinition}
use Rattle.gql_ast.specs.declared.type_system.SchemaExtension.{SchemaExtension}
use Rattle.gql_ast.specs.declared.type_system.TypeDefinition.{TypeDefinition}
use Rattle.gql_built_in.specs.BuiltIn.{built_in, scalars, introspection, directives, type_kinds, directive_locations}
use Rattle.gql_built_in.specs.BuiltInWords.{a_type, a_directive, of_no_file, type_of, word}
use Rattle.gql_built_in.specs.declared.sited.Sited.{Sited}
use Rattle.gql_facts.specs.ListMembers.{Contains-nil, Contains-cases}
use Rattle.gql_types.specs.Definitions.{names_a_type, type_in, schema_in, schema_extension_in}
use Rattle.gql_serving.proofs.Listed.{Contains-map_from}

-- a definition that is built in is of a type or of a directive
pub data Form (floats : Bool) (d : Sited Tree) : Type 0 where
  of_scalar : (x : TypeDefinition) → Contains (scalars floats) x → d.node ≡ tree.Type x → Form floats d
  of_introspection : (x : TypeDefinition) → Contains introspection x → d.node ≡ tree.Type x → Form floats d
  of_directive : (x : DirectiveDefinition) → d.node ≡ tree.Directive x → Form floats d

type_node : (x : TypeDefinition) → (a_type x).node ≡ tree.Type x
unfolding of_no_file
type_node x = refl

directive_node : (x : DirectiveDefinition) → (a_directive x).node ≡ tree.Directive x
unfolding of_no_file
directive_node x = refl

pub form : (floats : Bool) (d : Sited Tree) → Contains (built_in floats) d → Form floats d
unfolding built_in
form floats d h = elim (Contains-append_cases (map a_type (scalars floats) ++ map a_type introspection) (map a_directive directives) d h) [
  | inl i ↦ elim (Contains-append_cases (map a_type (scalars floats)) (map a_type introspection) d i) [
    | inl j ↦ let r = Contains-map_from a_type (scalars floats) d j in
        of_scalar r.0 r.1 (ap (λ (y : Sited Tree). y.node) (sym r.2) ∙ type_node r.0)
    | inr j ↦ let r = Contains-map_from a_type introspection d j in
        of_introspection r.0 r.1 (ap (λ (y : Sited Tree). y.node) (sym r.2) ∙ type_node r.0)
  ]
  | inr i ↦ let r = Contains-map_from a_directive directives d i in
      of_directive r.0 (ap (λ (y : Sited Tree). y.node) (sym r.2) ∙ directive_node r.0)
]

-- ---- no schema

pub no_schema : (floats : Bool) (d : Sited Tree) (x : Sited SchemaDefinition) → Contains (built_in floats) d
    → Contains (schema_in d.file d.node) x → ⊥
no_schema floats d x h i = by (form floats d h) where
  at : (t : Tree) → d.node ≡ t → Contains (schema_in d.file t) x
  at t e = subst (λ u. Contains (schema_in d.file u) x) e i

  by : Form floats d → ⊥
  by (of_scalar y c e) = Contains-nil x (at (tree.Type y) e)
  by (of_introspection y c e) = Contains-nil x (at (tree.Type y) e)
  by (of_directive y e) = Contains-nil x (at (tree.Directive y) e)

pub no_extension : (floats : Bool) (d : Sited Tree) (x : Sited SchemaExtension) → Contains (built_in floats) d
    → Contains (schema_extension_in d.file d.node) x → ⊥
no_extension floats d x h i = by (form floats d h) where
  at : (t : Tree) → d.node ≡ t → Contains (schema_extension_in d.file t) x
  at t e = subst (λ u. Contains (schema_extension_in d.file u) x) e i

  by : Form floats d → ⊥
  by (of_scalar y c e) = Contains-nil x (at (tree.Type y) e)
  by (of_introspection y c e) = Contains-nil x (at (tree.Type y) e)
  by (of_directive y e) = Contains-nil x (at (tree.Directive y) e)

-- ---- no type of these names

-- types are defined under this name
abbrev has_name : List ℕ → List TypeDefinition → Bool
has_name name types = list_any (λ (x : TypeDefinition). bytes_eq name x.name.text) types

or_left : (a b : Bool) → a ≡ true → (a || b) ≡ true
or_left true b e = refl
or_left false b e = absurd (cc e)

or_right : (a b : Bool) → b ≡ true → (a || b) ≡ true
or_right true b e = refl
or_right false b e = e

named : (name : List ℕ) (types : List TypeDefinition) (x : TypeDefinition) → Contains types x
    → bytes_eq name x.name.text ≡ true → has_name name types ≡ true
named name [] x h e = absurd (Contains-nil x h)
named name (y ∷ ys) x h e = elim (Contains-cases x y ys h) [
  | inl i ↦ or_left (bytes_eq name y.name.text) (has_name name ys) (subst (λ z. bytes_eq name z.name.text ≡ true) i e)
  | inr i ↦ or_right (bytes_eq name y.name.text) (has_name name ys) (named name ys x i e)
]

-- no type of this name is built in
pub record IsFree (name : List ℕ) : Type 0 where
  pub of_scalars : (floats : Bool) → has_name name (scalars floats) ≡ false
  pub of_introspections : has_name name introspection ≡ false

query_scalars : (floats : Bool) → has_name (codes "Query") (scalars floats) ≡ false
unfolding scalars type_of word
query_scalars true = refl
query_scalars false = refl

pub query_free : IsFree (codes "Query")
unfolding introspection type_kinds directive_locations type_of word
query_free = record { of_scalars = query_scalars; of_introspections = refl }

mutation_scalars : (floats : Bool) → has_name (codes "Mutation") (scalars floats) ≡ false
unfolding scalars type_of word
mutation_scalars true = refl
mutation_scalars false = refl

pub mutation_free : IsFree (codes "Mutation")
unfolding introspection type_kinds directive_locations type_of word
mutation_free = record { of_scalars = mutation_scalars; of_introspections = refl }

subscription_scalars : (floats : Bool) → has_name (codes "Subscription") (scalars floats) ≡ false
unfolding scalars type_of word
subscription_scalars true = refl
subscription_scalars false = refl

pub subscription_free : IsFree (codes "Subscription")
unfolding introspection type_kinds directive_locations type_of word
subscription_free = record { of_scalars = subscription_scalars; of_introspections = refl }

-- ---- the definition of a type, as a type

defined : (file : Option (List ℕ)) (t : TypeDefinition) (x : Sited TypeDefinition)
    → Contains (type_in file (tree.Type t)) x → x ≡ record { file = file; node = t }
defined file t x h = by (names_a_type file t.name.text) refl where
  by : (b : Bool) → names_a_type file t.name.text ≡ b → x ≡ record { file = file; node = t }
  by true e = elim (Contains-cases x (record { file = file; node = t }) [] (subst (λ c. Contains (if c then record { file = file; node = t } ∷ [] else []) x) e h)) [
    | inl i ↦ i
    | inr i ↦ absurd (Contains-nil x i)
  ]
  by false e = absurd (Contains-nil x (subst (λ c. Contains (if c then record { file = file; node = t } ∷ [] else []) x) e h))

pub no_type : (floats : Bool) (name : List ℕ) → IsFree name → (d : Sited Tree) (x : Sited TypeDefinition) → Contains (built_in floats) d
    → Contains (type_in d.file d.node) x → bytes_eq name x.node.name.text ≡ true → ⊥
no_type floats name free d x h i e = by (form floats d h) where
  at : (t : Tree) → d.node ≡ t → Contains (type_in d.file t) x
  at t is = subst (λ u. Contains (type_in d.file u) x) is i

  name_is : (y : TypeDefinition) → d.node ≡ tree.Type y → bytes_eq name y.name.text ≡ true
  name_is y is = subst (λ (z : Sited TypeDefinition). bytes_eq name z.node.name.text ≡ true) (defined d.file y x (at (tree.Type y) is)) e

  by : Form floats d → ⊥
  by (of_scalar y c is) = cc (sym (free.of_scalars floats) ∙ named name (scalars floats) y c (name_is y is))
  by (of_introspection y c is) = cc (sym free.of_introspections ∙ named name introspection y c (name_is y is))
  by (of_directive y is) = Contains-nil x (at (tree.Directive y) is)
