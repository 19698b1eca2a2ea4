-- V30, Single Root Field: a subscription has no root field, root fields of several response names,
-- or one that is an introspection field (GraphQL 5.2.3.1).
-- Reported at the start of each root field if they have several response names, and of each
-- introspection field, about its response name; if there is none, at the start of the operation,
-- about its name.
use Rattle.std.specs.Prelude.{◌≡◌, ◌≢◌, ℕ, List, [], codes, Bool, true, false, not, ◌&&◌, ◌||◌, bytes_eq, eqb, find, is_some, Option, Some, None, Contains}
use Rattle.std.specs.List.{list_any, starts_with}
use Rattle.gql_ast.specs.declared.definition.Definition.{Definition}
use Rattle.gql_ast.specs.declared.definition.Tree.TheVariants as tree
use Rattle.gql_ast.specs.declared.executable.Field.{Field}
use Rattle.gql_ast.specs.declared.executable.InlineFragment.{InlineFragment}
use Rattle.gql_ast.specs.declared.executable.Operation.{Operation}
use Rattle.gql_ast.specs.declared.executable.OperationKind.TheVariants as operation
use Rattle.gql_ast.specs.declared.executable.Selection.{Selection}
use Rattle.gql_ast.specs.declared.executable.Selection.TheVariants as selection
use Rattle.gql_ast.specs.declared.executable.Spread.{Spread}
use Rattle.gql_ast.specs.declared.literal.Argument.{Argument}
use Rattle.gql_ast.specs.declared.literal.Directive.{Directive}
use Rattle.gql_ast.specs.declared.literal.Literal.{Literal, out-Literal}
use Rattle.gql_ast.specs.declared.literal.Literal.TheOpen.{Literal-F}
use Rattle.gql_ast.specs.declared.literal.ObjectField.{ObjectField}
use Rattle.gql_ast.specs.declared.text.Name.{Name}
use Rattle.gql_facts.specs.Worlds.{Facts}
use Rattle.gql_facts.specs.declared.fact.Fact.{Fact}
use Rattle.gql_facts.specs.declared.fact.Fact.TheVariants as fact
use Rattle.gql_facts.specs.declared.fact.FragmentFact.{FragmentFact}
use Rattle.gql_facts.specs.declared.key.Key.TheVariants as key
use Rattle.gql_single_root.specs.declared.fault.RootFault.{RootFault}

-- ---- `@skip` and `@include`, where no variable has a value (GraphQL 3.13.1, 3.13.2)

-- whether a literal of this form is `true`
abbrev pub is_true_at : Literal-F Literal ObjectField → Bool
is_true_at (Literal-F.Boolean place b) = b
is_true_at _ = false

-- whether a literal is `true`
abbrev pub is_true : Literal → Bool
is_true x = is_true_at (out-Literal x)

-- whether one of these arguments is `if: true`
abbrev pub says_true : List Argument → Bool
says_true =
    list_any (λ (a : Argument). bytes_eq a.name.text (codes "if") && is_true a.value)

-- whether a directive leaves its selection out: `@skip(if: true)`, or `@include` without `if: true`
abbrev pub leaves_out : Directive → Bool
leaves_out d = (bytes_eq d.name.text (codes "skip") && says_true d.arguments)
    || (bytes_eq d.name.text (codes "include") && not (says_true d.arguments))

-- Whether a selection with these directives stays. So `@include(if: $v)` leaves it out, and
-- `@skip(if: $v)` does not.
abbrev pub stays : List Directive → Bool
stays ds = not (list_any leaves_out ds)

-- ---- type conditions (GraphQL 6.3.2, DoesFragmentTypeApply)

-- the possible types that an answer gives
abbrev pub names_in : Fact → List (List ℕ)
names_in (fact.Possible names) = names
names_in _ = []

-- whether a name is among these
abbrev pub is_among : List (List ℕ) → List ℕ → Bool
is_among names name = is_some (find (bytes_eq name) names)

-- whether the root is a possible type of the type of this name
abbrev pub is_possible : Facts → List ℕ → List ℕ → Bool
is_possible facts root condition = is_among (names_in (facts (key.PossibleOf condition))) root

-- whether a condition applies to the root; where there is none, it does
abbrev pub applies : Facts → List ℕ → Option Name → Bool
applies facts root None = true
applies facts root (Some condition) = is_possible facts root condition.text

-- ---- root fields

-- A field at the root of a selection set, with the file that it is in (GraphQL 6.3.2,
-- CollectFields): in the set itself, in an inline fragment or in a fragment that is spread, if the
-- selection stays and the condition applies. What fields select is not at the root.
pub data AtRoot (facts : Facts) (root : List ℕ)
    : List ℕ → List Selection → List ℕ → Field → Type 0 where
  here : {file : List ℕ} {set : List Selection} {f : Field} → Contains set (selection.Field f)
      → stays f.directives ≡ true → AtRoot facts root file set file f
  inside : {file at : List ℕ} {set : List Selection} {i : InlineFragment} {f : Field}
      → Contains set (selection.InlineFragment i) → stays i.directives ≡ true
      → applies facts root i.condition ≡ true → AtRoot facts root file i.selections at f
      → AtRoot facts root file set at f
  spread : {file at : List ℕ} {set : List Selection} {x : Spread} {g : FragmentFact} {f : Field}
      → Contains set (selection.Spread x) → stays x.directives ≡ true
      → facts (key.FragmentOf x.name.text) ≡ fact.Fragment g
      → is_possible facts root g.fragment.condition.text ≡ true
      → AtRoot facts root g.file g.fragment.selections at f → AtRoot facts root file set at f

-- the alias of a field, or its name if it has none (GraphQL 2.7)
abbrev pub own_name : Option Name → Name → Name
own_name None name = name
own_name (Some alias) name = alias

-- the response name of a field, at the start of the field
abbrev pub response_name : Field → Name
response_name f = own_name f.alias f.name

-- whether a field is an introspection field: its name begins with two underscores (GraphQL 4.1)
abbrev pub is_introspection : Field → Bool
is_introspection f = starts_with eqb f.name.text (codes "__")

-- ---- faults

-- the fault at a field of this file, about its response name
abbrev pub fault_of : List ℕ → Field → RootFault
fault_of file f = record {
  file = file;
  place = (response_name f).place;
  about = (response_name f).text;
}

-- the name of an operation, or an empty text if it has none
abbrev pub name_or_empty : Option Name → List ℕ
name_or_empty None = []
name_or_empty (Some name) = name.text

-- the fault of an operation of this file without a root field
abbrev pub fault_of_none : List ℕ → Operation → RootFault
fault_of_none file o = record { file = file; place = o.place; about = name_or_empty o.name }

-- the faults of a subscription of this file, with this root
pub data IsFault (facts : Facts) (root file : List ℕ) (o : Operation) : RootFault → Type 0 where
  several : {at other : List ℕ} {f g : Field} → AtRoot facts root file o.selections at f
      → AtRoot facts root file o.selections other g
      → (response_name f).text ≢ (response_name g).text
      → IsFault facts root file o (fault_of at f)
  introspection : {at : List ℕ} {f : Field} → AtRoot facts root file o.selections at f
      → is_introspection f ≡ true → IsFault facts root file o (fault_of at f)
  none : ((at : List ℕ) (f : Field) → AtRoot facts root file o.selections at f → ⊥)
      → IsFault facts root file o (fault_of_none file o)

-- The faults of a definition: those of a subscription. Another definition has none, nor has a
-- subscription where the root is not known.
pub data IsSingleRootFault (facts : Facts) (d : Definition) : RootFault → Type 0 where
  of_subscription : {o : Operation} {root : List ℕ} {x : RootFault} → d.tree ≡ tree.Operation o
      → o.kind ≡ operation.Subscription
      → facts (key.RootOf operation.Subscription) ≡ fact.Root root
      → IsFault facts root d.file o x → IsSingleRootFault facts d x
