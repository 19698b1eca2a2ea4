-- The definition of a fragment that files have is among their definitions.
use Rattle.std.proofs.Common.{◌≡◌, ℕ, List, [], Option, Some, None, Contains, bytes_eq, flat_map, ap, sym, subst, inl, inr}
use Rattle.gql_ast.specs.declared.definition.Document.{Document}
use Rattle.gql_ast.specs.declared.definition.Tree.{Tree}
use Rattle.gql_ast.specs.declared.definition.Tree.TheVariants as tree
use Rattle.gql_facts.specs.Facts.{answer, fact_in, fragment_in, fragment_named, fragments}
use Rattle.gql_facts.specs.ListMembers.{Contains-nil, Contains-cases, Contains-flat_map, Contains-flat_map_from, found_in}
use Rattle.gql_facts.specs.declared.fact.Fact.TheVariants as fact
use Rattle.gql_facts.specs.declared.fact.FragmentFact.{FragmentFact}
use Rattle.gql_types.specs.declared.schema.Schema.{Schema}
use Rattle.gql_usage.specs.Stored.{AreDefined, definition_of}
use Rattle.gql_verdict.specs.Definitions.{all_definitions}

one_of : (file : List ℕ) (t : Tree) (f : FragmentFact) → Contains (fragment_in (record { file = file; tree = t })) f → record { file = file; tree = t } ≡ definition_of f
one_of file (tree.Fragment g) f h = elim (Contains-cases f (record { file = file; fragment = g }) [] h) [ inl e ↦ ap definition_of (sym e) | inr i ↦ absurd (Contains-nil f i) ]
one_of file (tree.Operation x) f h = absurd (Contains-nil f h)
one_of file (tree.Schema x) f h = absurd (Contains-nil f h)
one_of file (tree.Type x) f h = absurd (Contains-nil f h)
one_of file (tree.Directive x) f h = absurd (Contains-nil f h)
one_of file (tree.SchemaExtension x) f h = absurd (Contains-nil f h)
one_of file (tree.TypeExtension x) f h = absurd (Contains-nil f h)

defined : (documents : List (List ℕ × Document)) (f : FragmentFact) → Contains (fragments documents) f → Contains (all_definitions documents) (definition_of f)
defined documents f h =
    let r = Contains-flat_map_from (λ (file : List ℕ × Document). flat_map fragment_in file.1.definitions) documents f h in
    let q = Contains-flat_map_from fragment_in r.0.1.definitions f r.2 in
    let e : q.0 ≡ definition_of f = one_of q.0.file q.0.tree f q.2 in
    Contains-flat_map (λ (file : List ℕ × Document). file.1.definitions) documents r.0 (definition_of f) r.1
    (subst (λ x. Contains r.0.1.definitions x) e q.1)

which : (o : Option FragmentFact) (f : FragmentFact) → answer fact.Fragment o ≡ fact.Fragment f → o ≡ Some f
which None f e = cc e
which (Some x) f e = cc e

-- each fragment that files answer is that of one of their definitions
pub are_defined : (s : Schema) (documents : List (List ℕ × Document)) → AreDefined (fact_in s documents) (all_definitions documents)
are_defined s documents n g e =
    defined documents g (found_in (λ (f : FragmentFact). bytes_eq n f.fragment.name.text) (fragments documents) g (which (fragment_named documents n) g e)).0
