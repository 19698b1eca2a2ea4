-- Where no fragment that an operation reaches has a fault, it leads to no fragment that leads back
-- to itself.
use Rattle.std.proofs.Common.{◌≡◌, ℕ, List, [], Option, Some, None, Contains, bytes_eq, flat_map, refl, ap, sym, subst, inl, inr}
use Rattle.gql_ast.specs.declared.definition.Definition.{Definition}
use Rattle.gql_ast.specs.declared.definition.Document.{Document}
use Rattle.gql_ast.specs.declared.definition.Tree.{Tree}
use Rattle.gql_ast.specs.declared.definition.Tree.TheVariants as tree
use Rattle.gql_ast.specs.declared.executable.Operation.{Operation}
use Rattle.gql_ast.specs.declared.executable.Selection.{Selection}
use Rattle.gql_ast.specs.declared.files.Files.{Files}
use Rattle.gql_collect.specs.Spreads.{LeadsTo, spread, further, NoCycles, selections_in, spreads_of}
use Rattle.gql_collect.specs.Unfolding.{Given, fragment_named}
use Rattle.gql_facts.specs.Facts.{answer, fact_of, fragment_in, fragments}
use Rattle.gql_facts.specs.Floats.{float_read}
use Rattle.gql_facts.specs.ListMembers.{Contains-nil, Contains-there, Contains-cases, Contains-flat_map, Contains-flat_map_from, found_in}
use Rattle.gql_facts.specs.OwnReads.{fragment_reads, operation_reads, own_reads, tree_reads}
use Rattle.gql_facts.specs.Reads.{Reaches, by_definition, by_fragment}
use Rattle.gql_facts.specs.declared.fact.Fact.TheVariants as fact
use Rattle.gql_facts.specs.declared.fact.FragmentFact.{FragmentFact}
use Rattle.gql_facts.specs.declared.key.Key.TheVariants as key
use Rattle.gql_rules.specs.LocalFaults.{of_cycle, owner_of}
use Rattle.gql_rules.specs.V16FragmentSpreadsMustNotFormCycles as v16
use Rattle.gql_serving.specs.Laws.{HasNoFault}
use Rattle.gql_serving.specs.Owned as owned
use Rattle.gql_serving.specs.Owned.{definition_of}
use Rattle.gql_types.specs.Schemas.{schema_of}
use Rattle.gql_verdict.specs.Definitions.{all_definitions}
use Rattle.gql_verdict.specs.Faults as faults
use Rattle.serde_json.specs.Data.{Data}
use Rattle.gql_serving.proofs.Spreading.{fragment_asks, operation_asks}

-- ---- the definition of a fragment is among the definitions

one_of : (file : List ℕ) (t : Tree) (f : FragmentFact)
    → Contains (fragment_in (record { file = file; tree = t })) f
    → record { file = file; tree = t } ≡ definition_of f
one_of file (tree.Fragment g) f h =
    elim (Contains-cases f (record { file = file; fragment = g }) [] h) [
      | inl e ↦ ap definition_of (sym e)
      | inr i ↦ absurd (Contains-nil f i)
    ]
one_of file (tree.Operation x) f h = absurd (Contains-nil f h)
one_of file (tree.Schema x) f h = absurd (Contains-nil f h)
one_of file (tree.Type x) f h = absurd (Contains-nil f h)
one_of file (tree.Directive x) f h = absurd (Contains-nil f h)
one_of file (tree.SchemaExtension x) f h = absurd (Contains-nil f h)
one_of file (tree.TypeExtension x) f h = absurd (Contains-nil f h)

defined : (documents : List (List ℕ × Document)) (f : FragmentFact) → Contains (fragments documents) f
    → Contains (all_definitions documents) (definition_of f)
defined documents f h =
    let r = Contains-flat_map_from (λ (file : List ℕ × Document). flat_map fragment_in file.1.definitions) documents f h in
    let q = Contains-flat_map_from fragment_in r.0.1.definitions f r.2 in
    let e : q.0 ≡ definition_of f = one_of q.0.file q.0.tree f q.2 in
    Contains-flat_map (λ (file : List ℕ × Document). file.1.definitions) documents r.0 (definition_of f) r.1
    (subst (λ x. Contains r.0.1.definitions x) e q.1)

-- ---- what selections lead to is reached

module _ (files : Files) (values : Data) where
  abbrev given : Given
  given = record { schema = schema_of files; fragments = fragments files.documents; values = values }

  -- the fact of a fragment that is found
  known : (n : List ℕ) (f : FragmentFact) → fragment_named given n ≡ Some f
      → fact_of files (key.FragmentOf n) ≡ fact.Fragment f
  known n f e = ap (answer fact.Fragment) e

  -- no selections lead to nothing
  nowhere : (n : List ℕ) → LeadsTo given [] n → ⊥
  nowhere n (spread h) = Contains-nil n h
  nowhere n (further {m} l h) = nowhere m l

  -- a definition asks for what these selections spread
  abbrev Asks : Definition → List Selection → Type 0
  Asks x xs = (n : List ℕ) → Contains (spreads_of xs) n
      → Contains (own_reads (fact_of files) x) (key.FragmentOf n)

  reached : (x : Definition) (xs : List Selection) → Asks x xs → (n : List ℕ) (f : FragmentFact)
      → LeadsTo given xs n → fragment_named given n ≡ Some f → Reaches (fact_of files) x f
  reached x xs asks n f (spread h) e = by_definition (asks n h) (known n f e)
  reached x xs asks n f (further {m} l h) e = by (λ g is. reached x xs asks m g l is) (fragment_named given m) refl h where
    by : ((g : FragmentFact) → fragment_named given m ≡ Some g → Reaches (fact_of files) x g)
        → (o : Option FragmentFact) → fragment_named given m ≡ o → Contains (spreads_of (selections_in o)) n
        → Reaches (fact_of files) x f
    by earlier None is h = absurd (Contains-nil n h)
    by earlier (Some g) is h =
        by_fragment (earlier g is) (fragment_asks (fact_of files) g.fragment n h) (known n f e)

  -- the definition of a fragment asks for what the fragment spreads
  definition_asks : (f : FragmentFact) → Asks (definition_of f) f.fragment.selections
  definition_asks f n h = Contains-there (key.FragmentOf n) float_read (fragment_reads (fact_of files) f.fragment) (fragment_asks (fact_of files) f.fragment n h)

  -- ---- no cycles

  module _ (d : Definition) (operation : Operation) (is : d.tree ≡ tree.Operation operation) (clean : HasNoFault files d) where
    own_asks : Asks d operation.selections
    own_asks n h = subst (λ t. Contains (tree_reads (fact_of files) t) (key.FragmentOf n)) (sym is)
        (Contains-there (key.FragmentOf n) float_read (operation_reads (fact_of files) operation) (operation_asks (fact_of files) operation n h))

    pub acyclic : NoCycles given operation.selections
    acyclic n l back = by (fragment_named given n) refl back where
      by : (o : Option FragmentFact) → fragment_named given n ≡ o → LeadsTo given (selections_in o) n → ⊥
      by None e back = nowhere n back
      by (Some f) e back =
          let x = definition_of f in
          let there = (found_in (λ (g : FragmentFact). bytes_eq n g.fragment.name.text) (fragments files.documents) f e).0 in
          let cyclic : v16.IsCyclic (fact_of files) x f.fragment =
          reached x f.fragment.selections (definition_asks f) n f back e in
          clean x (v16.fault (owner_of x) f.fragment) (defined files.documents f there)
          (faults.by_definition (of_cycle refl cyclic))
          (owned.by_fragment (reached d operation.selections own_asks n f l e) refl)
