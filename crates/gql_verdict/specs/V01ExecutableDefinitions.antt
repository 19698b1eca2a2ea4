-- V01, Executable Definitions: a document file has a definition of the type system (GraphQL 5.1.1).
-- Reported at the start of the definition, its description included, about its name; a schema
-- definition or extension has none, and the text is empty.
use Rattle.std.specs.Prelude.{ℕ, List, [], ◌∷◌, flat_map, Option, Some, None}
use Rattle.gql_ast.specs.Trees.{place_of}
use Rattle.gql_ast.specs.declared.definition.Definition.{Definition}
use Rattle.gql_ast.specs.declared.definition.Tree.{Tree}
use Rattle.gql_ast.specs.declared.definition.Tree.TheVariants as tree
use Rattle.gql_ast.specs.declared.fault.Fault.{Fault}
use Rattle.gql_ast.specs.declared.rule.Rule.TheVariants as rule
use Rattle.gql_faults.specs.Faults.{where_known}
use Rattle.gql_rules.specs.Faults.{fault_at}
use Rattle.gql_rules.specs.LocalFaults.{owner_of}

-- the name of a definition or an extension of the type system, or an empty text; none for an
-- operation or a fragment
abbrev pub type_system_name : Tree → Option (List ℕ)
type_system_name (tree.Operation o) = None
type_system_name (tree.Fragment f) = None
type_system_name (tree.Schema s) = Some []
type_system_name (tree.Type t) = Some t.name.text
type_system_name (tree.Directive d) = Some d.name.text
type_system_name (tree.SchemaExtension s) = Some []
type_system_name (tree.TypeExtension t) = Some t.name.text

-- the fault of a definition
abbrev pub fault_of_definition : Definition → List Fault
fault_of_definition d = where_known (type_system_name d.tree) (λ (about : List ℕ).
    fault_at (owner_of d) rule.V01 about (place_of d.tree) ∷ [])

-- the faults of all definitions
abbrev pub faults : List Definition → List Fault
faults = flat_map fault_of_definition
