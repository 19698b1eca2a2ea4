-- What was found in a schema file by the rules on nodes, and what of the schema that depends on.
use Rattle.std.specs.Prelude.{◌≡◌, ◌++◌, ℕ, List, [], true, false, None, bytes_eq, flat_map, Contains}
use Rattle.std.specs.HashSet.{contains}
use Rattle.gql_ast.specs.declared.definition.Document.{Document}
use Rattle.gql_ast.specs.declared.fault.Fault.{Fault}
use Rattle.gql_ast.specs.declared.text.Name.{Name}
use Rattle.gql_built_in.specs.declared.sited.Sited.{Sited}
use Rattle.gql_types.specs.declared.schema.Schema.{Schema}
use Rattle.gql_node_rules.specs.Applied.{applied}
use Rattle.gql_node_rules.specs.FileDefinitions.{AreDefinitionsOf}
use Rattle.gql_node_rules.specs.FileFaults.{file_faults, nodes_of_file}
use Rattle.gql_node_rules.specs.Nodes.{AllNodes}
use Rattle.gql_node_rules.specs.References.{references}
use Rattle.gql_node_rules.specs.S36MisplacedAppends.{faults_of_definition, faults_of_extension}
use Rattle.gql_node_rules.specs.ValueTypes.{is_input_object, value_types}
use Rattle.gql_node_rules.specs.declared.directive_use.DirectiveUse.{DirectiveUse}
use Rattle.gql_node_rules.specs.declared.file_check.FileCheck.{FileCheck}

-- what the directives that these nodes apply ask of the schema
pub record IsUseBy (s : Schema) (n : AllNodes) (u : DirectiveUse) : Type 0 where
  -- no directive is applied, if it says so
  pub none : u.has_directives ≡ false → applied n ≡ []
  -- it has the name of the type of each value that they give
  pub values : (name : List ℕ) → Contains (value_types n s) name
      → contains bytes_eq u.values name ≡ true
  -- none of these is an input object, if it says so
  pub flat : u.has_input_objects ≡ false → (name : List ℕ) → Contains (value_types n s) name
      → is_input_object s name ≡ false

-- the faults by S36 of these nodes if there is no mutation root type
abbrev pub appends : AllNodes → List Fault
appends n = flat_map (faults_of_definition None) n.types
    ++ flat_map (faults_of_extension None) n.type_extensions

-- what was found in this file by this schema, and what that depends on
pub record IsCheckOf (s : Schema) (d : Document) (c : FileCheck) : Type 0 where
  -- it has the faults that the file has by itself
  pub faults : c.faults.items ≡ file_faults (nodes_of_file d) s
  -- it has the name of each type that the file refers to
  pub types : (n : Sited Name) → Contains (references (nodes_of_file d)) n
      → contains bytes_eq c.types n.node.text ≡ true
  -- it has what the file's directives ask
  pub directives : IsUseBy s (nodes_of_file d) c.directives
  -- the file has no `@append` on a field, if it says so
  pub none_appends : c.has_appends ≡ false → appends (nodes_of_file d) ≡ []
  -- it has what the file's definitions give to the rules for all files together
  pub definitions : AreDefinitionsOf d c.definitions
