-- The laws of schemas without faults. `src/laws.rt` has a function for each.
use Rattle.std.specs.Prelude.{ℕ, List}
use Rattle.gql_ast.specs.declared.fault.Fault.{Fault}
use Rattle.gql_ast.specs.declared.files.Files.{Files}
use Rattle.gql_coerce.specs.Defaults.{HasNoCycle}
use Rattle.gql_intro.specs.AnswerTypes.{HasField}
use Rattle.gql_intro.specs.InFiles.{IsIntrospectable}
use Rattle.gql_intro.specs.Introspection.{Given}
use Rattle.gql_intro.specs.Laws.{IsAnswered}
use Rattle.gql_intro.specs.Nodes.{Node}
use Rattle.gql_intro.specs.SchemaNodes.{IsNodeOf}
use Rattle.gql_schema_rules.specs.SchemaFaults.{IsSchemaFault}
use Rattle.gql_types.specs.Schemas.{schema_of}
use Rattle.gql_types.specs.Written.{Written}

-- the schema of the schema files has no fault
abbrev pub IsSound : Files → Type 0
IsSound files = (f : Fault) → IsSchemaFault files f → ⊥

-- in a schema without faults, no default value leads back to itself
abbrev pub NoDefaultCycles : Type 0
NoDefaultCycles = (files : Files) → IsSound files → HasNoCycle (schema_of files)

-- schema files without faults have what introspection needs
abbrev pub ServesIntrospection : Type 0
ServesIntrospection = (files : Files) → IsSound files → IsIntrospectable files

-- in a schema without faults, each field of a node resolves to an answer of the field's type
abbrev pub AnswersHaveTheirTypes : Type 0
AnswersHaveTheirTypes = (files : Files) (given : Given) (n : Node) (name : List ℕ) (t : Written)
    → IsSound files → IsNodeOf (schema_of files) n → HasField (schema_of files) n name t
    → IsAnswered files given n name t
