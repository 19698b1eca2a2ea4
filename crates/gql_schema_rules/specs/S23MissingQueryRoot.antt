-- S23, Missing Query Root: the schema has no query root operation type (GraphQL 3.3.1).
-- Reported without a place, about `query`.
use Rattle.std.specs.Prelude.{List, [], ◌∷◌, codes, is_some, if◌then◌else◌}
use Rattle.gql_ast.specs.declared.executable.OperationKind.TheVariants.{Query}
use Rattle.gql_ast.specs.declared.fault.Fault.{Fault}
use Rattle.gql_ast.specs.declared.rule.Rule.TheVariants as rule
use Rattle.gql_faults.specs.Faults.{fault}
use Rattle.gql_types.specs.Schemas.{root_of}
use Rattle.gql_types.specs.declared.schema.Schema.{Schema}

-- the fault of a schema without a query root
abbrev pub missing_query_root : Fault
missing_query_root = fault rule.S23 (codes "query") []

-- the faults by S23
abbrev pub faults : Schema → List Fault
faults s = if is_some (root_of s Query) then [] else missing_query_root ∷ []
