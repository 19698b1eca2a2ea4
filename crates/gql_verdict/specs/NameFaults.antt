-- The faults of names over all document files (GraphQL 5.1.1, 5.2.1.1, 5.2.2.1, 5.5.1.1, 5.5.1.4).
use Rattle.std.specs.Prelude.{List, ◌++◌}
use Rattle.gql_ast.specs.declared.definition.Definition.{Definition}
use Rattle.gql_ast.specs.declared.fault.Fault.{Fault}
use Rattle.gql_ast.specs.declared.files.Files.{Files}
use Rattle.gql_verdict.specs.Definitions.{all_definitions}
use Rattle.gql_verdict.specs.V01ExecutableDefinitions as v01
use Rattle.gql_verdict.specs.V02OperationNameUniqueness as v02
use Rattle.gql_verdict.specs.V03LoneAnonymousOperation as v03
use Rattle.gql_verdict.specs.V11FragmentNameUniqueness as v11
use Rattle.gql_verdict.specs.V14FragmentsMustBeUsed as v14

-- the faults of these definitions
abbrev pub faults_of : List Definition → List Fault
faults_of ds = v01.faults ds
    ++ (v02.faults ds ++ (v03.faults ds ++ (v11.faults ds ++ v14.faults ds)))

-- the faults of the definitions of all document files
abbrev pub name_faults : Files → List Fault
name_faults files = faults_of (all_definitions files.documents)
