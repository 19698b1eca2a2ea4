-- Helper definitions for private contracts: the faults of pairs of numbers, as lists.
use Rattle.std.specs.Prelude.{List, [], ◌∷◌, ◌++◌, Bool, ◌&&◌, ◌||◌, not, bytes_eq, Option, Some, None, if◌then◌else◌}
use Rattle.std.specs.List.{slice_get}
use Rattle.gql_ast.specs.declared.fault.Fault.{Fault}
use Rattle.gql_ast.specs.declared.fault.FilePlace.{FilePlace}
use Rattle.gql_ast.specs.declared.rule.Rule.{Rule}
use Rattle.gql_ast.specs.declared.rule.Rule.TheVariants as rule
use Rattle.gql_clashes.specs.Clashes.{is_merge}
use Rattle.gql_clashes.specs.declared.sets.Mode.{Mode}
use Rattle.gql_clashes.specs.declared.sets.Pair.{Pair}
use Rattle.gql_merge.specs.Conflicts.{fault_of_pair}
use Rattle.gql_merge.specs.FieldNodes.{FieldInfo}
use Rattle.gql_merge.specs.Known.{info_in}
use Rattle.gql_merge.specs.MergedNodes.{is_before}
use Rattle.gql_merge.specs.declared.flat.FlatField.{FlatField}

-- whether the shapes of the types of two fields differ
abbrev pub differ_in_shape : FieldInfo → FieldInfo → Bool
differ_in_shape i j = not (bytes_eq i.shape j.shape)

-- whether two fields whose results are merged differ in name or arguments
abbrev pub differ_in_call : Mode → FieldInfo → FieldInfo → Bool
differ_in_call m i j = is_merge m
    && (bytes_eq i.parent j.parent || not i.of_object || not j.of_object)
    && not (bytes_eq i.call j.call)

-- the fault of two fields, in their order
abbrev pub ordered_fault : FilePlace → Rule → FieldInfo → FieldInfo → Fault
ordered_fault owner rule i j = if is_before i j
    then fault_of_pair owner rule i j
    else fault_of_pair owner rule j i

-- V05 of two fields
abbrev pub call_faults : FilePlace → Mode → FieldInfo → FieldInfo → List Fault
call_faults owner m i j =
    if differ_in_call m i j then ordered_fault owner rule.V05 i j ∷ [] else []

-- V06 of two fields
abbrev pub shape_faults : FilePlace → FieldInfo → FieldInfo → List Fault
shape_faults owner i j =
    if differ_in_shape i j then ordered_fault owner rule.V06 i j ∷ [] else []

-- the faults of two fields by both rules
abbrev pub faults_of : FilePlace → Mode → FieldInfo → FieldInfo → List Fault
faults_of owner m i j = call_faults owner m i j ++ shape_faults owner i j

-- the faults of two fields, if both are there
abbrev pub faults_if : FilePlace → Mode → Option FlatField → Option FlatField → List Fault
faults_if owner m None y = []
faults_if owner m (Some x) None = []
faults_if owner m (Some x) (Some y) = faults_of owner m (info_in x.known) (info_in y.known)

-- the faults of the two fields that a pair of numbers refers to
abbrev pub pair_faults : FilePlace → List FlatField → Pair → List Fault
pair_faults owner all p = faults_if owner p.mode (slice_get all p.first) (slice_get all p.second)
