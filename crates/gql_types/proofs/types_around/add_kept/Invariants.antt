use Rattle.std.proofs.Common.{◌++◌, ◌-◌, ◌≤◌, List, drop, map, take}
use Rattle.gql_ast.specs.declared.type_system.TypeDefinition.{TypeDefinition}
use Rattle.gql_built_in.specs.declared.sited.Sited.{Sited}
use Rattle.gql_types.specs.EditedTypes.{AreMade, definition_of}
use Rattle.gql_types.proofs.types_around.add_kept.Given as goal

abbrev pub invariant-loop-place : goal.invariant-loop-place
invariant-loop-place l = (l.from ≤ l.place) × ((sites : List (Sited TypeDefinition)) → AreMade l.initial.edit sites l.initial.list
    → AreMade l.initial.edit (sites ++ map definition_of (take (l.place - l.from) (drop l.from l.edit.schema.now.types))) l.list)
