use Rattle.std.proofs.Common.{◌++◌, List, map, take}
use Rattle.gql_ast.specs.declared.type_system.TypeDefinition.{TypeDefinition}
use Rattle.gql_built_in.specs.declared.sited.Sited.{Sited}
use Rattle.gql_types.specs.EditedTypes.{AreMade}
use Rattle.gql_types.specs.Sites.{site}
use Rattle.gql_types.proofs.edited_types.add_types.Given as goal

abbrev pub invariant-loop-definition : goal.invariant-loop-definition
invariant-loop-definition l = (sites : List (Sited TypeDefinition)) → AreMade l.initial.edit sites l.initial.list
    → AreMade l.initial.edit (sites ++ map site (take l.definition-index l.definitions)) l.list
