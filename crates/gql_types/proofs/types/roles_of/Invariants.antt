use Rattle.std.proofs.Common.{◌≡◌, map, take}
use Rattle.gql_types.specs.Roles.{role_of}
use Rattle.gql_types.proofs.types.roles_of.Given as goal

abbrev pub invariant-loop-of_type : goal.invariant-loop-of_type
invariant-loop-of_type l = l.roles.items ≡ map role_of (take l.of_type-index l.types)
