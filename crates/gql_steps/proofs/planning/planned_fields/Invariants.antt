use Rattle.std.proofs.Common.{◌≡◌, ◌++◌, List}
use Rattle.gql_collect.specs.BorrowedGroups.{groups_in}
use Rattle.gql_steps.specs.Objects.{basis}
use Rattle.gql_collect.specs.Groups.{Group}
use Rattle.gql_steps.specs.Tables.{Planning}
use Rattle.gql_steps.proofs.planning.planned_fields.Given as goal

abbrev pub invariant-loop-name : goal.invariant-loop-name
invariant-loop-name l = (done : List Group) × (groups_in l.initial.name-iterator ≡ done ++ groups_in l.name-iterator)
    × Planning (basis l.setting) l.of_type done l.fields.items
