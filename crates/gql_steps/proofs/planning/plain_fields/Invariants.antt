use Rattle.std.proofs.Common.{take}
use Rattle.gql_collect.specs.Alone.{groups_alone}
use Rattle.gql_collect.specs.Nodes.{in_file}
use Rattle.gql_steps.specs.Objects.{basis}
use Rattle.gql_steps.specs.Tables.{Planning}
use Rattle.gql_steps.proofs.planning.plain_fields.Given as goal

abbrev pub invariant-loop-selection : goal.invariant-loop-selection
invariant-loop-selection l = Planning (basis l.setting) l.of_type (groups_alone (in_file l.set.file.now (take l.selection-index l.selection-items))) l.fields.items
