use Rattle.std.proofs.Common.{take}
use Rattle.gql_verdict.specs.SchemaEdits.{AreMoved}
use Rattle.gql_verdict.proofs.schema_edit.moved_types.Given as goal

abbrev pub invariant-loop-place : goal.invariant-loop-place
invariant-loop-place l = AreMoved l.before (take l.place l.after.types) l.names.items
