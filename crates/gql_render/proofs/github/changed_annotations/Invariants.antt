use Rattle.std.proofs.Common.{◌≤◌, length}
use Rattle.gql_render.proofs.github.changed_annotations.Given as goal

abbrev pub invariant-loop-changed : goal.invariant-loop-changed
invariant-loop-changed l = length l.annotations.items ≤ 5
