use Rattle.std.proofs.Common.{◌≡◌, reverse}
use Rattle.serde_json.specs.View.{view}
use Rattle.gql_coerce.specs.Copies.{within_frames, copied_by}
use Rattle.gql_coerce.proofs.copies.copy_of.Given as goal

abbrev pub invariant-steps : goal.invariant-steps
invariant-steps l = view l.value ≡ within_frames (reverse l.stack.items) (copied_by l.step)
