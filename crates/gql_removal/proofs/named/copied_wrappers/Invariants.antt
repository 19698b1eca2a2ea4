use Rattle.std.proofs.Common.{◌≡◌, take}
use Rattle.gql_removal.proofs.named.copied_wrappers.Given as goal

abbrev pub invariant-loop-wrapper : goal.invariant-loop-wrapper
invariant-loop-wrapper l = l.copies ≡ take l.wrapper-index l.wrappers
