use Rattle.std.proofs.Common.{length}
use Rattle.gql_faults.proofs.names.+is_there.Given as goal

abbrev pub decreases-is_there : goal.decreases-is_there
decreases-is_there l = length l.names.now
