use Rattle.std.proofs.Common.{length}
use Rattle.gql_command.proofs.profile.+take_option.Given as goal

abbrev pub decreases-take_option : goal.decreases-take_option
decreases-take_option l = length l.words.now
