use Rattle.std.proofs.Common.{length}
use Rattle.tables_text.proofs.streams.Stream.feed.Given as goal

abbrev pub decreases-loop-rest : goal.decreases-loop-rest
decreases-loop-rest l = length l.rest
