use Rattle.std.proofs.Common.{◌++◌, List, take}
use Rattle.gql_reads.specs.declared.observation.Answer.{Answer}
use Rattle.gql_readers.specs.Replacements.{AreCompared}
use Rattle.gql_readers.proofs.differences.Difference.compare.Given as goal

abbrev pub invariant-loop-i : goal.invariant-loop-i
invariant-loop-i l = (olds news : List Answer) → AreCompared l.fn.self.went.items l.fn.self.came.items l.fn.self.lost.keys olds news
    → AreCompared l.self.went.items l.self.came.items l.self.lost.keys (olds ++ take l.i l.before) (news ++ take l.i l.after)
