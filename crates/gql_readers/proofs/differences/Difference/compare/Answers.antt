use Rattle.std.proofs.Common.{◌++◌, ◌+◌, List, subst, take}
use Rattle.std.specs.Prelude.{slice_get}
use Rattle.gql_reads.specs.declared.observation.Answer.{Answer}
use Rattle.gql_readers.specs.Replacements.{AreCompared, listed}
use Rattle.gql_readers.proofs.Replacing.{more_answers}
use Rattle.gql_readers.proofs.differences.Difference.compare.Goals as goal

pub loop-i-preserved : goal.loop-i-preserved
loop-i-preserved c = λ olds news are.
    let i = c.loop-i.i in
    let now = c.compare_at.new.self in
    let xs = c.args.before.now in
    let ys = c.args.after.now in
    subst (λ (os : List Answer). AreCompared now.went.items now.came.items now.lost.keys os (news ++ take (i + 1) ys)) (more_answers olds xs i)
    (subst (λ (os : List Answer). AreCompared now.went.items now.came.items now.lost.keys ((olds ++ take i xs) ++ listed (slice_get xs i)) os) (more_answers news ys i)
    (c.in_ok-compare_at.ensures (olds ++ take i xs) (news ++ take i ys) (c.loop-i.invariant olds news are)))
