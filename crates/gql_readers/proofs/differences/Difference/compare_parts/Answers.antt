use Rattle.std.proofs.Common.{◌≡◌, ◌∙◌, ◌++◌, ◌+◌, List, ap, subst, take}
use Rattle.gql_reads.specs.declared.observation.Answer.{Answer}
use Rattle.gql_readers.specs.Replacements.{AreCompared, seen_of_all}
use Rattle.gql_readers.proofs.Replacing.{more_seen_parts}
use Rattle.gql_readers.proofs.differences.Difference.compare_parts.Goals as goal

pub loop-i-preserved : goal.loop-i-preserved
loop-i-preserved c = λ olds news are.
    let i = c.loop-i.i in
    let now = c.compare.new.self in
    let xs = olds ++ seen_of_all (take i c.args.before.now) in
    let ys = news ++ seen_of_all (take i c.args.after.now) in
    let before : xs ++ c.answers_at.result.now ≡ olds ++ seen_of_all (take (i + 1) c.args.before.now) = ap (λ zs. xs ++ zs) c.answers_at.ensures ∙ more_seen_parts olds c.args.before.now i in
    let after : ys ++ c.answers_at-in-loop-i.result.now ≡ news ++ seen_of_all (take (i + 1) c.args.after.now) = ap (λ zs. ys ++ zs) c.answers_at-in-loop-i.ensures ∙ more_seen_parts news c.args.after.now i in
    subst (λ (os : List Answer). AreCompared now.went.items now.came.items now.lost.keys os (news ++ seen_of_all (take (i + 1) c.args.after.now))) before
    (subst (λ (os : List Answer). AreCompared now.went.items now.came.items now.lost.keys (xs ++ c.answers_at.result.now) os) after
    (c.in_ok-compare.ensures xs ys (c.loop-i.invariant olds news are)))
