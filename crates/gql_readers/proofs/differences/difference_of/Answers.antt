use Rattle.std.proofs.Common.{◌≡◌, ◌++◌, [], List, rules, subst, sym}
use Rattle.gql_reads.specs.Readings.{answers_in}
use Rattle.gql_reads.specs.declared.observation.Answer.{Answer}
use Rattle.gql_readers.specs.Replacements.{AreCompared, IsReplacement, seen_of_all}
use Rattle.gql_readers.proofs.Replacing.{replaced}
use Rattle.gql_readers.proofs.differences.difference_of.Goals as goal

pub returns : goal.returns
returns c =
    let before = c.args.before.now in
    let after = c.args.after.now in
    let one = c.compare.new.self in
    let two = c.compare_parts.new.self in
    let last = c.find_all_lost.new.self in
    let own_before : c.answers.result.now ≡ before.own.record = search rules in
    let own_after : c.answers-2.result.now ≡ after.own.record = search rules in
    let parts_before : c.as_slice.result.now ≡ before.parts.items = c.as_slice.ensures.value in
    let parts_after : c.as_slice-2.result.now ≡ after.parts.items = c.as_slice-2.ensures.value in
    let own : AreCompared one.went.items one.came.items one.lost.keys before.own.record after.own.record =
    subst (λ (os : List Answer). AreCompared one.went.items one.came.items one.lost.keys os after.own.record) own_before
    (subst (λ (os : List Answer). AreCompared one.went.items one.came.items one.lost.keys c.answers.result.now os) own_after
    (c.in_ok-compare.ensures [] [] c.new-difference.ensures)) in
    let all : AreCompared two.went.items two.came.items two.lost.keys (answers_in before) (answers_in after) =
    subst (λ ps. AreCompared two.went.items two.came.items two.lost.keys (before.own.record ++ seen_of_all ps) (answers_in after)) parts_before
    (subst (λ ps. AreCompared two.went.items two.came.items two.lost.keys (before.own.record ++ seen_of_all c.as_slice.result.now) (after.own.record ++ seen_of_all ps)) parts_after
    (c.in_ok-compare_parts.ensures before.own.record after.own.record own)) in
    subst (λ (os : List Answer). IsReplacement (answers_in before) os last.came.items (answers_in after)) (sym c.in_ok-find_all_lost.ensures.went)
    (subst (λ (os : List Answer). IsReplacement (answers_in before) two.went.items os (answers_in after)) (sym c.in_ok-find_all_lost.ensures.came)
    (replaced two.went.items two.came.items two.lost.keys (answers_in before) (answers_in after) all))
