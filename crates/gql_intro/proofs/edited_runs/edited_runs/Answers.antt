use Rattle.std.proofs.Common.{◌≡◌, ◌∙◌, ◌++◌, ◌+◌, ◌-◌, ◌≤◌, Contains, ap, drop, filter, length, rules, subst, sym, take}
use Rattle.gql_types.specs.Possible.{in_order}
use Rattle.gql_intro.specs.EditedNames.{is_kept}
use Rattle.gql_intro.specs.Runs.{names_of}
use Rattle.gql_intro.specs.SortedNames.{AreSorted}
use Rattle.gql_intro.proofs.Sorting.{drop_sorted, first_sorted}
use Rattle.gql_intro.proofs.Walking.{gone_here, gone_later, in_turn, whole_at_end, whole_later}
use Rattle.gql_intro.proofs.edited_runs.edited_runs.Goals as goal

pub count_in-requires-clause-runs : goal.count_in-requires-clause-runs
count_in-requires-clause-runs c = in_turn c.args.runs.now c.loop-i.i c.index-runs-i.result c.loop-i-test.true c.index-runs-i.is c.requires.runs

pub count_in-requires-in-loop-i-clause-runs : goal.count_in-requires-in-loop-i-clause-runs
count_in-requires-in-loop-i-clause-runs c = in_turn c.args.runs.now c.loop-i.i c.index-runs-i.result c.loop-i-test.true c.index-runs-i.is c.requires.runs

pub add_run-requires-clause-run : goal.add_run-requires-clause-run
add_run-requires-clause-run c = first_sorted c.index-runs-i.result.names (names_of (take (length c.args.runs.now - (c.loop-i.i + 1)) (drop (c.loop-i.i + 1) c.args.runs.now)))
    (in_turn c.args.runs.now c.loop-i.i c.index-runs-i.result c.loop-i-test.true c.index-runs-i.is c.requires.runs)

pub add_run-requires-clause-went : goal.add_run-requires-clause-went
add_run-requires-clause-went c =
    let front : c.split_at.result.0.now ≡ take c.count_in.result c.loop-i.went.now = search rules in
    λ n a b. subst (λ l. Contains l n) (sym front) (gone_here c.args.runs.now c.loop-i.i c.index-runs-i.result c.loop-i-test.true c.index-runs-i.is
    c.loop-i.went.now c.args.gone.now c.count_in.result c.loop-i.invariant.gone c.count_in.ensures.later n a b)

pub loop-i-preserved : goal.loop-i-preserved
loop-i-preserved c =
    let runs = c.args.runs.now in
    let i = c.loop-i.i in
    let p = is_kept c.args.gone.now in
    let came = c.loop-i.came.now in
    let k = c.count_in-in-loop-i.result in
    let back : c.split_at.result.1.now ≡ drop c.count_in.result c.loop-i.went.now = search rules in
    let came_front : c.split_at-in-loop-i.result.0.now ≡ take k came = search rules in
    let came_back : c.split_at-in-loop-i.result.1.now ≡ drop k came = search rules in
    let made : c.add_run.new.made ≡ c.loop-i.made ++ in_order (filter p c.index-runs-i.result.names ++ c.split_at-in-loop-i.result.0.now) = search rules in
    let next = whole_later runs i c.index-runs-i.result c.loop-i-test.true c.index-runs-i.is p came c.loop-i.made
    (in_order (filter p (names_of runs) ++ c.args.came.now)) k c.requires.runs c.loop-i.invariant.came
    c.count_in-in-loop-i.ensures.taken c.count_in-in-loop-i.ensures.later c.loop-i.invariant.whole in
    record {
      whole = next
          ∙ ap (λ l. (c.loop-i.made ++ in_order (filter p c.index-runs-i.result.names ++ l)) ++ in_order (filter p (names_of (drop (i + 1) runs)) ++ drop k came)) (sym came_front)
          ∙ ap (λ l. l ++ in_order (filter p (names_of (drop (i + 1) runs)) ++ drop k came)) (sym made)
          ∙ ap (λ l. c.add_run.new.made ++ in_order (filter p (names_of (drop (i + 1) runs)) ++ l)) (sym came_back);
      went = subst AreSorted (sym back) (drop_sorted c.count_in.result c.loop-i.went.now c.loop-i.invariant.went);
      came = subst AreSorted (sym came_back) (drop_sorted k came c.loop-i.invariant.came);
      gone = λ n a b. subst (λ l. Contains l n) (sym back) (gone_later runs i c.index-runs-i.result c.loop-i-test.true c.index-runs-i.is
          c.loop-i.went.now c.args.gone.now c.count_in.result c.loop-i.invariant.gone c.count_in.ensures.taken n a b);
    }

pub returns : goal.returns
returns c =
    let p = is_kept c.args.gone.now in
    let made : c.add_sorted.new.made ≡ c.loop-i.made ++ c.loop-i.came.now = search rules in
    let end : length c.args.runs.now ≤ c.loop-i.i = search rules in
    made ∙ whole_at_end p c.args.runs.now c.loop-i.came.now c.loop-i.made (in_order (filter p (names_of c.args.runs.now) ++ c.args.came.now)) c.loop-i.i end
    c.loop-i.invariant.came c.loop-i.invariant.whole
