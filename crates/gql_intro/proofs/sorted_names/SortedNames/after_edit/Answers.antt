use Rattle.std.proofs.Common.{◌≡◌, ◌∙◌, ◌++◌, Contains, ap, filter, rules, subst, sym}
use Rattle.gql_types.specs.Possible.{in_order}
use Rattle.gql_intro.specs.EditedNames.{is_kept}
use Rattle.gql_intro.specs.Made.{is_shown}
use Rattle.gql_intro.specs.Runs.{names_of}
use Rattle.gql_intro.specs.SortedNames.{AreSorted}
use Rattle.gql_intro.proofs.InOrder.{sorted_in_order, to_order}
use Rattle.gql_intro.proofs.Sorting.{order_within}
use Rattle.gql_intro.proofs.sorted_names.SortedNames.after_edit.Goals as goal

pub edited_runs-requires-clause-went : goal.edited_runs-requires-clause-went
edited_runs-requires-clause-went c =
    let is : c.as_slice-2.result.now ≡ in_order c.args.gone.now = search rules in
    subst AreSorted (sym is) (sorted_in_order c.args.gone.now)

pub edited_runs-requires-clause-came : goal.edited_runs-requires-clause-came
edited_runs-requires-clause-came c =
    let shown = filter (is_shown c.args.has_int c.args.has_id c.args.has_float) c.args.came.now in
    let is : c.as_slice-3.result.now ≡ in_order shown = search rules in
    subst AreSorted (sym is) (sorted_in_order shown)

pub edited_runs-requires-clause-gone : goal.edited_runs-requires-clause-gone
edited_runs-requires-clause-gone c =
    let is : c.as_slice-2.result.now ≡ in_order c.args.gone.now = search rules in
    λ n h. subst (λ l. Contains l n) (sym is) (to_order c.args.gone.now n h)

pub invariant_of-result : goal.invariant_of-result
invariant_of-result c =
    let names = filter (is_kept c.args.gone.now) (names_of c.runs-runs.result.now) ++ c.as_slice-3.result.now in
    let is : c.in_ok-runs.runs ≡ in_order names = search rules in
    subst AreSorted (sym is) (sorted_in_order names)

pub returns : goal.returns
returns c =
    let kept = filter (is_kept c.args.gone.now) (names_of c.runs-runs.result.now) in
    let shown = filter (is_shown c.args.has_int c.args.has_id c.args.has_float) c.args.came.now in
    let is : c.in_ok-runs.runs ≡ in_order (kept ++ c.as_slice-3.result.now) = search rules in
    let came : c.as_slice-3.result.now ≡ in_order shown = search rules in
    let names : names_of c.runs-runs.result.now ≡ c.args.self.now = search rules in
    is ∙ ap (λ l. in_order (kept ++ l)) came ∙ order_within kept shown
    ∙ ap (λ l. in_order (filter (is_kept c.args.gone.now) l ++ shown)) names
