use Rattle.std.proofs.Common.{◌+◌, ◌-◌, ◌/◌, ◌<◌, ◌≤◌, length, rules, subst}
use Rattle.gql_intro.proofs.Counting.{ends_at}
use Rattle.gql_intro.proofs.runs.run_of.Goals as goal

pub search-preserved-then-runs-middle : goal.search-preserved-then-runs-middle
search-preserved-then-runs-middle c =
    let inside : c.search.low + (c.search.high - c.search.low) / 2 < length c.args.runs.now = search rules in
    let end = ends_at c.args.runs.now (c.search.low + (c.search.high - c.search.low) / 2) c.index-runs-middle.result c.requires inside c.index-runs-middle.is in
    let low : c.index-runs-middle.result.end ≤ c.args.index = search rules in
    record {
      ordered = search rules;
      few = c.search.invariant.few;
      before = subst (λ n. n ≤ c.args.index) end low;
      within = c.search.invariant.within;
    }

pub search-preserved : goal.search-preserved
search-preserved c =
    let inside : c.search.low + (c.search.high - c.search.low) / 2 < length c.args.runs.now = search rules in
    let end = ends_at c.args.runs.now (c.search.low + (c.search.high - c.search.low) / 2) c.index-runs-middle.result c.requires inside c.index-runs-middle.is in
    let before : c.args.index < c.index-runs-middle.result.end = search rules in
    record {
      ordered = search rules;
      few = search rules;
      before = c.search.invariant.before;
      within = λ _. subst (λ n. c.args.index < n) end before;
    }
