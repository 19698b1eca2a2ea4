use Rattle.std.proofs.Common.{◌≡◌, ℕ, ◌∙◌, ap, subst, map, filter, rules}
use Rattle.std.specs.Prelude.{if◌then◌else◌, nat_eq, IsPermutation}
use Rattle.std.specs.HashSet.{contains}
use Rattle.std.proofs.lemmas.Fn.{always_returns_same}
use Rattle.gql_render.specs.Telling.{is_breaking_at, is_first, is_of_schema_at, rank_by}
use Rattle.gql_render.proofs.Ranking.{causes_along}
use Rattle.gql_render.proofs.telling.ranked.Goals as goal

pub returns : goal.returns
returns c =
    let items = c.args.check.now.now.now.findings.items in
    let e = c.as_slice-findings.ensures.value in
    let here = c.in_ok-schema.schema in
    let there = c.in_ok-breaking.breaking in
    let key : ℕ → ℕ = rank_by (contains nat_eq here) (contains nat_eq there) in
    record {
      schema = c.in_ok-schema_causes.schema_causes.items;
      breaking = c.in_ok-breaking_causes.breaking_causes.items;
      of_schema = causes_along c.as_slice-findings.result.now items c.as_slice-2.result.now _ c.in_ok-schema_causes.schema_causes.items e
          (c.as_slice-2.ensures.value ∙ c.in_ok-schema_places.ensures
          ∙ ap (λ f. filter (is_of_schema_at f) c.as_slice.result.now) e
          ∙ ap (filter (is_of_schema_at items)) (c.as_slice.ensures.value ∙ c.in_ok-places.ensures))
          c.in_ok-schema_causes.ensures;
      of_breaking = causes_along c.as_slice-findings.result.now items c.as_slice-6.result.now _ c.in_ok-breaking_causes.breaking_causes.items e
          (c.as_slice-6.ensures.value ∙ c.in_ok-breaking_places.ensures
          ∙ ap (λ f. filter (is_breaking_at f (map (λ a. a.now) c.as_slice-4.result.now)) c.as_slice-5.result.now) e
          ∙ ap (λ o. filter (is_breaking_at items o) c.as_slice-5.result.now) (ap (map (λ a. a.now)) c.as_slice-4.ensures.value ∙ c.in_ok-operations.ensures)
          ∙ ap (filter (is_breaking_at items _)) (c.as_slice-5.ensures.value ∙ c.in_ok-places.ensures))
          c.in_ok-breaking_causes.ensures;
      all = subst (λ xs. IsPermutation xs c.sort_by_key.new.self.items) c.in_ok-places.ensures c.in_ok-sort_by_key.ensures.permutation;
      rank = key;
      ranks = λ i.
          ap (λ x. if x then 0 else if contains nat_eq there i then 1 else 2)
          (c.in_ok-schema.ensures i ∙ ap (λ cs. is_first cs i) c.as_slice-3.ensures.value)
          ∙ ap (λ x. if is_first c.in_ok-schema_causes.schema_causes.items i then 0 else if x then 1 else 2)
          (c.in_ok-breaking.ensures i ∙ ap (λ cs. is_first cs i) c.as_slice-7.ensures.value);
      order = c.in_ok-sort_by_key.ensures.sorted key (always_returns_same _ (λ a r. r ≡ key a.0.now) _ (λ a r f' k. search rules));
    }
