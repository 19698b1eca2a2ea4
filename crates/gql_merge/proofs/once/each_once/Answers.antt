use Rattle.std.proofs.Common.{List, Contains, subst, sym}
use Rattle.std.proofs.lemmas.List.Sorted.{Contains-permutation, IsPermutation-sym}
use Rattle.gql_clashes.specs.declared.sets.Pair.{Pair}
use Rattle.gql_merge.proofs.once.each_once.Goals as goal

pub returns : goal.returns
returns c = λ p.
    let sorted = c.sort_unstable_by_key.new.self.items in
    let all = c.args.pairs.items in
    let order = c.sort_unstable_by_key.ensures.permutation in
    let same = c.in_ok-once.ensures p in
    let value = c.as_slice.ensures.value in (
      λ h. Contains-permutation sorted all p (IsPermutation-sym all sorted order) (subst (λ (l : List Pair). Contains l p) value (same.0 h)),
      λ h. same.1 (subst (λ (l : List Pair). Contains l p) (sym value) (Contains-permutation all sorted p order h)),
    )
