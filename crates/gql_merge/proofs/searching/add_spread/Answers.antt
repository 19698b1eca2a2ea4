use Rattle.std.proofs.Common.{ℕ, List, Contains, subst}
use Rattle.gql_merge.proofs.CleanNames.{added_by}
use Rattle.gql_merge.proofs.searching.add_spread.Goals as goal

pub returns-in_err-add_reached : goal.returns-in_err-add_reached
returns-in_err-add_reached c = added_by _ _ c.args.clean.now c.add_reached.new.clean
    (λ n k. (k.0, k.1, (c.if-not-wanted.false, c.in_ok-bodies.ensures.sound k.0 (subst (λ (l : List ℕ). Contains l k.0) c.as_slice.ensures.value (c.in_ok-reached.ensures k.0 k.2))))) c.add_reached.ensures

pub returns : goal.returns
returns c = added_by _ _ c.args.clean.now c.add_reached.new.clean
    (λ n k. (k.0, k.1, (c.if-not-wanted.false, c.in_ok-bodies.ensures.sound k.0 (subst (λ (l : List ℕ). Contains l k.0) c.as_slice.ensures.value (c.in_ok-reached.ensures k.0 k.2))))) c.add_reached.ensures
