use Rattle.std.proofs.Common.{List, get_or, subst, sym}
use Rattle.std.proofs.lemmas.List.{get_or_default, take_all}
use Rattle.gql_clashes.specs.declared.sets.Pair.{Pair}
use Rattle.gql_merge.proofs.Repeats.{AreSame, next, no_pair}
use Rattle.gql_merge.proofs.once.without_repeats.Goals as goal

pub loop-pair-preserved : goal.loop-pair-preserved
loop-pair-preserved c =
    let ps = c.args.pairs.now in
    let i = c.loop-pair.pair-index in
    let x = get_or ps i no_pair in
    next c.loop-pair.once.items c.add_once.new.once.items ps i x
    c.loop-pair-test.true (sym (get_or_default ps i x no_pair c.loop-pair-test.true)) c.loop-pair.invariant c.in_ok-add_once.ensures

pub returns : goal.returns
returns c = subst (λ (l : List Pair). AreSame c.loop-pair.once.items l) (take_all _ _ c.loop-pair-test.false) c.loop-pair.invariant
