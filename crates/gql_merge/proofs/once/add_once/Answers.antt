use Rattle.std.proofs.Common.{List, Contains, subst}
use Rattle.gql_clashes.specs.declared.sets.Pair.{Pair}
use Rattle.gql_merge.proofs.Repeats.{is_added, is_there}
use Rattle.gql_merge.proofs.once.add_once.Goals as goal

pub returns-then-ends_with : goal.returns-then-ends_with
returns-then-ends_with c = is_there c.args.once.now.items c.args.pair.now
    (subst (λ (l : List Pair). Contains l c.args.pair.now) c.as_slice.ensures.value (c.ends_with.ensures c.if-ends_with.true))

pub returns : goal.returns
returns c = is_added c.args.once.now.items c.push.new.self.items c.args.pair.now c.in_ok-push.ensures.items
