use Rattle.std.proofs.Common.{◌∙◌, ◌+◌, sym, rules}
use Rattle.std.proofs.lemmas.Fn.{always_returns_same}
use Rattle.std.proofs.lemmas.List.{take_rest}
use Rattle.std.specs.Prelude.{Ok, Err}
use Rattle.gql_chunks.proofs.Splitting.{IsSplit, split_at}
use Rattle.gql_chunks.proofs.edits.split.Goals as goal

pub returns-in-Ok-clause-before : goal.returns-in-Ok-clause-before
returns-in-Ok-clause-before g c =
    let order = g.T.HasOrder.order in
    let s : IsSplit order c.args.item.now c.args.items.now c.in-Ok.place (c.in-Ok.place + 1) = split_at order g.met.T.HasOrder.total c.args.item.now c.args.items.now (Ok c.in-Ok.place) c.requires c.in-Ok.ensures.bound
    (c.in-Ok.ensures.position (λ x. order x c.args.item.now) (always_returns_same _ _ _ (λ a r f called. (search rules, search rules)))) in
    sym s.under

pub returns-in-Ok-clause-after : goal.returns-in-Ok-clause-after
returns-in-Ok-clause-after g c =
    let order = g.T.HasOrder.order in
    let s : IsSplit order c.args.item.now c.args.items.now c.in-Ok.place (c.in-Ok.place + 1) = split_at order g.met.T.HasOrder.total c.args.item.now c.args.items.now (Ok c.in-Ok.place) c.requires c.in-Ok.ensures.bound
    (c.in-Ok.ensures.position (λ x. order x c.args.item.now) (always_returns_same _ _ _ (λ a r f called. (search rules, search rules)))) in
    take_rest c.args.items.now (c.in-Ok.place + 1) ∙ sym s.over

pub returns-in-Err-clause-before : goal.returns-in-Err-clause-before
returns-in-Err-clause-before g c =
    let order = g.T.HasOrder.order in
    let s : IsSplit order c.args.item.now c.args.items.now c.in-Err.place c.in-Err.place = split_at order g.met.T.HasOrder.total c.args.item.now c.args.items.now (Err c.in-Err.place) c.requires c.in-Err.ensures.bound
    (c.in-Err.ensures.position (λ x. order x c.args.item.now) (always_returns_same _ _ _ (λ a r f called. (search rules, search rules)))) in
    sym s.under

pub returns-in-Err-clause-after : goal.returns-in-Err-clause-after
returns-in-Err-clause-after g c =
    let order = g.T.HasOrder.order in
    let s : IsSplit order c.args.item.now c.args.items.now c.in-Err.place c.in-Err.place = split_at order g.met.T.HasOrder.total c.args.item.now c.args.items.now (Err c.in-Err.place) c.requires c.in-Err.ensures.bound
    (c.in-Err.ensures.position (λ x. order x c.args.item.now) (always_returns_same _ _ _ (λ a r f called. (search rules, search rules)))) in
    take_rest c.args.items.now c.in-Err.place ∙ sym s.over
