use Rattle.std.proofs.Common.{◌∙◌, ◌+◌, sym, rules}
use Rattle.std.proofs.lemmas.Fn.{always_returns_same}
use Rattle.std.specs.Prelude.{Ok, Err}
use Rattle.gql_ast.specs.declared.definition.DefinitionId.{DefinitionId}
use Rattle.gql_readers.specs.Merged.{IsSplit, itself}
use Rattle.gql_readers.specs.OrderLaws.{id_exact, id_total}
use Rattle.gql_readers.specs.Orders.{id_order}
use Rattle.gql_readers.proofs.Splitting.{rest_of, split_at}
use Rattle.gql_readers.proofs.ids.split.Goals as goal

pub returns-in-Ok-clause-before : goal.returns-in-Ok-clause-before
returns-in-Ok-clause-before c =
    let s : IsSplit id_order itself c.args.id.now c.args.ids.now c.in-Ok.place (c.in-Ok.place + 1) = split_at id_order id_total id_exact itself c.args.id.now c.args.ids.now (Ok c.in-Ok.place) c.requires c.in-Ok.ensures.bound
    (c.in-Ok.ensures.position (λ (x : DefinitionId). id_order (itself x) c.args.id.now) (always_returns_same _ _ _ (λ a r g called. (search rules, search rules)))) in
    sym s.under

pub returns-in-Ok-clause-after : goal.returns-in-Ok-clause-after
returns-in-Ok-clause-after c =
    let s : IsSplit id_order itself c.args.id.now c.args.ids.now c.in-Ok.place (c.in-Ok.place + 1) = split_at id_order id_total id_exact itself c.args.id.now c.args.ids.now (Ok c.in-Ok.place) c.requires c.in-Ok.ensures.bound
    (c.in-Ok.ensures.position (λ (x : DefinitionId). id_order (itself x) c.args.id.now) (always_returns_same _ _ _ (λ a r g called. (search rules, search rules)))) in
    rest_of c.args.ids.now (c.in-Ok.place + 1) ∙ sym s.over

pub returns-in-Err-clause-before : goal.returns-in-Err-clause-before
returns-in-Err-clause-before c =
    let s : IsSplit id_order itself c.args.id.now c.args.ids.now c.in-Err.place c.in-Err.place = split_at id_order id_total id_exact itself c.args.id.now c.args.ids.now (Err c.in-Err.place) c.requires c.in-Err.ensures.bound
    (c.in-Err.ensures.position (λ (x : DefinitionId). id_order (itself x) c.args.id.now) (always_returns_same _ _ _ (λ a r g called. (search rules, search rules)))) in
    sym s.under

pub returns-in-Err-clause-after : goal.returns-in-Err-clause-after
returns-in-Err-clause-after c =
    let s : IsSplit id_order itself c.args.id.now c.args.ids.now c.in-Err.place c.in-Err.place = split_at id_order id_total id_exact itself c.args.id.now c.args.ids.now (Err c.in-Err.place) c.requires c.in-Err.ensures.bound
    (c.in-Err.ensures.position (λ (x : DefinitionId). id_order (itself x) c.args.id.now) (always_returns_same _ _ _ (λ a r g called. (search rules, search rules)))) in
    rest_of c.args.ids.now c.in-Err.place ∙ sym s.over
