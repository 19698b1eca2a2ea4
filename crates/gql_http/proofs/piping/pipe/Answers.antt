use Rattle.std.proofs.Common.{rules, sym, ◌∙◌}
use Rattle.gql_http.proofs.Exchanging.{does_others}
use Rattle.gql_http.proofs.PipeConnections.{opened_empty, closed_after, same_connections, between}
use Rattle.gql_http.proofs.piping.pipe.Goals as goal

pub exchange-ended-requires-clause-open : goal.exchange-ended-requires-clause-open
exchange-ended-requires-clause-open g c = (opened_empty _ _ _ 0 _ _ c.open.ensures.does (search rules, c.requires.closed)).0

pub returns-clause-exchange : goal.returns-clause-exchange
returns-clause-exchange g c =
    let opened = opened_empty _ _ _ 0 _ _ c.open.ensures.does (search rules, c.requires.closed) in
    let closed = closed_after _ _ _ 0 _ _ c.close.ensures in
    between _ _ _ _ _ _ _ _ opened.1 (sym closed.1) c.exchange-ended.ensures.exchange

pub returns-clause-connections : goal.returns-clause-connections
returns-clause-connections g c =
    same_connections _ _ ((closed_after _ _ _ 0 _ _ c.close.ensures).0 ∙ sym c.requires.closed)
    (λ n apart. does_others _ _ _ _ _ _ n c.close.ensures apart ∙ c.exchange-ended.ensures.others n apart ∙ does_others _ _ _ _ _ _ n c.open.ensures.does apart)
