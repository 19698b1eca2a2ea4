use Rattle.std.proofs.Common.{rules, arith, ap, Some, ◌∙◌}
use Rattle.gql_wire.specs.Framing.{Framing}
use Rattle.gql_http.specs.Events.{ignores}
use Rattle.gql_http.specs.Limits.{body_limit_of}
use Rattle.gql_http.proofs.Deeds.{opened}
use Rattle.gql_http.proofs.Framers.{begun_has, limits_set, some_none}
use Rattle.gql_http.proofs.hub.Hub.open.Goals as goal

pub returns-then-connection-ge-CONNECTIONS-clause-does : goal.returns-then-connection-ge-CONNECTIONS-clause-does
returns-then-connection-ge-CONNECTIONS-clause-does c = ignores (λ allowed. omega (arith, allowed.0))

pub returns-then-is_open-clause-does : goal.returns-then-is_open-clause-does
returns-then-is_open-clause-does c = ignores (λ allowed. some_none _ (search rules) allowed.1)

pub returns-clause-does : goal.returns-clause-does
returns-clause-does c =
    opened _ c.args.self.now.framers c.args.connection c.from.result c.within.result c.from.ensures (ap (λ (f : Framing). f.bytes) c.within.ensures) c.if-connection-ge-CONNECTIONS.false (search rules)
    (λ some. let h = c.is_open.ensures.1 some in search rules)

pub invariant_of-self : goal.invariant_of-self
invariant_of-self c = (
  limits_set _ c.args.self.now.framers c.from.result (Some c.within.result) c.args.self.now.limits
      (begun_has _ _ c.within.result c.within.ensures (c.body_limit_of-limit.ensures.value ∙ ap body_limit_of c.profile.ensures)),
  tt,
)
