use Rattle.std.proofs.Common.{◌≡◌, Option, true, refl, sym, subst}
use Rattle.gql_registry.specs.State.{state_of}
use Rattle.gql_wire.specs.Framing.{Framing}
use Rattle.gql_http.specs.Limits.{has_limit, limit_in}
use Rattle.gql_http.proofs.Framers.{limits_set}
use Rattle.gql_http.proofs.hub.Hub.take_framer.Goals as goal

pub invariant_of-self : goal.invariant_of-self
invariant_of-self c = record {
  limits = limits_set _ c.args.self.now.framers c.from.result _ c.args.self.now.limits
      (subst (λ (o : Option Framing). has_limit (limit_in (state_of c.args.self.now.registry)) o ≡ true) (sym c.take.ensures.after) refl);
}
