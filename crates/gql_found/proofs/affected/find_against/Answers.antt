use Rattle.std.proofs.Common.{◌∙◌, sym, subst}
use Rattle.gql_found.proofs.Serving.{against_by, own_against}
use Rattle.gql_found.specs.Steps.{owns}
use Rattle.gql_facts.specs.Members.{Lists}
use Rattle.gql_facts.specs.Reads.{Reaches}
use Rattle.gql_found.proofs.affected.find_against.Goals as goal

pub returns-then-has-clause-against : goal.returns-then-has-clause-against
returns-then-has-clause-against g c =
    own_against (g.W.World.facts c.args.world.now) (owns c.args.owners.now) c.args.definition.now (sym c.in_ok-has.ensures ∙ c.if-has.true)

pub returns-clause-against : goal.returns-clause-against
returns-clause-against g c =
    let facts = g.W.World.facts c.args.world.now in
    let d = c.args.definition.now in
    against_by facts (owns c.args.owners.now) d c.as_slice.result.now
    (subst (λ l. Lists l (Reaches facts d)) (sym c.as_slice.ensures.value) c.in_ok-walk.ensures.members)
    (sym c.in_ok-has.ensures ∙ c.if-has.false) c.in_ok-found.found c.in_ok-found.ensures
