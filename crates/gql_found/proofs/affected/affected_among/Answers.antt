use Rattle.std.proofs.Common.{◌∙◌, [], refl, subst, sym}
use Rattle.gql_found.proofs.Lists.{mapped_next}
use Rattle.gql_found.specs.Affected.{AreAffected, none}
use Rattle.gql_found.specs.Steps.{AddsAffected, owns}
use Rattle.gql_found.proofs.affected.affected_among.Goals as goal

pub loop-definition-init : goal.loop-definition-init
loop-definition-init g c = (
  refl,
  subst (AreAffected c.args.sources.now (g.W.World.facts c.args.world.now) (owns c.args.owners.now) []) (sym c.new-affected.ensures.items) none,
)

pub loop-definition-preserved : goal.loop-definition-preserved
loop-definition-preserved g c =
    let facts = g.W.World.facts c.args.world.now in
    let old = c.loop-definition.affected.items in
    let new = c.add_affected.new.affected.items in
    let item = c.definition-item.result in
    let step = subst (λ v. AddsAffected c.args.sources.now v (owns c.args.owners.now) item.now old new) c.loop-definition.invariant.0 c.in_ok-add_affected.ensures.added in (
      c.in_ok-add_affected.ensures.facts ∙ c.loop-definition.invariant.0,
      subst (λ ds. AreAffected c.args.sources.now facts (owns c.args.owners.now) ds new)
          (sym (mapped_next (λ d. d.now) c.args.definitions.now c.loop-definition.definition-index item c.loop-definition-test.true c.definition-item.is))
          (step _ c.loop-definition.invariant.1),
    )
