use Rattle.std.proofs.Common.{◌≡◌, ◌∙◌, false, ap, map, subst, sym}
use Rattle.std.specs.BTreeMap.{is_at as is_key}
use Rattle.std.specs.List.{list_any}
use Rattle.gql_ast.specs.declared.definition.Definition.{Definition}
use Rattle.gql_found.proofs.Serving.{none_affected}
use Rattle.gql_found.specs.Affected.{AreAffected}
use Rattle.gql_found.specs.Owners.{is_owner}
use Rattle.gql_found.specs.Steps.{mark_of, mark_order, owns}
use Rattle.gql_found.proofs.affected.affected_of.Goals as goal

pub returns-then-is_empty : goal.returns-then-is_empty
returns-then-is_empty g c =
    let clean : (d : Definition) → is_owner c.args.faults.now d ≡ false = λ d.
    sym (c.in_ok-owners.ensures d) ∙ ap (list_any (is_key (mark_order (mark_of d)))) (c.is_empty.ensures.0 c.if-is_empty.true) in
    let facts = g.W.World.facts c.args.world.now in
    let owner = is_owner c.args.faults.now in
    let ds = map (λ d. d.now) c.args.definitions.now in
    subst (AreAffected c.args.sources.now facts owner ds) (sym c.new-then-is_empty.ensures.items) (none_affected c.args.sources.now facts owner clean ds)

pub returns : goal.returns
returns g c =
    let facts = g.W.World.facts c.args.world.now in
    let ds = map (λ d. d.now) c.args.definitions.now in
    let owners : owns c.in_ok-owners.owners ≡ is_owner c.args.faults.now = λ k d. c.in_ok-owners.ensures d k in
    subst (λ o. AreAffected c.args.sources.now facts o ds c.in_ok-affected.affected.items) owners c.in_ok-affected.ensures
