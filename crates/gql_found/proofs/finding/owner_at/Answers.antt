use Rattle.std.proofs.Common.{◌∙◌, None, Some, ap, map, subst, sym}
use Rattle.gql_found.specs.Owners.{IsOwnerAt, found, missing, none, owner_of}
use Rattle.gql_found.specs.Spots.{spot_of}
use Rattle.gql_found.proofs.finding.owner_at.Goals as goal

pub returns-in_default : goal.returns-in_default
returns-in_default c =
    subst (λ o. IsOwnerAt c.args.sources.now (map (λ d. d.now) c.args.definitions.now) o None) (sym c.in_default.is) none

pub returns-in_default-find_at : goal.returns-in_default-find_at
returns-in_default-find_at c =
    subst (λ o. IsOwnerAt c.args.sources.now (map (λ d. d.now) c.args.definitions.now) o None) (sym c.in-Some.is)
    (missing c.in_default-find_at.ensures)

pub returns : goal.returns
returns c =
    let ds = map (λ d. d.now) c.args.definitions.now in
    let d = c.in-Some-find_at.definition.now in
    subst (λ o. IsOwnerAt c.args.sources.now ds o (Some (record { owner = c.in_ok-owner_of.field-0; spot = c.spot.result }))) (sym c.in-Some.is)
    (subst (λ w. IsOwnerAt c.args.sources.now ds (Some c.in-Some.place) (Some (record { owner = w; spot = c.spot.result }))) (sym c.in_ok-owner_of.ensures)
    (subst (λ s. IsOwnerAt c.args.sources.now ds (Some c.in-Some.place) (Some (record { owner = owner_of d.tree; spot = s }))) (sym (c.spot.ensures ∙ ap (spot_of c.args.sources.now) c.in_ok-start.ensures))
    (found d c.in-Some-find_at.ensures.0 c.in-Some-find_at.ensures.1)))
