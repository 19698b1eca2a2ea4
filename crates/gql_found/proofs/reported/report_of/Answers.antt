use Rattle.std.proofs.Common.{◌∙◌, ap, map, refl, subst}
use Rattle.std.specs.List.{AllZip}
use Rattle.gql_found.proofs.Found.{together}
use Rattle.gql_found.specs.Affected.{AreAffected}
use Rattle.gql_found.specs.Findings.{IsFinding}
use Rattle.gql_found.specs.Owners.{is_owner}
use Rattle.gql_found.proofs.reported.report_of.Goals as goal

pub returns : goal.returns
returns g c =
    let s = c.args.sources in
    let files = c.args.files.now in
    let facts = g.W.World.facts c.args.world.now in
    let ds = map (λ d. d.now) c.as_slice-definitions.result.now in
    together s files facts ds c.args.faults.items _ c.requires.world
    (ap (map (λ d. d.now)) c.as_slice-definitions.ensures.value ∙ c.in_ok-definitions.ensures) c.requires.report c.into_files.ensures
    (subst (λ fs. AllZip (IsFinding s files ds) fs c.in_ok-findings.findings.items) c.as_slice-2.ensures.value c.in_ok-findings.ensures)
    c.in_ok-operations.ensures
    (subst (λ fs. AreAffected s facts (is_owner fs) ds c.in_ok-affected.affected.items) c.as_slice.ensures.value c.in_ok-affected.ensures)
    c.args.is_sound c.requires.sound refl
