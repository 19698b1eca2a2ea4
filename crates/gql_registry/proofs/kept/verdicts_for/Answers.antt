use Rattle.std.proofs.Common.{◌∙◌, rules, ap, sym, subst}
use Rattle.gql_types.specs.Schemas.{schema_of}
use Rattle.gql_verdict.specs.Definitions.{all_definitions}
use Rattle.gql_verdict.specs.Plans.{IsPlanned}
use Rattle.gql_verdict.specs.Shelves.{HasDuePairs, IsWholeWork, IsWork}
use Rattle.gql_verdict.specs.TouchedFacts.{ArePairsKnown, IsKnown}
use Rattle.gql_pairs.specs.Tables.{KeepsHolding}
use Rattle.gql_registry.specs.declared.report.SchemaSide.{SchemaSide}
use Rattle.gql_registry.proofs.Working.{on_err_of}
use Rattle.gql_registry.proofs.kept.verdicts_for.Goals as goal

pub prepare-requires-clause-placed : goal.prepare-requires-clause-placed
prepare-requires-clause-placed c = c.requires.placed

pub prepare-requires-clause-known : goal.prepare-requires-clause-known
prepare-requires-clause-known c =
    let files = c.args.plan.now.files in
    let same = c.new-world.ensures.answers (schema_of files) files.documents (ap (λ (s : SchemaSide). s.facts) c.get.ensures ∙ c.requires.schema.facts) c.requires.index.fragments in
    subst (λ v. IsKnown v (all_definitions files.documents) c.args.shelf.now.verdicts c.args.plan.now.touched) (sym same) c.requires.known

pub prepare-requires-clause-pairs : goal.prepare-requires-clause-pairs
prepare-requires-clause-pairs c =
    let files = c.args.plan.now.files in
    let same = c.new-world.ensures.answers (schema_of files) files.documents (ap (λ (s : SchemaSide). s.facts) c.get.ensures ∙ c.requires.schema.facts) c.requires.index.fragments in
    subst (λ v. ArePairsKnown v c.args.shelf.now.pairs c.args.plan.now.touched) (sym same) c.requires.pairs

pub returns-in_err-prepared-clause-pairs : goal.returns-in_err-prepared-clause-pairs
returns-in_err-prepared-clause-pairs c = search rules

pub returns-clause-pairs : goal.returns-clause-pairs
returns-clause-pairs c =
    let files = c.args.plan.now.files in
    let same = c.new-world.ensures.answers (schema_of files) files.documents (ap (λ (s : SchemaSide). s.facts) c.get.ensures ∙ c.requires.schema.facts) c.requires.index.fragments in
    subst (λ v. KeepsHolding v c.args.shelf.now.pairs c.in_ok-prepared.prepared.pairs) same c.in_ok-prepared.ensures.pairs

pub returns-in_err-prepared-clause-planned : goal.returns-in_err-prepared-clause-planned
returns-in_err-prepared-clause-planned c = search rules

pub returns-in_err-prepared-clause-work : goal.returns-in_err-prepared-clause-work
returns-in_err-prepared-clause-work c =
    let files = c.args.plan.now.files in
    let same = c.new-world.ensures.answers (schema_of files) files.documents (ap (λ (s : SchemaSide). s.facts) c.get.ensures ∙ c.requires.schema.facts) c.requires.index.fragments in
    on_err_of _ (subst (λ v. IsWork v c.args.shelf.now.verdicts (all_definitions files.documents) c.args.meter.now c.prepare.new.meter) same c.in_err-prepared.ensures.work)

pub returns-clause-planned : goal.returns-clause-planned
returns-clause-planned c =
    let files = c.args.plan.now.files in
    let same = c.new-world.ensures.answers (schema_of files) files.documents (ap (λ (s : SchemaSide). s.facts) c.get.ensures ∙ c.requires.schema.facts) c.requires.index.fragments in
    subst (λ v. IsPlanned v (all_definitions files.documents) c.args.shelf.now.verdicts c.in_ok-prepared.prepared) same c.in_ok-prepared.ensures.planned

pub returns-in_err-prepared-clause-whole : goal.returns-in_err-prepared-clause-whole
returns-in_err-prepared-clause-whole c = search rules

pub returns-in_err-prepared-clause-walked : goal.returns-in_err-prepared-clause-walked
returns-in_err-prepared-clause-walked c = search rules

pub returns-clause-walked : goal.returns-clause-walked
returns-clause-walked c =
    let files = c.args.plan.now.files in
    let same = c.new-world.ensures.answers (schema_of files) files.documents (ap (λ (s : SchemaSide). s.facts) c.get.ensures ∙ c.requires.schema.facts) c.requires.index.fragments in
    subst (λ v. HasDuePairs v c.args.shelf.now.verdicts (all_definitions files.documents) c.in_ok-prepared.prepared.pairs) same c.in_ok-prepared.ensures.walked

pub returns-clause-whole : goal.returns-clause-whole
returns-clause-whole c =
    let files = c.args.plan.now.files in
    let same = c.new-world.ensures.answers (schema_of files) files.documents (ap (λ (s : SchemaSide). s.facts) c.get.ensures ∙ c.requires.schema.facts) c.requires.index.fragments in
    subst (λ v. IsWholeWork v c.args.shelf.now.verdicts (all_definitions files.documents) c.args.meter.now c.prepare.new.meter) same c.in_ok-prepared.ensures.whole
