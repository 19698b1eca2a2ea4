use Rattle.std.proofs.Common.{ap, ◌∙◌, subst, List, map, Bor}
use Rattle.std.specs.Prelude.{OnOk}
use Rattle.gql_ast.specs.declared.definition.Definition.{Definition}
use Rattle.gql_verdict.specs.Shelves.{HasDuePairs, IsWholeDueWork}
use Rattle.gql_facts.proofs.Failing.{on_error}
use Rattle.gql_verdict.specs.Definitions.{all_definitions}
use Rattle.gql_verdict.specs.Slots.{verdicts}
use Rattle.gql_verdict.proofs.Steps.{work_all, work_none}
use Rattle.gql_verdict.proofs.plan.plan.Goals as goal

pub returns-in_err-definitions-clause-work : goal.returns-in_err-definitions-clause-work
returns-in_err-definitions-clause-work g c =
    let F = g.W.World.facts c.args.world.now in
    let vs = verdicts c.args.kept.now in
    let ds = all_definitions c.args.files.now.documents in
    on_error _ (work_all F vs ds 0 _ _ (work_none F vs ds c.args.meter.now))

pub returns-clause-walked : goal.returns-clause-walked
returns-clause-walked g c =
    let F = g.W.World.facts c.args.world.now in
    let vs = verdicts c.args.kept.now in
    subst (λ (ds : List Definition). OnOk c.plan_all.result (HasDuePairs F vs ds c.plan_all.new.shared.pairs))
    (ap (map (λ (b : Bor Definition). b.now)) c.as_slice.ensures.value ∙ c.in_ok-definitions.ensures.all) c.plan_all.ensures.walked

pub returns-clause-whole : goal.returns-clause-whole
returns-clause-whole g c =
    let F = g.W.World.facts c.args.world.now in
    let vs = verdicts c.args.kept.now in
    subst (λ (ds : List Definition). OnOk c.plan_all.result (IsWholeDueWork F vs ds c.args.meter.now c.plan_all.new.meter))
    (ap (map (λ (b : Bor Definition). b.now)) c.as_slice.ensures.value ∙ c.in_ok-definitions.ensures.all) c.plan_all.ensures.whole
