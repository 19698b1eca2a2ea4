use Rattle.std.proofs.Common.{◌↔◌, IsTrue, subst}
use Rattle.gql_ast.specs.declared.definition.Definition.{Definition}
use Rattle.gql_facts.specs.Presents.{facts_of_present}
use Rattle.gql_usage.specs.Breaks.{LosesRoot}
use Rattle.gql_usage.proofs.Breaking.{breaks_by_root, breaks_if_gains, breaks_not, ok_at}
use Rattle.gql_usage.proofs.breaks.breaks.Goals as goal

pub returns-then-loses-clause-breaks : goal.returns-then-loses-clause-breaks
returns-then-loses-clause-breaks c =
    let loses = subst (λ (d : Definition). IsTrue c.in_ok-loses.loses ↔ LosesRoot (facts_of_present c.args.present) c.args.removal.now d.tree) c.def.ensures c.in_ok-loses.ensures in
    breaks_by_root (facts_of_present c.args.present) c.args.removal.now c.args.verdict.now.def c.in_ok-loses.loses loses c.if-loses.true

pub returns-then-is_verdict_untouched-clause-breaks : goal.returns-then-is_verdict_untouched-clause-breaks
returns-then-is_verdict_untouched-clause-breaks c =
    let loses = subst (λ (d : Definition). IsTrue c.in_ok-loses.loses ↔ LosesRoot (facts_of_present c.args.present) c.args.removal.now d.tree) c.def.ensures c.in_ok-loses.ensures in
    breaks_not (facts_of_present c.args.present) c.args.removal.now c.args.verdict.now.def c.in_ok-loses.loses loses c.if-loses.false
    (c.is_verdict_untouched.ensures c.if-is_verdict_untouched.true (facts_of_present c.args.present) c.requires.hold)

pub returns-clause-breaks : goal.returns-clause-breaks
returns-clause-breaks c =
    let loses = subst (λ (d : Definition). IsTrue c.in_ok-loses.loses ↔ LosesRoot (facts_of_present c.args.present) c.args.removal.now d.tree) c.def.ensures c.in_ok-loses.ensures in
    breaks_if_gains (facts_of_present c.args.present) c.args.removal.now c.gains_fault.result c.args.verdict.now.def c.in_ok-loses.loses loses c.if-loses.false
    (ok_at c.gains_fault.result (λ b h. h (facts_of_present c.args.present) c.requires.hold) c.gains_fault.ensures.gains)
