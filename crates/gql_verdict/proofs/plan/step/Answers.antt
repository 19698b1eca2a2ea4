use Rattle.std.proofs.Common.{inl, inr, refl}
use Rattle.gql_verdict.proofs.Steps.{entry_at, entry_here, not_due, other_kept}
use Rattle.gql_verdict.proofs.plan.step.Goals as goal

pub kept_verdict-requires-clause-others : goal.kept_verdict-requires-clause-others
kept_verdict-requires-clause-others g c = other_kept _ _ _ _ c.requires.known

pub returns-in_ok-verdict-in-None-clause-work : goal.returns-in_ok-verdict-in-None-clause-work
returns-in_ok-verdict-in-None-clause-work g c = inr (c.in-None.ensures _ c.requires.known c.requires.marks, c.in_ok-verdict-in-None.ensures.ok)

pub returns-in_ok-verdict-in-None-clause-entries : goal.returns-in_ok-verdict-in-None-clause-entries
returns-in_ok-verdict-in-None-clause-entries g c = entry_here c.args.meter.now _ c.args.definition.now c.in_ok-verdict-in-None.verdict c.in_ok-verdict-in-None.ensures.verdict.def c.in_ok-verdict-in-None.ensures.ok

pub returns-in_ok-verdict-in-None-clause-walked : goal.returns-in_ok-verdict-in-None-clause-walked
returns-in_ok-verdict-in-None-clause-walked g c = λ due. c.in_ok-verdict-in-None.ensures.has

pub returns-in-Some-clause-work : goal.returns-in-Some-clause-work
returns-in-Some-clause-work g c = inl (not_due (g.W.World.facts c.args.world.now) c.args.kept.now c.requires.order c.args.definition.now c.in-Some.j (c.in-Some.ensures _ c.requires.known c.requires.marks), refl)

pub returns-in-Some-clause-entries : goal.returns-in-Some-clause-entries
returns-in-Some-clause-entries g c = entry_at c.args.meter.now c.in-Some.j

pub returns-in-Some-clause-walked : goal.returns-in-Some-clause-walked
returns-in-Some-clause-walked g c = λ due. absurd (not_due (g.W.World.facts c.args.world.now) c.args.kept.now c.requires.order c.args.definition.now c.in-Some.j (c.in-Some.ensures _ c.requires.known c.requires.marks) due)
