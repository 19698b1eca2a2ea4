use Rattle.std.proofs.Common.{◌<◌, subst, sym}
use Rattle.gql_verdict.proofs.Marking.{marked_here, marked_none, only_here}
use Rattle.gql_verdict.proofs.marks.mark.Goals as goal

pub returns-in-Some-clause-marked : goal.returns-in-Some-clause-marked
returns-in-Some-clause-marked c =
    let f = c.in-Some.ensures in
    marked_here c.args.slots.now c.requires.order c.args.marks.now c.args.id.now c.in-Some.j (subst (λ n. c.in-Some.j < n) (sym c.requires.long) f.1.within) f.0 f.1 f.2

pub returns-in-Some-clause-only : goal.returns-in-Some-clause-only
returns-in-Some-clause-only c =
    let f = c.in-Some.ensures in
    only_here c.args.slots.now c.args.marks.now c.args.id.now c.in-Some.j f.0 f.1 f.2

pub returns-in_default-clause-marked : goal.returns-in_default-clause-marked
returns-in_default-clause-marked c = marked_none c.args.slots.now c.requires.order c.args.marks.now c.args.id.now c.in_default.ensures
