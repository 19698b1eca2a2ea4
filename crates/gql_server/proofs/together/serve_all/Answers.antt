use Rattle.std.proofs.Common.{refl}
use Rattle.gql_server.proofs.Rounding.{all_served, broken_after, broken_at_once, broken_in, fault_ends, rounds_on, served_none}
use Rattle.gql_server.proofs.together.serve_all.Goals as goal

pub returns-in_default : goal.returns-in_default
returns-in_default g c =
    fault_ends _ _ _ _ _ _ _ _ _ _ _ _ _ _ c.requires.free (served_none _ _ _ _ _ _ refl) (broken_at_once _ _ _ _ _)

pub loop-round-init : goal.loop-round-init
loop-round-init g c = served_none _ _ _ _ _ _ refl

pub returns-in_default-now : goal.returns-in_default-now
returns-in_default-now g c =
    fault_ends _ _ _ _ _ _ _ _ _ _ _ _ _ _ c.requires.free c.loop-round.invariant (broken_at_once _ _ _ _ _)

pub returns-in_default-round : goal.returns-in_default-round
returns-in_default-round g c =
    fault_ends _ _ _ _ _ _ _ _ _ _ _ _ _ _ c.requires.free c.loop-round.invariant (broken_in _ _ _ _ _ _ _ _ _ c.in_default-round.ensures)

pub returns-then-are_free : goal.returns-then-are_free
returns-then-are_free g c =
    all_served _ _ _ _ _ _ _ _ _ _ _ _ _ c.requires.free c.loop-round.invariant c.in-Ok-round.ensures c.if-queue-eq0.true (c.are_free.ensures c.if-are_free.true)

pub returns-in_default-wait : goal.returns-in_default-wait
returns-in_default-wait g c =
    fault_ends _ _ _ _ _ _ _ _ _ _ _ _ _ _ c.requires.free c.loop-round.invariant (broken_after _ _ _ _ _ _ _ _ _ _ c.in-Ok-round.ensures c.in_default-wait.ensures)

pub loop-round-preserved : goal.loop-round-preserved
loop-round-preserved g c =
    rounds_on _ _ _ _ _ _ _ _ _ _ _ _ _ _ _ _ _ c.loop-round.invariant c.in-Ok-round.ensures c.in-Ok-wait.ensures c.note.ensures.noted c.note.ensures.left

pub returns : goal.returns
returns g c =
    fault_ends _ _ _ _ _ _ _ _ _ _ _ _ _ _ c.requires.free c.loop-round.invariant (broken_at_once _ _ _ _ _)
