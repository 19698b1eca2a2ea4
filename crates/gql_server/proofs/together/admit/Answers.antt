use Rattle.std.proofs.Common.{refl}
use Rattle.gql_server.proofs.Rounding.{admitting_join, admitting_none}
use Rattle.gql_server.proofs.together.admit.Goals as goal

pub loop-place-init : goal.loop-place-init
loop-place-init g c = admitting_none _ _ _ _ _ _ refl

pub loop-place-preserved : goal.loop-place-preserved
loop-place-preserved g c =
    admitting_join _ _ _ _ _ _ _ _ _ _ _ _ _ c.loop-place.invariant c.in_ok-admit_one.ensures

pub returns-in_err-admit_one : goal.returns-in_err-admit_one
returns-in_err-admit_one g c =
    admitting_join _ _ _ _ _ _ _ _ _ _ _ _ _ c.loop-place.invariant c.in_err-admit_one.ensures

pub returns-then-not-branch : goal.returns-then-not-branch
returns-then-not-branch g c =
    admitting_join _ _ _ _ _ _ _ _ _ _ _ _ _ c.loop-place.invariant c.in_ok-admit_one.ensures
