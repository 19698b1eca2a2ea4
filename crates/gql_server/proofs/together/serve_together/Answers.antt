use Rattle.gql_server.proofs.Going.{same_rests}
use Rattle.gql_server.proofs.Growing.{grows_join}
use Rattle.gql_server.proofs.Rooming.{runs_goes}
use Rattle.gql_server.proofs.Rounding.{served_of, served_runs}
use Rattle.gql_server.specs.Traffic.{joined}
use Rattle.gql_server.proofs.together.serve_together.Goals as goal

pub returns-clause-serves : goal.returns-clause-serves
returns-clause-serves g c =
    let serves = c.serve_all-served.ensures in let leaves = c.leave_all.ensures.runs in
    let served = served_of _ _ _ _ _ _ serves.0 leaves.0 _ _ serves.2 leaves.2 c.leave_all.ensures.over leaves.3 in (
      joined serves.0 leaves.0,
      grows_join _ _ _ serves.0 leaves.0 serves.1 leaves.1,
      served,
      served_runs _ _ _ _ _ _ served,
    )

pub returns-clause-goes : goal.returns-clause-goes
returns-clause-goes g c =
    let serves = c.serve_all-served.ensures in let leaves = c.leave_all.ensures.runs in
    runs_goes _ _ _ _ _ _ (served_runs _ _ _ _ _ _ (served_of _ _ _ _ _ _ serves.0 leaves.0 _ _ serves.2 leaves.2 c.leave_all.ensures.over leaves.3)).1

pub returns-clause-connections : goal.returns-clause-connections
returns-clause-connections g c =
    let serves = c.serve_all-served.ensures in let leaves = c.leave_all.ensures.runs in
    same_rests _ _ _ c.requires.closed c.leave_all.ensures.closed
    (runs_goes _ _ _ _ _ _ (served_runs _ _ _ _ _ _ (served_of _ _ _ _ _ _ serves.0 leaves.0 _ _ serves.2 leaves.2 c.leave_all.ensures.over leaves.3)).1)
