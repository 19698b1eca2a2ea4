use Rattle.std.proofs.Common.{◌≢◌, map, get_or}
use Rattle.gql_cycles.specs.Path.{IsWalk, KeepsMet, left}
use Rattle.gql_cycles.specs.declared.walk.State.TheVariants.{New}
use Rattle.gql_cycles.proofs.walk.walk_from.Given as goal

abbrev pub invariant-steps : goal.invariant-steps
invariant-steps l = record {
  walk : IsWalk (map (λ v. v.items) l.edges) l.walk;
  met : KeepsMet l.fn.walk l.walk;
  root : get_or l.walk.states.items l.root New ≢ New;
}

abbrev pub decreases-steps : goal.decreases-steps
decreases-steps l = left (map (λ v. v.items) l.edges) l.walk
