use Rattle.std.proofs.Common.{[], flat_map, take}
use Rattle.gql_usage.specs.Answering.{HasMore}
use Rattle.gql_usage.specs.Answered.{answered_by}
use Rattle.gql_usage.proofs.answered.answered_objects.Given as goal

abbrev pub invariant-loop-of_type : goal.invariant-loop-of_type
invariant-loop-of_type l = HasMore [] (flat_map (answered_by l.schema l.shelf.verdicts) (take l.of_type-index l.of_type-items)) l.answered
