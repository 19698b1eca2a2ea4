use Rattle.std.proofs.Common.{arith}
use Rattle.gql_wire.proofs.Heads.{whole_outcome}
use Rattle.gql_wire.specs.Head.{unread}
use Rattle.gql_wire.proofs.head.read_head.Goals as goal

pub returns-in-None-clause-outcome_is : goal.returns-in-None-clause-outcome_is
returns-in-None-clause-outcome_is c = unread c.in-None.ensures.none

pub returns-in-Some-clause-outcome_is : goal.returns-in-Some-clause-outcome_is
returns-in-Some-clause-outcome_is c = rw c.outcome_of_parts.ensures.outcome_is (whole_outcome c.args.head.now c.whole_head.new.fields c.in-Some.spans c.in-Some.ensures.some (omega arith))
