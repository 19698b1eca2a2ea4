use Rattle.std.proofs.Common.{take}
use Rattle.gql_usage.specs.Answering.{HasMore}
use Rattle.gql_usage.proofs.answered.Answered.add_all.Given as goal

abbrev pub invariant-loop-name : goal.invariant-loop-name
invariant-loop-name l = HasMore l.initial.self (take l.name-index l.names) l.self
