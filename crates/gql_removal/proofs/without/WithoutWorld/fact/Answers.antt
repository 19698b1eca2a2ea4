use Rattle.std.proofs.Common.{ap}
use Rattle.gql_removal.specs.Removals.{without}
use Rattle.gql_removal.proofs.without.WithoutWorld.fact.Goals as goal

pub returns-in_err-fact-clause-facts : goal.returns-in_err-fact-clause-facts
returns-in_err-fact-clause-facts c = ap (without c.args.self.now.removal.now) c.fact.ensures.facts

pub returns-clause-facts : goal.returns-clause-facts
returns-clause-facts c = ap (without c.args.self.now.removal.now) c.fact.ensures.facts
