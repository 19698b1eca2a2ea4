use Rattle.std.proofs.Common.{rules}
use Rattle.gql_reads.proofs.Recorded.{same_certified}
use Rattle.gql_reads.proofs.part.Part.seen.Goals as goal

pub returns-clause-certificate : goal.returns-clause-certificate
returns-clause-certificate c = same_certified c.self.inside.held.fragment c.args.self.now.fragment c.self.inside.held.seen c.get.result.now.seen (search rules) (search rules) c.self.invariant
