use Rattle.std.proofs.Common.{rules}
use Rattle.gql_reads.proofs.Recorded.{same_certified}
use Rattle.gql_reads.proofs.part.Part.copy.Goals as goal

pub invariant_of-result : goal.invariant_of-result
invariant_of-result c = same_certified c.self.inside.held.fragment c.in_ok-clone.field-0.fragment c.self.inside.held.seen c.in_ok-clone.field-0.seen (search rules) (search rules) c.self.invariant
