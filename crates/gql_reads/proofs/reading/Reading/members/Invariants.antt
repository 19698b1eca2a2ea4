use Rattle.std.proofs.Common.{◌≡◌, take}
use Rattle.gql_reads.specs.Readings.{members_of}
use Rattle.gql_reads.proofs.reading.Reading.members.Given as goal

abbrev pub invariant-loop-part : goal.invariant-loop-part
invariant-loop-part l = l.members.items ≡ members_of (take l.part-index l.self.parts.items)
