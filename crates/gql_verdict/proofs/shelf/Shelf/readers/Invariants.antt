use Rattle.std.proofs.Common.{◌≡◌, take}
use Rattle.gql_verdict.specs.Shelves.{readers_of}
use Rattle.gql_verdict.specs.Slots.{verdicts}
use Rattle.gql_verdict.proofs.shelf.Shelf.readers.Given as goal

abbrev pub invariant-loop-slot : goal.invariant-loop-slot
invariant-loop-slot l = l.ids.items ≡ readers_of l.key (verdicts (take l.slot-index l.slot-items))
