use Rattle.std.proofs.Common.{◌≡◌, map, take}
use Rattle.gql_types.specs.Held.{one}
use Rattle.gql_types.specs.Parts.{in_all, interfaces_of}
use Rattle.gql_types.proofs.parts.interfaces.Given as goal

abbrev pub invariant-loop-part : goal.invariant-loop-part
invariant-loop-part l = l.found.items ≡ in_all interfaces_of (map one (take l.part-index l.parts))
