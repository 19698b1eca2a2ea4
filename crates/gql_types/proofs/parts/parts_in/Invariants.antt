use Rattle.std.proofs.Common.{◌≡◌, map, take}
use Rattle.gql_types.specs.Held.{one}
use Rattle.gql_types.specs.Types.{parts_in}
use Rattle.gql_types.proofs.parts.parts_in.Given as goal

abbrev pub invariant-loop-extension : goal.invariant-loop-extension
invariant-loop-extension l = map one l.parts.items ≡ parts_in l.definition (take l.extension-index l.extensions)
