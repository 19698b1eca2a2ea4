use Rattle.std.proofs.Common.{◌≡◌, take}
use Rattle.std.specs.Option.{option_copied}
use Rattle.gql_found.specs.Homes.{last_by}
use Rattle.gql_found.proofs.home.last_by.Given as goal

abbrev pub invariant-loop-definition : goal.invariant-loop-definition
invariant-loop-definition l = option_copied l.last ≡ last_by l.offset (take l.definition-index l.definitions)
