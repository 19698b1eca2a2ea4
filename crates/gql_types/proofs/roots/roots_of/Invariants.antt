use Rattle.std.proofs.Common.{◌≡◌, take}
use Rattle.gql_types.specs.Roots.{roots_of}
use Rattle.gql_types.proofs.roots.roots_of.Given as goal

abbrev pub invariant-loop-extension : goal.invariant-loop-extension
invariant-loop-extension l = l.roots ≡ roots_of l.types l.definitions (take l.extension-index l.extensions)
