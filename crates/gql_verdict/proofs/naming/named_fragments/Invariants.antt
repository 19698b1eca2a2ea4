use Rattle.std.proofs.Common.{◌≡◌, map, take}
use Rattle.gql_verdict.specs.Borrowed.{named}
use Rattle.gql_verdict.specs.Definitions.{fragment_name}
use Rattle.gql_verdict.specs.Naming.{named_by}
use Rattle.gql_verdict.proofs.naming.named_fragments.Given as goal

abbrev pub invariant-loop-definition : goal.invariant-loop-definition
invariant-loop-definition l = map named l.found.items
    ≡ named_by fragment_name (map (λ d. d.now) (take l.definition-index l.definitions))
