use Rattle.std.proofs.Common.{◌≡◌}
use Rattle.gql_wire.proofs.Heads.{no_head}
use Rattle.gql_wire.proofs.head.whole_head.Goals as goal

pub returns-in_default-clause-none : goal.returns-in_default-clause-none
returns-in_default-clause-none c = no_head _ _ _ _ c.parse_request.ensures.found
    (λ spans e h. c.if-spans-head.false (let same : c.in-Ok-Complete.spans ≡ spans = cc in rw same h))
