use Rattle.std.proofs.Common.{◌≡◌, subst}
use Rattle.gql_wire.specs.Framing.{Framing}
use Rattle.gql_wire.specs.Stream.{IsUnfinished, skip_blank}
use Rattle.gql_wire.proofs.Streams.{held_skips}
use Rattle.gql_wire.proofs.Unique.{held_unfinished}
use Rattle.gql_wire.proofs.stream.Framer.touch.Goals as goal

pub returns-clause-begun : goal.returns-clause-begun
returns-clause-begun c =
    subst (λ (f : Framing). skip_blank f.bytes ≡ f.bytes) c.self.view_is
    (held_skips c.self.inside.held.limit c.self.inside.held.bytes.items c.self.inside.held.pending c.self.invariant.0)

pub returns-clause-unfinished : goal.returns-clause-unfinished
returns-clause-unfinished c =
    subst (λ (f : Framing). IsUnfinished f.limit f.bytes) c.self.view_is
    (held_unfinished c.self.inside.held.bytes.items c.self.inside.held.pending c.self.invariant.0)
