use Rattle.std.proofs.Common.{◌≢◌, List, [], subst}
use Rattle.std.proofs.lemmas.List.Elements.{All-tail}
use Rattle.gql_chunks.specs.Lists.{AreFull}
use Rattle.gql_chunks.proofs.items.ItemsIterator.next.Goals as goal

pub invariant_of-self-2 : goal.invariant_of-self-2
invariant_of-self-2 g c = All-tail (λ (z : List g.row.T.Denot). z ≢ []) c.in-Some-split_first.chunk.now c.in-Some-split_first.later.now (subst (λ (zs : List (List g.row.T.Denot)). AreFull zs) c.in-Some-split_first.ensures.cases.0 c.self.invariant)
