use Rattle.std.proofs.Common.{bytes_eq, take}
use Rattle.std.specs.HashMap as hash
use Rattle.gql_clashes.specs.Adding.{Adds}
use Rattle.gql_merge.specs.BadPairs.{IsClashInRows}
use Rattle.gql_merge.proofs.two_fragments.add_rows.Given as goal

abbrev pub invariant-loop-first : goal.invariant-loop-first
invariant-loop-first l = Adds (IsClashInRows l.numbered l.all (λ q. hash.get_by (λ k. bytes_eq q k.now) l.numbers) (take l.first-index l.fragments) l.others)
    l.fn.found.items l.found.items
