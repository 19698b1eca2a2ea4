use Rattle.std.proofs.Common.{bytes_eq, take}
use Rattle.std.specs.HashMap as hash
use Rattle.gql_clashes.specs.Adding.{Adds}
use Rattle.gql_merge.specs.BadPairs.{IsClashInRow}
use Rattle.gql_merge.proofs.two_fragments.add_row.Given as goal

abbrev pub invariant-loop-second : goal.invariant-loop-second
invariant-loop-second l = Adds (IsClashInRow l.numbered l.all (λ q. hash.get_by (λ k. bytes_eq q k.now) l.numbers) l.first (take l.second-index l.others))
    l.fn.found.items l.found.items
