use Rattle.std.proofs.Common.{◌≡◌, rules}
use Rattle.gql_pairs.proofs.Searching.{as_entry}
use Rattle.gql_pairs.proofs.table.PairTable.get.Goals as goal

pub returns-clause-value : goal.returns-clause-value
returns-clause-value c =
    let same : c.as_slice.result.now ≡ c.args.self.now = search rules in
    as_entry c.as_slice.result.now c.args.self.now c.args.first.now c.args.second.now c.in_ok-found.found same c.in_ok-found.ensures.value
