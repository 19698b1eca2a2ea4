use Rattle.std.proofs.Common.{refl}
use Rattle.gql_collect.specs.Collection.{groups_from}
use Rattle.gql_collect.proofs.Ending.{all_end}
use Rattle.gql_collect.proofs.laws.some_collection.Goals as goal

pub returns : goal.returns
returns c = λ g t xs acyclic.
    let e = all_end g t xs acyclic in
    (groups_from e.nodes, record { nodes = e.nodes; unfolds = e.unfolds; are = refl })
