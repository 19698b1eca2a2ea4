use Rattle.std.proofs.Common.{ap, sym, ◌∙◌}
use Rattle.gql_collect.specs.Collection.{groups_from}
use Rattle.gql_collect.proofs.Walking.{one_unfolding}
use Rattle.gql_collect.proofs.laws.one_collection.Goals as goal

pub returns : goal.returns
returns c = λ g t xs some other a b.
    a.are ∙ ap groups_from (one_unfolding g t a.unfolds b.unfolds) ∙ sym b.are
