use Rattle.gql_merge.proofs.SpreadParts.{names_first}
use Rattle.gql_merge.proofs.spread_names.own_names.Goals as goal

pub returns : goal.returns
returns c = names_first c.args.set.now _ c.add_names.new.names.items c.new-names.ensures.items c.in_ok-add_names.ensures
