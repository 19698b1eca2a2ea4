use Rattle.std.proofs.Common.{rules, tests}
use Rattle.std.proofs.lemmas.Iterator.Consumers.{YieldsList-from_filter, count_from_yields_List}
use Rattle.std.proofs.lemmas.Iterator.{YieldsList-from_slice}
use Rattle.gql_push.specs.Unserved.{is_among}
use Rattle.gql_push.proofs.unserved.count_among.Goals as goal

pub returns : goal.returns
returns c = count_from_yields_List c.filter.result _ c.count.ensures.ran
    (YieldsList-from_filter _ (is_among c.args.owners.now) (YieldsList-from_slice c.args.operations.now cc)
    c.filter.ensures.closure (λ x r q k. search (rules, tests)))
