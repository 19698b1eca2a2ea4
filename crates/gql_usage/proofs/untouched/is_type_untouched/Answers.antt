use Rattle.gql_usage.proofs.Left.{type_left}
use Rattle.gql_usage.proofs.untouched.is_type_untouched.Goals as goal

pub returns : goal.returns
returns c = λ t. type_left c.args.removal.now c.args.of_type.now (c.is_type_spared.ensures.kind t) (c.is_type_spared.ensures.possible t) (c.is_type_spared.ensures.input t) (c.is_type_spared.ensures.values t)
