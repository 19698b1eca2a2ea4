use Rattle.std.proofs.Common.{◌∙◌, w32}
use Rattle.gql_inputs.proofs.Wholes.{whole}
use Rattle.gql_inputs.proofs.numbers.is_int.Goals as goal

pub returns : goal.returns
returns c = c.is_ok.ensures.value ∙ whole w32 c.args.text.now c.parse.result c.parse.ensures.value.0
