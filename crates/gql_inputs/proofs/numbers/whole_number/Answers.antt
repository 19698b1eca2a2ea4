use Rattle.std.proofs.Common.{◌∙◌, w64}
use Rattle.gql_inputs.proofs.Wholes.{whole, read}
use Rattle.gql_inputs.proofs.numbers.whole_number.Goals as goal

pub returns : goal.returns
returns c = c.ok.ensures.value ∙ read c.parse.result _ _ _ c.parse.ensures.value.0 (whole w64 c.args.text.now c.parse.result c.parse.ensures.value.0)
