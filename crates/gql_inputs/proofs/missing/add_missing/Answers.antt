use Rattle.std.proofs.Common.{arith, map}
use Rattle.std.proofs.lemmas.Grind.{common_steps}
use Rattle.gql_types.proofs.Filtering.{passes}
use Rattle.gql_inputs.specs.BadValues.{missing}
use Rattle.gql_inputs.specs.Lookups.{field_form, fields_in, is_required, required_in}
use Rattle.gql_inputs.specs.Values.{given_field}
use Rattle.gql_inputs.proofs.MissingFields.{same_missing, one_more, of_required}
use Rattle.gql_inputs.proofs.missing.add_missing.Goals as goal

pub add_if_missing-requires : goal.add_if_missing-requires
add_if_missing-requires g c = passes is_required (fields_in (g.T.InputType.form c.args.of_type.now)) c.loop-index.index (field_form c.required_at-field.result) c.required_at-field.ensures

pub loop-index-preserved : goal.loop-index-preserved
loop-index-preserved g c = let f = field_form c.required_at-field.result in grind (
  arith,
  common_steps,
  c.loop-index.invariant,
  c.in_ok-add_if_missing.ensures,
  same_missing c.args.place f (c.in_ok-names.ensures f.name) (c.in_ok-nulls.ensures f.name),
  one_more (missing c.args.place (map given_field c.args.fields.now)) (required_in (g.T.InputType.form c.args.of_type.now)) c.loop-index.index f c.required_at-field.ensures,
)

pub returns : goal.returns
returns g c = grind (
  arith,
  common_steps,
  c.loop-index.invariant,
  of_required c.args.place (map given_field c.args.fields.now) (fields_in (g.T.InputType.form c.args.of_type.now)),
)
