use Rattle.std.proofs.Common.{◌≡◌, true, false, arith, map, sym, ◌∙◌}
use Rattle.std.proofs.lemmas.Grind.{common_steps}
use Rattle.gql_inputs.specs.BadValues.{is_given, is_null_given, lacks, missing}
use Rattle.gql_inputs.specs.Lookups.{field_form, fields_in, required_in}
use Rattle.gql_inputs.specs.Values.{given_field}
use Rattle.gql_inputs.proofs.CleanLists.{missing_found}
use Rattle.gql_inputs.proofs.MissingFields.{lacks_at, not_missing, one_more, of_required}
use Rattle.gql_inputs.proofs.missing.gives_required.Goals as goal

pub returns-then-lacks : goal.returns-then-lacks
returns-then-lacks g c = λ place.
    let f = field_form c.required_at-field.result in
    let given = map given_field c.args.fields.now in
    let lacked : lacks (is_given given f.name) (is_null_given given f.name) ≡ true = lacks_at given c.as_str.ensures (c.in_ok-names.ensures _) (c.in_ok-nulls.ensures _) (sym c.lacks.ensures ∙ c.if-lacks.true) in
    sym (missing_found place given (fields_in (g.T.InputType.form c.args.of_type.now)) c.loop-index.index f c.required_at-field.ensures lacked)

pub loop-index-preserved : goal.loop-index-preserved
loop-index-preserved g c = λ place.
    let f = field_form c.required_at-field.result in
    let given = map given_field c.args.fields.now in
    let there : lacks (is_given given f.name) (is_null_given given f.name) ≡ false = lacks_at given c.as_str.ensures (c.in_ok-names.ensures _) (c.in_ok-nulls.ensures _) (sym c.lacks.ensures ∙ c.if-lacks.false) in
    let more = one_more (missing place given) (required_in (g.T.InputType.form c.args.of_type.now)) c.loop-index.index f c.required_at-field.ensures in
    grind (arith, common_steps, c.loop-index.invariant place, not_missing place given f there, more)

pub returns : goal.returns
returns g c = λ place. grind (
  arith,
  common_steps,
  c.loop-index.invariant place,
  of_required place (map given_field c.args.fields.now) (fields_in (g.T.InputType.form c.args.of_type.now)),
)
