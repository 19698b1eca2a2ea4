use Rattle.std.proofs.Common.{arith, rules, subst, ◌∷◌, []}
use Rattle.gql_types.specs.declared.schema_type.SchemaType.{SchemaType}
use Rattle.gql_iface_rules.specs.Checked.{HasRowsOf}
use Rattle.gql_iface_rules.proofs.KeptRows.{rows_all, rows_more}
use Rattle.gql_iface_rules.proofs.s17_input_object_cycles.keeps_rows.Goals as goal

pub loop-of_type-preserved : goal.loop-of_type-preserved
loop-of_type-preserved c = rows_more c.args.before.now c.args.types.now c.loop-of_type.of_type-index c.of_type-item.result (search rules) (search rules) c.loop-of_type.invariant
    (subst (λ (t : SchemaType). HasRowsOf c.args.before.now (t ∷ [])) c.get.ensures (c.in_ok-has_kept_row.ensures c.if-not-branch.false))

pub returns : goal.returns
returns c = λ e. rows_all c.args.before.now c.args.types.now c.loop-of_type.of_type-index (omega (arith, c.loop-of_type-test.false)) c.loop-of_type.invariant
