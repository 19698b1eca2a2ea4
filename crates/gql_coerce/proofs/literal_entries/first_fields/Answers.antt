use Rattle.std.proofs.Common.{rules}
use Rattle.gql_coerce.specs.LiteralEntries.{name_of}
use Rattle.gql_coerce.proofs.Firsts.{first_step, seen_step}
use Rattle.gql_coerce.proofs.literal_entries.first_fields.Goals as goal

pub loop-field-preserved : goal.loop-field-preserved
loop-field-preserved c =
    let before = c.loop-field.invariant in (
      λ q. seen_step name_of q c.args.fields.now c.loop-field.field-index c.field-item.result _ _ (search rules) (search rules) (before.0 q) (c.in_ok-add_first.ensures.names q),
      first_step name_of c.args.fields.now c.loop-field.field-index c.field-item.result _ _ _ (search rules) (search rules) (before.0 (name_of c.field-item.result)) before.1 c.in_ok-add_first.ensures.firsts,
    )
