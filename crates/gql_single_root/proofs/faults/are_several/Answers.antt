use Rattle.std.proofs.Common.{◌∙◌, sym, true≢false}
use Rattle.gql_single_root.proofs.Naming.{different, none_different}
use Rattle.gql_single_root.proofs.faults.are_several.Goals as goal

pub returns-then-not-share_name : goal.returns-then-not-share_name
returns-then-not-share_name c =
    different c.args.fields.now c.loop-field.field-index c.index-fields-0.result c.field-item.result c.loop-field-test.true c.index-fields-0.is c.field-item.is
    (λ e. true≢false (sym (c.share_name.ensures.1 e) ∙ c.if-not-share_name.true))

pub returns : goal.returns
returns c = none_different c.args.fields.now c.loop-field.field-index c.loop-field-test.false c.loop-field.invariant
