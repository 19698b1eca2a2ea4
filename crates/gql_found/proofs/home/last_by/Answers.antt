use Rattle.std.proofs.Common.{◌∙◌, Some, ap, cond, sym, take}
use Rattle.gql_found.proofs.Homes.{last_more}
use Rattle.gql_found.specs.Homes.{last_by, starts_by}
use Rattle.gql_found.proofs.home.last_by.Goals as goal

pub loop-definition-preserved : goal.loop-definition-preserved
loop-definition-preserved c =
    let ds = c.args.definitions.now in
    let i = c.loop-definition.definition-index in
    let d = c.definition-item.result in
    let offset = c.args.offset in
    c.later-last.ensures
    ∙ ap (λ o. cond (starts_by offset d) (Some d) o) c.loop-definition.invariant
    ∙ ap (λ x. cond (starts_by offset x) (Some x) (last_by offset (take i ds))) c.definition-item.is
    ∙ sym (last_more offset ds i d c.loop-definition-test.true)
