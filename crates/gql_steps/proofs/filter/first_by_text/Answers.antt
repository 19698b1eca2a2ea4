use Rattle.std.proofs.Common.{◌<◌, length, sym, ◌∙◌, arith}
use Rattle.gql_steps.specs.Asked.{text_member}
use Rattle.gql_steps.specs.Resolution.{meets}
use Rattle.gql_steps.proofs.Printing.{found_here, found_later}
use Rattle.gql_steps.proofs.filter.first_by_text.Goals as goal

pub returns-then-has_text : goal.returns-then-has_text
returns-then-has_text c =
    let p = meets (text_member c.args.argument.now) in
    let items = c.args.items.now in
    let item = c.index-items-i.result in
    let within : c.loop-i.i < length items = omega arith in
    sym (c.loop-i.invariant ∙ found_here p items c.loop-i.i item within c.index-items-i.is (sym c.has_text.ensures ∙ c.if-has_text.true))

pub loop-i-preserved : goal.loop-i-preserved
loop-i-preserved c =
    let p = meets (text_member c.args.argument.now) in
    let items = c.args.items.now in
    let item = c.index-items-i.result in
    let within : c.loop-i.i < length items = omega arith in
    c.loop-i.invariant ∙ found_later p items c.loop-i.i item within c.index-items-i.is (sym c.has_text.ensures ∙ c.if-has_text.false)
