use Rattle.std.proofs.Common.{◌≡◌, ap, get_or, refl, rules, sym}
use Rattle.gql_merge.proofs.NumberedFields.{number_at}
use Rattle.gql_merge.proofs.numbers.numbered_field.Goals as goal

pub returns : goal.returns
returns c = λ d.
    let all = c.args.all.now in
    let i = c.args.place in
    let columns = c.args.columns.now in
    let file : get_or columns.files.items i c.index.result.now ≡ c.index.result.now = search rules in
    let name : get_or columns.names.items i c.index-2.result.now ≡ c.index-2.result.now = search rules in
    let parent : get_or columns.parents.items i c.index-3.result.now ≡ c.index-3.result.now = search rules in
    let call : get_or columns.calls.items i c.index-4.result.now ≡ c.index-4.result.now = search rules in
    let shape : get_or columns.shapes.items i c.index-5.result.now ≡ c.index-5.result.now = search rules in
    number_at all columns i c.index-all-place.result d _ c.requires.columns c.requires.place (sym c.index-all-place.is)
    file (ap (λ n. n.place.offset) c.own_name.ensures) name parent refl call shape c.below_of.ensures
