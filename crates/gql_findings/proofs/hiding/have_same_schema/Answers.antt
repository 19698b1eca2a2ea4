use Rattle.std.proofs.Common.{◌∙◌, ap, map, sym}
use Rattle.std.specs.Cmp.Derive.Mapped.{pointwise-map}
use lib.Pointwise.{pointwise}
use Rattle.gql_findings.specs.Comparing.{are_same_file, schema_files}
use Rattle.gql_findings.specs.Keys.{texts_in}
use Rattle.gql_findings.proofs.hiding.have_same_schema.Goals as goal

pub returns : goal.returns
returns c =
    let here = c.in_ok-files.files.items in
    let there = c.in_ok-others.others.items in
    c.eq.ensures
    ∙ ap (λ xs. pointwise (λ a b. are_same_file (texts_in a) (texts_in b)) xs c.as_slice-2.result.now) c.as_slice.ensures.value
    ∙ ap (λ ys. pointwise (λ a b. are_same_file (texts_in a) (texts_in b)) here ys) c.as_slice-2.ensures.value
    ∙ sym (pointwise-map texts_in are_same_file here there)
    ∙ ap (λ xs. pointwise are_same_file xs (map texts_in there)) c.in_ok-files.ensures
    ∙ ap (λ ys. pointwise are_same_file (schema_files c.args.one.now) ys) c.in_ok-others.ensures
