use Rattle.std.proofs.Common.{◌≡◌, ◌∙◌, Some, arith, ap, option_map, sym}
use Rattle.serde_json.specs.Data.{depth}
use Rattle.serde_json.specs.View.{view}
use Rattle.gql_push.specs.Batches as spec
use Rattle.gql_push.specs.Plans.{changes_of}
use Rattle.gql_push.specs.Resources.{entries_of}
use Rattle.gql_push.proofs.Depths.{past, within}
use Rattle.gql_push.proofs.batch.body_of.Goals as goal

pub returns-then-not-nests_within : goal.returns-then-not-nests_within
returns-then-not-nests_within c =
    let value = view c.in-Some.value in
    let says : spec.batch_of (entries_of c.args.resources.now) c.args.files.now (changes_of c.args.edits.now) ≡ Some value =
    sym c.in_ok-value.ensures ∙ ap (option_map view) c.in-Some.is in
    spec.too_deep value says (past (depth value) 127 (sym c.nests_within.ensures ∙ c.if-not-nests_within.true))

pub returns-then-len-most : goal.returns-then-len-most
returns-then-len-most c =
    let value = view c.in-Some.value in
    let says : spec.batch_of (entries_of c.args.resources.now) c.args.files.now (changes_of c.args.edits.now) ≡ Some value =
    sym c.in_ok-value.ensures ∙ ap (option_map view) c.in-Some.is in
    let shallow = within (depth value) 127 (sym c.nests_within.ensures ∙ c.if-not-nests_within.false) in
    spec.too_long value c.in_ok-body.body.items says (c.in_ok-body.ensures.reads_back shallow) (omega (arith, c.if-len-most.true, c.len.ensures))
