use Rattle.std.proofs.Common.{rules, refl, subst}
use Rattle.std.specs.List.Sorted.{IsStrictlySortedBy}
use Rattle.std.specs.Map.{keys_of}
use Rattle.gql_ast.specs.FileMaps.{name_order}
use Rattle.gql_schema_rules.specs.KeptChecks.{IsCheckAfter, IsUnderAfter}
use Rattle.gql_schema_rules.proofs.FirstChecks.{all_first, one_more}
use Rattle.gql_schema_rules.proofs.KeptChecks.{all_after}
use Rattle.gql_schema_rules.proofs.file_checks.checks_after_edit.Goals as goal

pub loop-name-preserved : goal.loop-name-preserved
loop-name-preserved c =
    let sorted = subst (λ es. IsStrictlySortedBy name_order (keys_of es)) c.entries.ensures.files c.entries.ensures.ordered in
    let its = subst (λ d. IsCheckAfter c.args.before.now c.args.edited.now c.args.change.now c.args.schema.now c.in-Some.name.now d c.in_ok-check.check)
    c.get-document.ensures c.in_ok-check.ensures in
    one_more (IsUnderAfter c.args.before.now c.args.edited.now c.args.change.now c.args.schema.now) (λ f v h. h.name)
    c.args.files.now.schema c.loop-name.name-iterator c.next.new.self c.loop-name.checks c.put.new.self
    c.in-Some.name.now c.in-Some.document.now c.in_ok-check.check sorted c.loop-name.invariant (search rules) (record { name = refl; of_file = its }) (search rules)

pub returns : goal.returns
returns c =
    let sorted = subst (λ es. IsStrictlySortedBy name_order (keys_of es)) c.entries.ensures.files c.entries.ensures.ordered in
    all_after c.args.before.now c.args.edited.now c.args.change.now c.args.files.now c.args.schema.now c.loop-name.checks sorted
    (all_first (IsUnderAfter c.args.before.now c.args.edited.now c.args.change.now c.args.schema.now) c.args.files.now.schema c.loop-name.name-iterator c.loop-name.checks c.loop-name.invariant (search rules))
