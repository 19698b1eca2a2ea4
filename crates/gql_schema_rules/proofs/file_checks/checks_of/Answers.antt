use Rattle.std.proofs.Common.{rules, refl, subst}
use Rattle.std.specs.List.Sorted.{IsStrictlySortedBy}
use Rattle.std.specs.Map.{keys_of}
use Rattle.gql_ast.specs.FileMaps.{name_order}
use Rattle.gql_node_rules.specs.FileChecks.{IsCheckOf}
use Rattle.gql_schema_rules.specs.ChecksOfFiles.{IsCheckUnder}
use Rattle.gql_schema_rules.proofs.FirstChecks.{one_more}
use Rattle.gql_schema_rules.proofs.file_checks.checks_of.Goals as goal

pub loop-name-preserved : goal.loop-name-preserved
loop-name-preserved c =
    let sorted = subst (λ es. IsStrictlySortedBy name_order (keys_of es)) c.entries.ensures.files c.entries.ensures.ordered in
    let its = subst (λ d. IsCheckOf c.args.schema.now d c.in_ok-check.check) c.get.ensures c.in_ok-check.ensures in
    one_more (IsCheckUnder c.args.schema.now) (λ f v h. h.name) c.args.files.now.schema c.loop-name.name-iterator c.next.new.self c.loop-name.found c.put.new.self
    c.in-Some.name.now c.in-Some.document.now c.in_ok-check.check sorted c.loop-name.invariant (search rules) (record { name = refl; of_file = its }) (search rules)
