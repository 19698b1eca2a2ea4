use Rattle.std.proofs.Common.{rules, ◌∙◌, ap, subst}
use Rattle.std.specs.List.Sorted.{IsStrictlySortedBy}
use Rattle.std.specs.Map.{keys_of}
use Rattle.gql_ast.specs.FileMaps.{name_order}
use Rattle.gql_types.specs.Outlines.{outline_of}
use Rattle.gql_types.proofs.FirstOutlines.{one_more}
use Rattle.gql_types.proofs.outline.Outline.of_files.Goals as goal

pub loop-name-preserved : goal.loop-name-preserved
loop-name-preserved c =
    let sorted = subst (λ es. IsStrictlySortedBy name_order (keys_of es)) c.entries.ensures.files c.entries.ensures.ordered in
    one_more c.args.files.now.schema c.loop-name.name-iterator c.next.new.self c.loop-name.found c.put.new.self
    c.in-Some.name.now c.in-Some.document.now c.in_ok-file.file sorted c.loop-name.invariant (search rules)
    (c.in_ok-file.ensures ∙ ap outline_of c.get.ensures) (search rules)
