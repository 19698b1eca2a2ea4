use Rattle.std.proofs.Common.{rules}
use Rattle.std.proofs.Common.{◌≡◌}
use Rattle.std.specs.declared.cmp.Ordering.TheVariants.{Less}
use Rattle.gql_ast.specs.FileMaps.{name_order}
use Rattle.gql_intro.proofs.Sorting.{all_after}
use Rattle.gql_intro.proofs.edited_runs.count_to.Goals as goal

pub returns-then-is_before-clause-later : goal.returns-then-is_before-clause-later
returns-then-is_before-clause-later c =
    let less : name_order c.args.last.now c.index-names-count.result ≡ Less = search rules in
    all_after c.args.last.now c.args.names.now c.loop-count.count c.index-names-count.result c.requires (search rules) c.index-names-count.is less
