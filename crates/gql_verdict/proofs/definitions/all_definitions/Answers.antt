use Rattle.std.proofs.Common.{subst}
use Rattle.std.specs.List.Sorted.{IsStrictlySortedBy}
use Rattle.gql_ast.specs.FileMaps.{name_order}
use Rattle.gql_verdict.proofs.FileLists.{file_names, in_order}
use Rattle.gql_verdict.proofs.definitions.all_definitions.Goals as goal

pub returns-in_err-add_definitions-clause-order : goal.returns-in_err-add_definitions-clause-order
returns-in_err-add_definitions-clause-order c = in_order c.args.documents.now
    (subst (λ files. IsStrictlySortedBy name_order (file_names files)) c.entries.ensures.files c.entries.ensures.ordered)

pub returns-clause-order : goal.returns-clause-order
returns-clause-order c = in_order c.args.documents.now
    (subst (λ files. IsStrictlySortedBy name_order (file_names files)) c.entries.ensures.files c.entries.ensures.ordered)
