use Rattle.std.proofs.Common.{subst}
use Rattle.std.specs.Map.{keys_of}
use Rattle.std.specs.Option.{option_copied}
use Rattle.std.specs.List.Sorted.{IsStrictlySortedBy}
use Rattle.gql_ast.specs.FileMaps.{name_order}
use Rattle.gql_registry.proofs.KeptOperations.{index_edited}
use Rattle.gql_registry.proofs.operations.Operations.edited.Goals as goal

pub returns : goal.returns
returns c =
    let sorted : IsStrictlySortedBy name_order (keys_of c.args.documents.now) = subst (λ es. IsStrictlySortedBy name_order (keys_of es)) c.entries-in_order.ensures.files c.entries-in_order.ensures.ordered in
    λ files index found made. index_edited files c.args.documents.now c.args.name.now (option_copied c.args.before) (option_copied c.args.after) c.args.self.now (record { all = c.in_ok-all.all })
    c.in_ok-goes.goes c.in_ok-comes.comes index found made sorted c.in_ok-goes.ensures c.in_ok-comes.ensures c.in_ok-all.ensures
