use Rattle.std.proofs.Common.{◌∙◌, sym}
use Rattle.gql_single_root.proofs.Whole.{none_once, of_other_kind, no_query, no_mutation}
use Rattle.gql_single_root.proofs.v30_single_root_field.operation_faults.Goals as goal

pub returns-in-Query-clause-found : goal.returns-in-Query-clause-found
returns-in-Query-clause-found g c =
    of_other_kind (g.W.World.facts c.args.world.now) c.args.definition.now c.args.operation.now _ c.requires.tree (λ e. no_query (sym c.in-Query.is ∙ e)) c.new.ensures.empty

pub returns-in-Query-clause-once : goal.returns-in-Query-clause-once
returns-in-Query-clause-once g c = none_once _ c.new.ensures.empty

pub returns-in-Mutation-clause-found : goal.returns-in-Mutation-clause-found
returns-in-Mutation-clause-found g c =
    of_other_kind (g.W.World.facts c.args.world.now) c.args.definition.now c.args.operation.now _ c.requires.tree (λ e. no_mutation (sym c.in-Mutation.is ∙ e)) c.new-in-Mutation.ensures.empty

pub returns-in-Mutation-clause-once : goal.returns-in-Mutation-clause-once
returns-in-Mutation-clause-once g c = none_once _ c.new-in-Mutation.ensures.empty
