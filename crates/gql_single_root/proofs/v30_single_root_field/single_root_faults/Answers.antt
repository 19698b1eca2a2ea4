use Rattle.gql_single_root.proofs.Whole.{none_once, of_other_tree}
use Rattle.gql_single_root.proofs.v30_single_root_field.single_root_faults.Goals as goal

pub returns-in_default-clause-found : goal.returns-in_default-clause-found
returns-in_default-clause-found g c =
    of_other_tree (g.W.World.facts c.args.world.now) c.args.definition.now _ (λ o e. c.in_default.not-Operation o e) c.new.ensures.empty

pub returns-in_default-clause-once : goal.returns-in_default-clause-once
returns-in_default-clause-once g c = none_once _ c.new.ensures.empty
