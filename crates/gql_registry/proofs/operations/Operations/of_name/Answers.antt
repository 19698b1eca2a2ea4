use Rattle.std.proofs.Common.{◌∙◌, ap}
use Rattle.std.specs.Prelude.{option_map}
use Rattle.gql_registry.proofs.ChosenOperations.{chosen_by_name, of_kept}
use Rattle.gql_registry.proofs.operations.Operations.of_name.Goals as goal

pub returns-in-Some : goal.returns-in-Some
returns-in-Some c = λ documents index. ap (option_map of_kept) c.in-Some.ensures ∙ chosen_by_name documents c.args.self.now c.args.name.now index

pub returns-in-None : goal.returns-in-None
returns-in-None c = λ documents index. ap (option_map of_kept) c.in-None.ensures ∙ chosen_by_name documents c.args.self.now c.args.name.now index
