use Rattle.std.proofs.Common.{◌∙◌, ap}
use Rattle.gql_registry.proofs.ChosenOperations.{chosen_only, more_kept, none_kept, one_kept, only_kept}
use Rattle.gql_registry.proofs.operations.Operations.only.Goals as goal

pub returns-in-Some : goal.returns-in-Some
returns-in-Some c = λ documents index.
    more_kept c.iter-items.result c.next-first.new.self c.next.new.self c.next-first.result c.in-Some.field-0.now c.next-first.ensures.steps c.in-Some.ensures.steps
    ∙ ap only_kept c.iter-items.ensures.items ∙ chosen_only documents c.args.self.now index

pub returns-in-Some-first : goal.returns-in-Some-first
returns-in-Some-first c = λ documents index.
    one_kept c.iter-items.result c.next-first.new.self c.in-Some-first.operation.now c.in-Some-first.ensures.steps c.in-None.ensures.steps.0
    ∙ ap only_kept c.iter-items.ensures.items ∙ chosen_only documents c.args.self.now index

pub returns-in-None-first : goal.returns-in-None-first
returns-in-None-first c = λ documents index.
    none_kept c.iter-items.result c.in-None-first.ensures.steps.0
    ∙ ap only_kept c.iter-items.ensures.items ∙ chosen_only documents c.args.self.now index
