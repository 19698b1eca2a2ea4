use Rattle.std.proofs.Common.{subst}
use Rattle.std.proofs.lemmas.List.{take_all}
use Rattle.gql_registry.specs.Changes.{edit_of}
use Rattle.gql_registry.specs.Edits.{MakesAll, done}
use Rattle.gql_registry.specs.Working.{state_in}
use Rattle.gql_registry.proofs.InTurn.{change_more, change_refused}
use Rattle.gql_registry.proofs.loading.Loading.make_each.Goals as goal

pub loop-at-init : goal.loop-at-init
loop-at-init c = record { made = λ stored revision. done; placed = λ all. all }

pub loop-at-preserved : goal.loop-at-preserved
loop-at-preserved c = record {
  made = λ stored revision.
      change_more (state_in stored revision c.args.self.now) (state_in stored revision c.loop-at.self) (state_in stored revision c.make.new.self) c.args.edit.now c.loop-at.at c.index-edit-at.result c.loop-at-test.true c.index-edit-at.is
      (c.loop-at.invariant.made stored revision) (c.in_default.ensures.made stored revision);
  placed = λ all. c.in_default.ensures.placed (c.loop-at.invariant.placed all);
}

pub returns-in-Err-clause-err : goal.returns-in-Err-clause-err
returns-in-Err-clause-err c = λ stored revision.
    change_refused (state_in stored revision c.args.self.now) (state_in stored revision c.loop-at.self) c.args.edit.now c.loop-at.at c.index-edit-at.result c.in-Err.refusal c.loop-at-test.true c.index-edit-at.is
    (c.loop-at.invariant.made stored revision) (c.in-Err.ensures.err stored revision)

pub returns-clause-made : goal.returns-clause-made
returns-clause-made c = λ stored revision.
    subst (λ e. MakesAll (state_in stored revision c.args.self.now) (edit_of e) (state_in stored revision c.loop-at.self)) (take_all _ _ c.loop-at-test.false) (c.loop-at.invariant.made stored revision)

pub returns-clause-placed : goal.returns-clause-placed
returns-clause-placed c = c.loop-at.invariant.placed
