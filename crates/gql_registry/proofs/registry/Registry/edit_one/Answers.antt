use Rattle.std.proofs.Common.{◌≡◌, Ok, Err, false, subst, sym}
use Rattle.gql_registry.specs.Changes.{change_of, edit_of}
use Rattle.gql_registry.specs.Edits.{Makes, changes_files}
use Rattle.gql_registry.specs.State.{shelf_of, state_of}
use Rattle.gql_registry.specs.Works.{Works}
use Rattle.gql_registry.proofs.Answered.{alone}
use Rattle.gql_registry.proofs.registry.Registry.edit_one.Goals as goal

pub returns-in-Ok-clause-makes : goal.returns-in-Ok-clause-makes
returns-in-Ok-clause-makes c =
    subst (λ cs. Makes (state_of c.args.self.now) c.args.expected (edit_of cs) (Ok c.in-Ok.edited) (state_of c.edit.new.self)) c.from_ref.ensures.value c.in-Ok.ensures.makes

pub returns-in-Ok-clause-works : goal.returns-in-Ok-clause-works
returns-in-Ok-clause-works c = c.in-Ok.ensures.works

pub returns-in-Ok-clause-idle : goal.returns-in-Ok-clause-idle
returns-in-Ok-clause-idle c = λ none.
    c.edit.ensures.idle (subst (λ cs. changes_files (edit_of cs) ≡ false) (sym c.from_ref.ensures.value) none)

pub returns-clause-makes : goal.returns-clause-makes
returns-clause-makes c =
    let made = subst (λ cs. Makes (state_of c.args.self.now) c.args.expected (edit_of cs) (Err c.in-Err.refused) (state_of c.edit.new.self)) c.from_ref.ensures.value c.in-Err.ensures.makes in
    (alone (state_of c.args.self.now) c.args.expected (change_of c.args.change) c.in-Err.refused made.0, made.1)

pub returns-clause-works : goal.returns-clause-works
returns-clause-works c =
    subst (λ cs. Works (state_of c.args.self.now) c.args.expected (shelf_of c.args.self.now) (edit_of cs) (Err c.in-Err.refused) (state_of c.edit.new.self) c.args.meter.now c.edit.new.meter) c.from_ref.ensures.value c.in-Err.ensures.works

pub returns-clause-idle : goal.returns-clause-idle
returns-clause-idle c = λ none.
    c.edit.ensures.idle (subst (λ cs. changes_files (edit_of cs) ≡ false) (sym c.from_ref.ensures.value) none)
