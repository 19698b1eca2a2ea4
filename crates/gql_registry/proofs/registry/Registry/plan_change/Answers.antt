use Rattle.std.proofs.Common.{◌≡◌, ◌∷◌, [], true, refl, sym, subst}
use Rattle.gql_ast.specs.declared.files.Files.{Files}
use Rattle.gql_registry.specs.Changes.{change_of}
use Rattle.gql_registry.specs.DataBodies.{IsDataText, is_data}
use Rattle.gql_registry.specs.Edits.{put, put_data, remove, set_data}
use Rattle.gql_registry.specs.Planning.{IsPlannedFor}
use Rattle.gql_registry.specs.State.{state_of, with_data}
use Rattle.gql_registry.specs.Working.{Takes}
use Rattle.gql_registry.specs.declared.change.Change.{Change as GivenChange}
use Rattle.gql_registry.proofs.Loads.{data_puts, value_puts}
use Rattle.gql_registry.proofs.Plans.{change_planned, value_planned}
use Rattle.serde_json.specs.Data.{Data}
use Rattle.serde_json.specs.View.{view}
use Rattle.gql_registry.proofs.registry.Registry.plan_change.Goals as goal

pub returns-in_ok-plan_put-in-Put-clause-planned :
    goal.returns-in_ok-plan_put-in-Put-clause-planned
returns-in_ok-plan_put-in-Put-clause-planned c =
    let s = state_of c.args.self.now in
    subst (λ (g : GivenChange). IsPlannedFor s (change_of g ∷ []) c.of_files.result) (sym c.in-Put.is)
    (change_planned s (put c.in-Put.side c.in-Put.name c.in-Put.bytes.now) c.in_ok-plan_put-in-Put.field-0 c.of_files.result refl c.of_files.ensures c.in_ok-plan_put-in-Put.ensures.plan)

pub returns-in_ok-plan_removal-in-Remove-clause-planned :
    goal.returns-in_ok-plan_removal-in-Remove-clause-planned
returns-in_ok-plan_removal-in-Remove-clause-planned c =
    let s = state_of c.args.self.now in
    subst (λ (g : GivenChange). IsPlannedFor s (change_of g ∷ []) c.of_files-in-Remove.result) (sym c.in-Remove.is)
    (change_planned s (remove c.in-Remove.side c.in-Remove.name) c.in_ok-plan_removal-in-Remove.field-0 c.of_files-in-Remove.result refl c.of_files-in-Remove.ensures c.in_ok-plan_removal-in-Remove.ensures.plan)

pub returns-in_ok-read_data-in-PutData-clause-planned :
    goal.returns-in_ok-read_data-in-PutData-clause-planned
returns-in_ok-read_data-in-PutData-clause-planned c =
    let s = state_of c.args.self.now in
    let v = c.in_ok-read_data-in-PutData.field-0 in
    let bytes = c.in-PutData.bytes.now in
    let read = c.in_ok-read_data-in-PutData.ensures.read in
    subst (λ (g : GivenChange). IsPlannedFor s (change_of g ∷ []) c.of_data.result) (sym c.in-PutData.is)
    (value_planned s (put_data bytes) v c.of_data.result c.of_data.ensures
    (data_puts s.files s.stored s.revision bytes (view v) read.0
    (subst (λ (f : Files). IsDataText f.profile bytes (view v)) c.files.ensures.files read.1)))

pub returns-in_ok-copy_data-in-SetData-clause-planned :
    goal.returns-in_ok-copy_data-in-SetData-clause-planned
returns-in_ok-copy_data-in-SetData-clause-planned c =
    let s = state_of c.args.self.now in
    let v = c.in_ok-copy_data-in-SetData.field-0 in
    let put_in = view c.in-SetData.value.now in
    let copied = c.in_ok-copy_data-in-SetData.ensures.copied in
    subst (λ (g : GivenChange). IsPlannedFor s (change_of g ∷ []) c.of_data-in-SetData.result) (sym c.in-SetData.is)
    (value_planned s (set_data put_in) v c.of_data-in-SetData.result c.of_data-in-SetData.ensures
    (subst (λ (d : Data). Takes s (set_data put_in) (with_data s d)) (sym copied.1)
    (value_puts s.files s.stored s.revision put_in
    (subst (λ (f : Files). is_data f.profile put_in ≡ true) c.files.ensures.files copied.0))))
