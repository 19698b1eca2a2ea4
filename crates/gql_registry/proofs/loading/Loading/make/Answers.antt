use Rattle.std.proofs.Common.{sym, subst}
use Rattle.gql_registry.specs.declared.loading.Loading.{Loading}
use Rattle.gql_registry.proofs.Loads.{file_placed, left_placed}
use Rattle.gql_verdict.specs.FileOrder.{AreFilesPlaced}
use Rattle.gql_registry.proofs.loading.Loading.make.Goals as goal
use Rattle.gql_registry.proofs.loading.Loading.make.Goals.{in-Put+in_ok-put_file-in-Put, in-Remove+in_ok-remove_file-in-Remove, in-PutData+in_ok-data-in-PutData, in-SetData+in_ok-data-in-SetData}

pub returns-clause-placed : goal.returns-clause-placed
returns-clause-placed c = λ all.
    elim c.match-change.branch [
      | in-Put+in_ok-put_file-in-Put w ↦ subst (λ (l : Loading). AreFilesPlaced l.files.documents) (sym w.self-is) (file_placed _ _ _ _ _ w.in_ok-put_file-in-Put.ensures.put all)
      | in-Remove+in_ok-remove_file-in-Remove w ↦ subst (λ (l : Loading). AreFilesPlaced l.files.documents) (sym w.self-is) (left_placed _ _ _ _ w.in_ok-remove_file-in-Remove.ensures.removed all)
      | in-PutData+in_ok-data-in-PutData w ↦ subst (λ (l : Loading). AreFilesPlaced l.files.documents) (sym w.self-is) all
      | in-SetData+in_ok-data-in-SetData w ↦ subst (λ (l : Loading). AreFilesPlaced l.files.documents) (sym w.self-is) all
    ]
