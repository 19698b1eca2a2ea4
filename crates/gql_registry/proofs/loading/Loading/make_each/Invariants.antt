use Rattle.std.proofs.Common.{ℕ, take}
use Rattle.gql_registry.specs.Changes.{edit_of}
use Rattle.gql_registry.specs.Edits.{MakesAll}
use Rattle.gql_registry.specs.Working.{state_in}
use Rattle.gql_verdict.specs.FileOrder.{AreFilesPlaced}
use Rattle.serde_json.specs.Data.{Data}
use Rattle.gql_registry.proofs.loading.Loading.make_each.Given as goal

abbrev pub invariant-loop-at : goal.invariant-loop-at
invariant-loop-at l = record {
  made : (stored : Data) (revision : ℕ) → MakesAll (state_in stored revision l.fn.self) (edit_of (take l.at l.edit)) (state_in stored revision l.self);
  placed : AreFilesPlaced l.fn.self.files.documents → AreFilesPlaced l.self.files.documents;
}
