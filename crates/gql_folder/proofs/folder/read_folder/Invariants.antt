use Rattle.gql_folder.specs.Folders.{IsFolder, paths_of}
use Rattle.gql_folder.proofs.folder.read_folder.Given as goal

abbrev pub invariant-loop-at : goal.invariant-loop-at
invariant-loop-at l = IsFolder l.limits (paths_of l.files) l.at l.folder
