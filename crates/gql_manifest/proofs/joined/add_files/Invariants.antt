use Rattle.std.proofs.Common.{◌≡◌, ◌++◌}
use Rattle.std.specs.Vec.Iter.{into_iter_items}
use Rattle.gql_manifest.specs.Joining.{files_made}
use Rattle.gql_manifest.proofs.joined.add_files.Given as goal

abbrev pub invariant-loop-one : goal.invariant-loop-one
invariant-loop-one l = l.files.items ++ files_made (into_iter_items l.one-iterator) ≡ l.fn.files.items ++ files_made l.fn.made.items
