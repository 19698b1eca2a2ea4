use Rattle.std.proofs.Common.{◌≡◌, ◌++◌, map, take}
use Rattle.gql_check.specs.Loads.{indices_of, put_on}
use Rattle.gql_registry.specs.Changes.{edit_of}
use Rattle.gql_check.proofs.loading.add_side.Given as goal

abbrev pub invariant-loop-file : goal.invariant-loop-file
invariant-loop-file l =
    (edit_of l.puts.puts.items ≡ edit_of l.initial.puts.puts.items ++ map (put_on l.side l.given) (take l.file-index l.named))
    × (l.puts.indices.items ≡ l.initial.puts.indices.items ++ indices_of (take l.file-index l.named))
