use Rattle.std.proofs.Common.{◌≡◌, ℕ, ◌<◌, get_or}
use Rattle.gql_single_root.specs.Walks.{found_of, name_of}
use Rattle.gql_single_root.specs.declared.walk.RootField.{RootField}
use Rattle.gql_single_root.proofs.faults.are_several.Given as goal

abbrev pub invariant-loop-field : goal.invariant-loop-field
invariant-loop-field l = (k : ℕ) (d : RootField) → k < l.field-index
    → name_of (found_of (get_or l.fields k d)) ≡ name_of (found_of (get_or l.fields 0 d))
