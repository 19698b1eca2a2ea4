use Rattle.std.proofs.Common.{◌≡◌, ◌++◌, ℕ, List, Contains, drop, filter}
use Rattle.gql_types.specs.Possible.{in_order}
use Rattle.gql_intro.specs.EditedNames.{is_kept}
use Rattle.gql_intro.specs.Runs.{names_of}
use Rattle.gql_intro.specs.SortedNames.{AreSorted}
use Rattle.gql_intro.proofs.edited_runs.edited_runs.Given as goal

abbrev pub invariant-loop-i : goal.invariant-loop-i
invariant-loop-i l = record {
  whole : in_order (filter (is_kept l.gone) (names_of l.runs) ++ l.fn.came)
      ≡ l.made ++ in_order (filter (is_kept l.gone) (names_of (drop l.i l.runs)) ++ l.came);
  went : AreSorted l.went;
  came : AreSorted l.came;
  gone : (n : List ℕ) → Contains (names_of (drop l.i l.runs)) n → Contains l.gone n → Contains l.went n;
}
