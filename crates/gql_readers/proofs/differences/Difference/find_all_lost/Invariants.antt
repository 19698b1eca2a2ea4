use Rattle.std.proofs.Common.{◌≡◌, ◌++◌, take}
use Rattle.gql_readers.specs.Replacements.{answers_to, seen_of_all}
use Rattle.gql_readers.proofs.differences.Difference.find_all_lost.Given as goal

abbrev pub invariant-loop-part : goal.invariant-loop-part
invariant-loop-part l = record {
  went : l.self.went.items ≡ l.fn.self.went.items;
  lost : l.self.lost.keys ≡ l.fn.self.lost.keys;
  came : l.self.came.items ≡ l.fn.self.came.items ++ answers_to l.fn.self.lost.keys (l.after.own.record ++ seen_of_all (take l.part-index l.after.parts.items));
}
