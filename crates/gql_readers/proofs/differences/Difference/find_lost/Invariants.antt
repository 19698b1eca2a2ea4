use Rattle.std.proofs.Common.{◌≡◌, ◌++◌, take}
use Rattle.gql_readers.specs.Replacements.{answers_to}
use Rattle.gql_readers.proofs.differences.Difference.find_lost.Given as goal

abbrev pub invariant-loop-answer : goal.invariant-loop-answer
invariant-loop-answer l = record {
  went : l.self.went.items ≡ l.fn.self.went.items;
  lost : l.self.lost.keys ≡ l.fn.self.lost.keys;
  came : l.self.came.items ≡ l.fn.self.came.items ++ answers_to l.fn.self.lost.keys (take l.answer-index l.answers);
}
