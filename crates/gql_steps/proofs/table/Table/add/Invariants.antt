use Rattle.std.proofs.Common.{◌≡◌}
use Rattle.gql_steps.proofs.table.Table.add.Given as goal

abbrev pub invariant-loop-i : goal.invariant-loop-i
invariant-loop-i l = record {
  entries : l.self.entries ≡ l.initial.self.entries;
  links : l.self.links ≡ l.initial.self.links;
}
