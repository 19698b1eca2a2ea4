use Rattle.std.proofs.Common.{◌≡◌, ◌+◌}
use Rattle.gql_types.specs.Outlines.{count_types, files_until}
use Rattle.gql_types.proofs.outline.Outline.count_until.Given as goal

abbrev pub invariant-loop-other : goal.invariant-loop-other
invariant-loop-other l = l.count + count_types (files_until l.name l.other-iterator) ≡ count_types (files_until l.name l.self.files)
