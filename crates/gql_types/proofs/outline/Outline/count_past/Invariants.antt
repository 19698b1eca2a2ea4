use Rattle.std.proofs.Common.{◌≡◌, ◌+◌, if◌then◌else◌}
use Rattle.gql_types.specs.Outlines.{count_types, files_past}
use Rattle.gql_types.proofs.outline.Outline.count_past.Given as goal

-- what is left to count
abbrev pub invariant-loop-other : goal.invariant-loop-other
invariant-loop-other l = l.count + count_types (if l.is_past then l.other-iterator else files_past l.name l.other-iterator)
    ≡ count_types (files_past l.name l.self.files)
