use Rattle.std.proofs.Common.{◌≡◌, take}
use Rattle.gql_merge.specs.Numbers.{aspects_of}
use Rattle.gql_merge.proofs.columns.aspects_of.Given as goal

abbrev pub invariant-loop-field : goal.invariant-loop-field
invariant-loop-field l = l.texts.items ≡ aspects_of l.aspect (take l.field-index l.all)
