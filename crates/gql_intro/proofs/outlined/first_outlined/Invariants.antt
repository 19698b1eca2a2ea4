use Rattle.std.proofs.Common.{◌≡◌}
use Rattle.gql_intro.specs.Outlined.{first_outlined}
use Rattle.gql_intro.proofs.outlined.first_outlined.Given as goal

abbrev pub invariant-loop-file : goal.invariant-loop-file
invariant-loop-file l = first_outlined l.files ≡ first_outlined l._file-iterator
