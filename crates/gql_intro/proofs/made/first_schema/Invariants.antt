use Rattle.std.proofs.Common.{◌≡◌}
use Rattle.gql_intro.specs.Made.{first_schema}
use Rattle.gql_intro.proofs.made.first_schema.Given as goal

abbrev pub invariant-loop-file : goal.invariant-loop-file
invariant-loop-file l = first_schema l.files ≡ first_schema l._file-iterator
