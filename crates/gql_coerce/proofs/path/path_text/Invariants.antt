use Rattle.std.proofs.Common.{◌≡◌, drop, string_bytes}
use Rattle.gql_coerce.specs.Paths.{path_text, path_from}
use Rattle.gql_coerce.proofs.path.path_text.Given as goal

abbrev pub invariant-loop-segment : goal.invariant-loop-segment
invariant-loop-segment l = path_text l.path ≡ path_from (string_bytes l.text) (drop l.segment-index l.path)
