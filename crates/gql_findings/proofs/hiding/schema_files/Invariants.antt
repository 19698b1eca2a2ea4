use Rattle.std.proofs.Common.{◌≡◌, map, take}
use Rattle.std.specs.Prelude.{filter}
use Rattle.gql_findings.specs.Comparing.{is_schema_file, path_and_text}
use Rattle.gql_findings.specs.Keys.{texts_in}
use Rattle.gql_findings.proofs.hiding.schema_files.Given as goal

abbrev pub invariant-loop-source : goal.invariant-loop-source
invariant-loop-source l = map texts_in l.files.items ≡ map path_and_text (filter is_schema_file (take l.source-index l.source-items))
