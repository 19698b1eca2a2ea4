-- What a check finds, from the report of its files.
use Rattle.gql_ast.specs.declared.files.Files.{Files}
use Rattle.gql_found.specs.Found.{IsFound, IsReported}
use Rattle.gql_found.specs.declared.reported.Reported.{Reported}
use Rattle.gql_found.specs.declared.sources.Sources.{Sources}

pub found : (s : Sources) (files : Files) (r : Reported) → IsReported s files r → IsFound s files r.found
found s files r is = record { faults = r.faults.items; by = is }
