-- What is found in files: their report, with places in given texts, and their operations.
use Rattle.std.specs.Prelude.{◌≡◌, ◌↔◌, List, IsTrue, flat_map}
use Rattle.std.specs.List.{AllZip}
use Rattle.gql_ast.specs.declared.fault.Fault.{Fault}
use Rattle.gql_ast.specs.declared.files.Files.{Files}
use Rattle.gql_facts.specs.Facts.{fact_of}
use Rattle.gql_findings.specs.declared.finding.Findings.{Findings}
use Rattle.gql_found.specs.Affected.{AreAffected}
use Rattle.gql_found.specs.Findings.{IsFinding, operation_in}
use Rattle.gql_found.specs.Owners.{is_owner}
use Rattle.gql_found.specs.Spots.{files_of}
use Rattle.gql_found.specs.declared.reported.Reported.{Reported}
use Rattle.gql_found.specs.declared.sources.Sources.{Sources}
use Rattle.gql_registry.specs.Report.{IsReport, IsSound}
use Rattle.gql_verdict.specs.Definitions.{all_definitions}

-- What is found in files that have these texts and this report: the texts; a finding for each fault
-- of the report, in its order; the operations, and those that are not served; and whether the schema
-- has a fault.
pub record IsFoundBy (s : Sources) (files : Files) (faults : List Fault) (found : Findings)
    : Type 0 where
  pub report : IsReport files faults
  pub sources : found.sources.items ≡ files_of s
  pub findings : AllZip (IsFinding s files (all_definitions files.documents)) faults
      found.findings.items
  pub operations : found.operations.items
      ≡ flat_map (operation_in s) (all_definitions files.documents)
  pub affected : AreAffected s (fact_of files) (is_owner faults) (all_definitions files.documents)
      found.affected.items
  pub schema_is_faulty : IsTrue found.schema_is_faulty ↔ (IsSound files → ⊥)

-- this is the report of files that have these texts, and what is found in them
abbrev pub IsReported : Sources → Files → Reported → Type 0
IsReported s files r = IsFoundBy s files r.faults.items r.found

-- this is found in files that have these texts
pub record IsFound (s : Sources) (files : Files) (found : Findings) : Type 0 where
  pub faults : List Fault
  pub by : IsFoundBy s files faults found
