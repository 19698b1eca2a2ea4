-- What is found in files, from its parts.
use Rattle.std.proofs.Common.{◌≡◌, ◌↔◌, List, Bool, true, false, IsTrue, flat_map, refl, sym, subst}
use Rattle.std.specs.Prelude.{not}
use Rattle.std.specs.List.{AllZip}
use Rattle.gql_ast.specs.declared.definition.Definition.{Definition}
use Rattle.gql_ast.specs.declared.fault.Fault.{Fault}
use Rattle.gql_ast.specs.declared.files.Files.{Files}
use Rattle.gql_facts.specs.Facts.{fact_of}
use Rattle.gql_facts.specs.Worlds.{Facts}
use Rattle.gql_findings.specs.declared.finding.Findings.{Findings}
use Rattle.gql_found.specs.Affected.{AreAffected}
use Rattle.gql_found.specs.Findings.{IsFinding, operation_in}
use Rattle.gql_found.specs.Found.{IsFoundBy}
use Rattle.gql_found.specs.Owners.{is_owner}
use Rattle.gql_found.specs.Spots.{files_of}
use Rattle.gql_found.specs.declared.sources.Sources.{Sources}
use Rattle.gql_registry.specs.Report.{IsReport, IsSound}
use Rattle.gql_verdict.specs.Definitions.{all_definitions}

-- a schema has a fault where it is not sound
faulty : {P : Type 0} (is : Bool) → (IsTrue is ↔ P) → IsTrue (not is) ↔ (P → ⊥)
faulty true known = (λ e. absurd (cc e), λ h. absurd (h (known.0 refl)))
faulty false known = (λ e p. cc (known.1 p), λ h. refl)

-- the parts are what is found
pub together : (s : Sources) (files : Files) (facts : Facts) (ds : List Definition) (faults : List Fault) (x : Findings) → facts ≡ fact_of files
    → ds ≡ all_definitions files.documents → IsReport files faults → x.sources.items ≡ files_of s → AllZip (IsFinding s files ds) faults x.findings.items
    → x.operations.items ≡ flat_map (operation_in s) ds → AreAffected s facts (is_owner faults) ds x.affected.items → (is : Bool) → (IsTrue is ↔ IsSound files)
    → x.schema_is_faulty ≡ not is → IsFoundBy s files faults x
together s files facts ds faults x world all report sources findings operations affected is sound schema = record {
  report = report;
  sources = sources;
  findings = subst (λ es. AllZip (IsFinding s files es) faults x.findings.items) all findings;
  operations = subst (λ es. x.operations.items ≡ flat_map (operation_in s) es) all operations;
  affected = subst (λ v. AreAffected s v (is_owner faults) (all_definitions files.documents) x.affected.items) world
      (subst (λ es. AreAffected s facts (is_owner faults) es x.affected.items) all affected);
  schema_is_faulty = subst (λ b. IsTrue b ↔ (IsSound files → ⊥)) (sym schema) (faulty is sound);
}
