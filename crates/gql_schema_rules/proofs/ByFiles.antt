-- All faults, from the checks of files and the other faults.
use Rattle.std.proofs.Common.{◌≡◌, ◌↔◌, ◌⊎◌, inl, inr, ℕ, List, [], ◌∷◌, ◌++◌, flat_map, Contains, refl, sym, subst, ap₂}
use Rattle.gql_ast.specs.declared.definition.Document.{Document}
use Rattle.gql_ast.specs.declared.fault.Fault.{Fault}
use Rattle.gql_ast.specs.declared.files.Files.{Files}
use Rattle.gql_types.specs.Definitions.{of_files}
use Rattle.gql_types.specs.declared.schema.Schema.{Schema}
use Rattle.gql_iface_rules.proofs.Members.{Contains-flat_map, Contains-flat_map_from}
use Rattle.gql_node_rules.specs.FileFaults.{IsFileFault, file_faults, joint_faults, nodes_of_file}
use Rattle.gql_node_rules.specs.NodeFaults.{node_faults}
use Rattle.gql_node_rules.specs.Nodes.{nodes_of}
use Rattle.gql_node_rules.specs.declared.file_check.FileCheck.{FileCheck}
use Rattle.gql_schema_rules.specs.ChecksOfFiles.{AreChecksOf}
use Rattle.gql_schema_rules.specs.OtherFaults.{AreOthers, faults_in}
use Rattle.gql_schema_rules.specs.RuleGroups.{definition_faults, type_faults, root_faults}
use Rattle.gql_schema_rules.specs.SchemaFaults.{FaultsBy, nodes_in}
use Rattle.gql_schema_rules.proofs.Regrouped.{regrouped}
use Rattle.gql_schema_rules.proofs.Together.{together}

-- the faults that a file has by itself
abbrev own_faults : Schema → List ℕ × Document → List Fault
own_faults s file = file_faults (nodes_of_file file.1) s

-- checks have the faults that their files have by themselves
checked : (s : Schema) (files : List (List ℕ × Document)) (checks : List (List ℕ × FileCheck)) → AreChecksOf s files checks → faults_in checks ≡ flat_map (own_faults s) files
checked s [] [] are = refl
checked s [] (c ∷ checks) are = absurd are
checked s (f ∷ files) [] are = absurd are
checked s (f ∷ files) (c ∷ checks) are = ap₂ (λ xs ys. xs ++ ys) are.0.of_file.faults (checked s files checks are.1)

-- the faults of nodes are those that a file has by itself, and the joint ones
abbrev Law : Type 0
Law = (files : List (List ℕ × Document)) (s : Schema) (f : Fault)
    → Contains (node_faults (nodes_of (of_files files)) s) f ↔ (IsFileFault files s f ⊎ Contains (joint_faults (nodes_of (of_files files)) s) f)

by_checks : (s : Schema) (files : Files) (checks : List (List ℕ × FileCheck)) (f : Fault) → Law → AreChecksOf s files.schema checks
    → Contains (node_faults (nodes_in files) s) f ↔ (Contains (faults_in checks) f ⊎ Contains (joint_faults (nodes_in files) s) f)
by_checks s files checks f law are =
    let same : faults_in checks ≡ flat_map (own_faults s) files.schema = checked s files.schema checks are in
    let found : Contains (faults_in checks) f → IsFileFault files.schema s f = λ h.
    Contains-flat_map_from (own_faults s) files.schema f (subst (λ xs. Contains xs f) same h) in
    let has : IsFileFault files.schema s f → Contains (faults_in checks) f = λ h.
    subst (λ xs. Contains xs f) (sym same) (Contains-flat_map (own_faults s) files.schema h.0 f h.1 h.2) in
    let both = law files.schema s f in (
      λ h. elim (both.0 h) [ inl own ↦ inl (has own) | inr joint ↦ inr joint ],
      λ h. elim h [ inl own ↦ both.1 (inl (found own)) | inr joint ↦ both.1 (inr joint) ],
    )

pub all_by_files : (files : Files) (s : Schema) (checks : List (List ℕ × FileCheck)) (others all : List Fault) → Law → AreOthers files s others
    → all ≡ faults_in checks ++ others → AreChecksOf s files.schema checks → (f : Fault) → Contains all f ↔ FaultsBy files s f
all_by_files files s checks others all law are joined checked f =
    let n = nodes_in files in
    let whole : all ≡ faults_in checks ++ ((((are.interfaces ++ joint_faults n s) ++ definition_faults n s) ++ type_faults s) ++ root_faults files n s) =
    subst (λ os. all ≡ faults_in checks ++ os) are.joined joined in
    let same = regrouped f (faults_in checks) are.interfaces (joint_faults n s) (node_faults n s) (definition_faults n s) (type_faults s) (root_faults files n s) (by_checks s files checks f law checked) in
    let all_rules = together files s are.interfaces ((((are.interfaces ++ node_faults n s) ++ definition_faults n s) ++ type_faults s) ++ root_faults files n s) are.sound are.complete refl f in (
      λ h. all_rules.0 (same.0 (subst (λ xs. Contains xs f) whole h)),
      λ h. subst (λ xs. Contains xs f) (sym whole) (same.1 (all_rules.1 h)),
    )
