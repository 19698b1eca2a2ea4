-- What is kept with the files: a verdict on each definition of the document files.
use Rattle.std.specs.Prelude.{◌≡◌, List, [], IsTrue}
use Rattle.gql_ast.specs.declared.fault.Fault.{Fault}
use Rattle.gql_ast.specs.declared.files.Files.{Files}
use Rattle.gql_ast.specs.declared.profile.Profile.{Profile}
use Rattle.gql_facts.specs.Facts.{fact_of, fragments}
use Rattle.gql_facts.specs.Members.{Lists}
use Rattle.gql_facts.specs.Tables.{tables_of}
use Rattle.gql_facts.specs.declared.schema_facts.SchemaFacts.{SchemaFacts}
use Rattle.gql_ast.specs.declared.definition.DefinitionId.{DefinitionId}
use Rattle.gql_intro.specs.Made.{made_of}
use Rattle.gql_pairs.specs.Groups.{KeptGroup}
use Rattle.gql_pairs.specs.Tables.{AllHold, KeepsHolding}
use Rattle.gql_registry.specs.Indexed.{IsIndexOf as IsOperationIndex}
use Rattle.gql_schema_rules.specs.KeptFaults.{AreFaultsOf}
use Rattle.gql_schema_rules.specs.SchemaFaults.{IsSchemaFault}
use Rattle.gql_registry.specs.Report.{IsReport}
use Rattle.gql_registry.specs.declared.index.DocumentIndex.{DocumentIndex}
use Rattle.gql_registry.specs.declared.report.Known.{Known}
use Rattle.gql_registry.specs.declared.report.Reported.{Reported}
use Rattle.gql_registry.specs.declared.report.SchemaSide.{SchemaSide}
use Rattle.gql_serving.specs.Owners.{AreOwnersOf}
use Rattle.gql_types.specs.Outlines.{IsOutline}
use Rattle.gql_types.specs.Schemas.{schema_of}
use Rattle.gql_verdict.specs.Definitions.{all_definitions}
use Rattle.gql_verdict.specs.FileOrder.{AreFilesPlaced}
use Rattle.gql_verdict.specs.NameViews.{AreNamesSound}
use Rattle.gql_verdict.specs.Plans.{IsPlanned, Preparation}
use Rattle.gql_verdict.specs.Shelves.{HasDuePairs, IsCurrent, IsFaultOfAny, IsWholeWork, IsWork, Shelved}
use Rattle.gql_verdict.specs.TouchedFacts.{ArePairsKnown, IsKnown}
use Rattle.gql_verdict.specs.Verdicts.{Judgement}
use Rattle.gql_verdict.specs.declared.touched.Touched.{Touched}

-- files, the verdicts that are kept, and what is kept of pairs of fragments
pub record Keeping : Type 0 where
  pub files : Files
  pub shelf : List Judgement
  pub pairs : List KeptGroup

-- no files under this profile, and nothing kept
abbrev pub nothing_kept : Profile → Keeping
nothing_kept profile = record {
  files = record { profile = profile; schema = []; documents = [] };
  shelf = [];
  pairs = [];
}

-- one verdict for each definition of the document files; each holds, and observed exactly the keys
-- that its definition reads
abbrev pub IsShelfOf : Files → List Judgement → Type 0
IsShelfOf files = IsCurrent (fact_of files) (all_definitions files.documents)

-- what is kept of each two fragments holds: what was observed of them is still so
abbrev pub ArePairsOf : Files → List KeptGroup → Type 0
ArePairsOf files = AllHold (fact_of files)

-- of what was kept of two fragments, all that holds for these files is still kept
abbrev pub KeepsPairs : Files → List KeptGroup → List KeptGroup → Type 0
KeepsPairs files = KeepsHolding (fact_of files)

-- what is known of pairs of fragments before an edit that makes these files
abbrev pub ArePairsBefore : Files → List KeptGroup → Touched → Type 0
ArePairsBefore files = ArePairsKnown (fact_of files)

-- what is known of an edit that makes these files, from the verdicts before it
abbrev pub IsKnownBefore : Files → List Judgement → Touched → Type 0
IsKnownBefore files = IsKnown (fact_of files) (all_definitions files.documents)

-- an entry is kept for each two fragments that a set of a definition spreads which was due
abbrev pub HasPairsDue : Files → List Judgement → List KeptGroup → Type 0
HasPairsDue files shelf = HasDuePairs (fact_of files) shelf (all_definitions files.documents)

-- what an edit that makes these files examines: exactly the definitions that are due
abbrev pub IsWholeWorkOn : Files → List Judgement → List DefinitionId → List DefinitionId → Type 0
IsWholeWorkOn files shelf = IsWholeWork (fact_of files) shelf (all_definitions files.documents)

-- what it may have examined when an allocation fails: only definitions that are due
abbrev pub IsWorkOn : Files → List Judgement → List DefinitionId → List DefinitionId → Type 0
IsWorkOn files shelf = IsWork (fact_of files) shelf (all_definitions files.documents)

-- a fault of some definition of the document files
abbrev pub IsDefinitionFault : Files → Fault → Type 0
IsDefinitionFault files = IsFaultOfAny (fact_of files) (all_definitions files.documents)

-- steps that make the shelf one of these files
abbrev pub IsPlanFor : Files → List Judgement → Preparation → Type 0
IsPlanFor files = IsPlanned (fact_of files) (all_definitions files.documents)

-- these are the facts of the schema of the files
abbrev pub AreFactsOf : Files → SchemaFacts → Type 0
AreFactsOf files facts = facts ≡ tables_of (schema_of files)

-- these are all faults of the schema of the files
abbrev pub AreSchemaFaults : Files → List Fault → Type 0
AreSchemaFaults files faults = Lists faults (IsSchemaFault files)

-- the schema of the files, what each file gives to it, its facts, what introspection makes of it, its
-- faults, and what an edit can keep of them
pub record IsSideOf (files : Files) (side : SchemaSide) : Type 0 where
  pub schema : side.schema ≡ schema_of files
  pub outline : IsOutline files side.outline
  pub facts : AreFactsOf files side.facts
  pub made : side.made ≡ made_of files (schema_of files)
  pub kept : AreFaultsOf files side.kept
  pub faults : AreSchemaFaults files side.faults.items

-- the fragments and the operations of the document files
pub record IsIndexOf (files : Files) (index : DocumentIndex) : Type 0 where
  pub fragments : index.fragments.all ≡ fragments files.documents
  pub operations : IsOperationIndex files.documents index.operations

-- the report of the files, and what is said of the rules on names holds
pub record IsReportOf (files : Files) (r : Reported) : Type 0 where
  pub report : IsReport files r.faults.items
  pub names : IsTrue r.has_sound_names → AreNamesSound files

-- what is known of the files
pub record IsKnownOf (files : Files) (known : Known) : Type 0 where
  pub schema : IsSideOf files known.schema
  pub index : IsIndexOf files known.index
  pub names : IsTrue known.has_sound_names → AreNamesSound files
  pub report : IsReport files known.report.items
  pub owners : AreOwnersOf known.report.items known.owners

-- what is known and the verdicts are those of the files, what is kept of pairs of fragments holds,
-- and the definitions of the files are in order
pub record IsKept (files : Files) (known : Known) (shelf : Shelved) : Type 0 where
  pub placed : AreFilesPlaced files.documents
  pub known_of : IsKnownOf files known
  pub current : IsShelfOf files shelf.verdicts
  pub pairs : ArePairsOf files shelf.pairs
