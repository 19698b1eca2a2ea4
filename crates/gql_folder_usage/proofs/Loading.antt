-- What is stored of the files of a registry.
use Rattle.std.proofs.Common.{◌≡◌, ◌∙◌, List, ap, subst, sym}
use Rattle.gql_ast.specs.declared.definition.Definition.{Definition}
use Rattle.gql_ast.specs.declared.files.Files.{Files}
use Rattle.gql_facts.specs.Facts.{fact_in, fact_of}
use Rattle.gql_facts.specs.Worlds.{Facts}
use Rattle.gql_folder_usage.specs.Loaded.{IsStoredOf}
use Rattle.gql_registry.specs.Keeping.{IsShelfOf}
use Rattle.gql_types.specs.Schemas.{schema_of}
use Rattle.gql_types.specs.declared.schema.Schema.{Schema}
use Rattle.gql_usage.proofs.Fragments.{are_defined}
use Rattle.gql_usage.specs.Stored.{AreStored, facts_of}
use Rattle.gql_usage.specs.declared.stored.Stored.{Stored}
use Rattle.gql_verdict.specs.Definitions.{all_definitions}
use Rattle.gql_verdict.specs.Verdicts.{Judgement}

-- what is stored of a schema and of document files, where the schema is that of the files
pub stored_of : (files given : Files) (s : Schema) (st : Stored) → given ≡ files → s ≡ schema_of files
    → facts_of st ≡ fact_in s given.documents → st.definitions.items ≡ all_definitions given.documents → IsStoredOf files st
stored_of files given s st g e facts definitions = record {
  facts = facts ∙ ap (λ t. fact_in t given.documents) e ∙ ap (λ (fs : Files). fact_in (schema_of files) fs.documents) g;
  definitions = definitions ∙ ap (λ (fs : Files). all_definitions fs.documents) g;
}

-- the verdicts of a registry are those of what is stored of its files
pub are_stored : (files : Files) (st : Stored) (shelf verdicts : List Judgement) → IsStoredOf files st → verdicts ≡ shelf → IsShelfOf files shelf
    → AreStored (facts_of st) st.definitions.items verdicts
are_stored files st shelf verdicts s e current =
    subst (λ (F : Facts). AreStored F st.definitions.items verdicts) (sym s.facts)
    (subst (λ (ds : List Definition). AreStored (fact_of files) ds verdicts) (sym s.definitions)
    (record { current = subst (IsShelfOf files) (sym e) current; fragments = are_defined (schema_of files) files.documents }))
