use Rattle.std.proofs.Common.{◌≡◌, sym, subst}
use Rattle.gql_facts.specs.Tables.{tables_of}
use Rattle.gql_registry.specs.declared.report.SchemaSide.{SchemaSide}
use Rattle.gql_types.specs.Schemas.{schema_of}
use Rattle.gql_registry.proofs.facts.FilesFacts.world.Goals as goal

pub returns : goal.returns
returns c = λ files are.
    c.new.ensures.answers (schema_of files) files.documents
    (subst (λ (side : SchemaSide). side.facts ≡ tables_of (schema_of files)) (sym c.get.ensures) are.schema) are.fragments_are
