-- What an edit of a schema file touches, by the schema before it and after it.
use Rattle.std.specs.Prelude.{◌≡◌, ℕ, List}
use Rattle.std.proofs.Common.{inl, inr, refl, sym, subst}
use Rattle.gql_ast.specs.declared.files.Files.{Files}
use Rattle.gql_facts.specs.Tables.{tables_of}
use Rattle.gql_facts.specs.declared.schema_facts.SchemaFacts.{SchemaFacts}
use Rattle.gql_registry.specs.EditPlans.{IsSchemaEdit, IsSchemaTouched}
use Rattle.gql_registry.specs.Keeping.{IsSideOf}
use Rattle.gql_registry.specs.declared.report.SchemaSide.{SchemaSide}
use Rattle.gql_types.specs.Edits.{KeepsOthers}
use Rattle.gql_types.specs.Schemas.{schema_of}
use Rattle.gql_verdict.specs.DocumentEdits.{ChangesOnly}
use Rattle.gql_verdict.specs.SchemaEdits.{IsTouchedBySchema}
use Rattle.gql_verdict.specs.declared.touched.Touched.{Touched}
use Rattle.gql_verdict.specs.declared.touched.Touched.TheVariants.{All}

-- nothing is told as untouched
all_touched : (before after : Files) (t : Touched) → t ≡ All → ChangesOnly t before after
all_touched before after t is = subst (λ u. ChangesOnly u before after) (sym is)
    (record { answers = λ k untouched. absurd (cc untouched); definitions = λ placed d c untouched. absurd (cc untouched) })

-- The law of an edit of a schema file.
abbrev pub Law : Type 0
Law = (before after : Files) (edited : List (List ℕ)) (t : Touched) → KeepsOthers edited (schema_of before) (schema_of after) → KeepsOthers edited (schema_of after) (schema_of before)
    → before.documents ≡ after.documents → IsTouchedBySchema (tables_of (schema_of before)) (tables_of (schema_of after)) edited t → ChangesOnly t before after

pub schema_touches : Law → (before after : Files) (old new : SchemaSide) (edited : List (List ℕ)) (t : Touched) → IsSideOf before old → IsSideOf after new
    → IsSchemaEdit edited before after → before.documents ≡ after.documents → IsSchemaTouched old new edited t → ChangesOnly t before after
schema_touches law before after old new edited t of_before of_after edit documents by = elim by [
  | inl told ↦ law before after edited t edit.keeps edit.undone documents
      (subst (λ (f : SchemaFacts). IsTouchedBySchema f (tables_of (schema_of after)) edited t) of_before.facts
      (subst (λ (f : SchemaFacts). IsTouchedBySchema old.facts f edited t) of_after.facts told))
  | inr all ↦ all_touched before after t all
]

-- all may be told as touched
pub all_told : (old new : SchemaSide) (edited : List (List ℕ)) (t : Touched) → t ≡ All → IsSchemaTouched old new edited t
all_told old new edited t is = inr is

-- what an edit touches by both schemas is told
pub schema_told : (old new : SchemaSide) (edited : List (List ℕ)) (t : Touched) → IsTouchedBySchema old.facts new.facts edited t → IsSchemaTouched old new edited t
schema_told old new edited t by = inl by

-- a plan of which nothing more is known may change everything
pub whole_touched : (before after : Files) → ChangesOnly All before after
whole_touched before after = all_touched before after All refl
