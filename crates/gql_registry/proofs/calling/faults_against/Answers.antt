use Rattle.std.proofs.Common.{◌≡◌, ◌∙◌, ◌==◌, false, true, List, sym, ap, subst, length, Vec, Global}
use Rattle.gql_ast.specs.declared.fault.Fault.{Fault}
use Rattle.gql_facts.specs.Presents.{facts_of_present}
use Rattle.gql_facts.specs.Tables.{tables_of}
use Rattle.gql_facts.specs.Worlds.{Facts}
use Rattle.gql_registry.specs.Calls.{AreAgainst}
use Rattle.gql_registry.specs.declared.report.SchemaSide.{SchemaSide}
use Rattle.gql_registry.proofs.Against.{against_of_schema, against_of_documents}
use Rattle.gql_registry.proofs.Mapped.{ok_map}
use Rattle.gql_registry.proofs.Reports.{some_if, none_if, sound_if_none}
use Rattle.gql_serving.specs.Owned.{IsOwned, Picks}
use Rattle.gql_serving.specs.Owners.{AreOwnersOf}
use Rattle.gql_types.specs.Schemas.{schema_of}
use Rattle.gql_registry.proofs.calling.faults_against.Goals as goal

pub returns-then-not-is_empty : goal.returns-then-not-is_empty
returns-then-not-is_empty c =
    let all : c.as_slice.result.now ≡ c.args.known.now.schema.faults.items = c.as_slice.ensures.value ∙ ap (λ (x : SchemaSide). x.faults.items) c.get-schema.ensures in
    ok_map c.sharing.result (λ (v : Vec Fault Global). v.items ≡ c.as_slice-then-not-is_empty.result.now) _
    (λ v is files known.
    subst (AreAgainst files c.args.definition.now) (sym (is ∙ c.as_slice-then-not-is_empty.ensures.value))
    (against_of_schema files c.args.definition.now c.args.known.now.schema.faults.items c.args.known.now.report.items
    (some_if _ (subst (λ (xs : List Fault). (length xs == 0) ≡ false) all (sym c.is_empty.ensures ∙ c.if-not-is_empty.true))) known.schema.faults known.report))
    c.sharing.ensures

pub returns : goal.returns
returns c = λ files known.
    let all : c.as_slice.result.now ≡ c.args.known.now.schema.faults.items = c.as_slice.ensures.value ∙ ap (λ (x : SchemaSide). x.faults.items) c.get-schema.ensures in
    let same = c.new-world.ensures.answers (schema_of files) files.documents (subst (λ (x : SchemaSide). x.facts ≡ tables_of (schema_of files)) (sym c.get-schema.ensures) known.schema.facts) known.index.fragments in
    against_of_documents files c.args.definition.now c.args.known.now.report.items c.in_ok-faults.faults.items
    (sound_if_none files c.args.known.now.schema.faults.items (none_if _ (subst (λ (xs : List Fault). (length xs == 0) ≡ true) all (sym c.is_empty.ensures ∙ c.if-not-is_empty.false))) known.schema.faults)
    known.report
    (subst (λ (facts : Facts). Picks (IsOwned facts c.args.definition.now) c.args.known.now.report.items c.in_ok-faults.faults.items) same
    (subst (λ (xs : List Fault). Picks (IsOwned (facts_of_present c.new-world.result) c.args.definition.now) xs c.in_ok-faults.faults.items) c.as_slice-2.ensures.value
    (c.in_ok-faults.ensures.owned (subst (λ l. AreOwnersOf l c.args.known.now.owners) (sym c.as_slice-2.ensures.value) known.owners))))
