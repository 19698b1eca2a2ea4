use Rattle.std.proofs.Common.{◌≡◌, ◌∙◌, None, Some, get_or, rules, subst, sym}
use Rattle.std.specs.Prelude.{◌↔◌, IsTrue}
use Rattle.std.proofs.lemmas.List.{get_or_default}
use Rattle.gql_facts.specs.Tables.{type_in}
use Rattle.gql_facts.specs.declared.schema_facts.TypeEntry.{TypeEntry}
use Rattle.gql_verdict.specs.SchemaEdits.{IsSamePossible}
use Rattle.gql_verdict.proofs.MovedTypes.{same_as, same_as_none}
use Rattle.gql_verdict.proofs.schema_edit.has_same_possible.Goals as goal

pub returns-in-Some : goal.returns-in-Some
returns-in-Some c = λ e at.
    let x = c.get-entry.result.now in
    let item : get_or c.args.after.now.types c.args.place x ≡ x = search rules in
    let is : x ≡ e = sym item ∙ get_or_default c.args.after.now.types c.args.place x e c.requires ∙ at in
    let found : type_in c.args.before.now c.get-entry.result.now.name ≡ Some c.in-Some.earlier.now = search rules in
    subst (λ (x : TypeEntry). IsTrue c.same_option.result ↔ IsSamePossible c.args.before.now x) is
    (same_as c.args.before.now c.get-entry.result.now c.in-Some.earlier.now found c.same_option.result (search rules))

pub returns-in-None : goal.returns-in-None
returns-in-None c = λ e at.
    let x = c.get-entry.result.now in
    let item : get_or c.args.after.now.types c.args.place x ≡ x = search rules in
    let is : x ≡ e = sym item ∙ get_or_default c.args.after.now.types c.args.place x e c.requires ∙ at in
    let none : type_in c.args.before.now c.get-entry.result.now.name ≡ None = search rules in
    subst (λ (x : TypeEntry). IsTrue c.is_none.result ↔ IsSamePossible c.args.before.now x) is
    (same_as_none c.args.before.now c.get-entry.result.now none c.is_none.result (search rules))
