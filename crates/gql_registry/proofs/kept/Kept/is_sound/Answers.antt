use Rattle.std.proofs.Common.{◌↔◌, ◌∙◌, IsTrue, ap, sym, subst}
use Rattle.gql_registry.specs.Keeping.{Keeping, AreSchemaFaults}
use Rattle.gql_registry.specs.Report.{IsSound}
use Rattle.gql_registry.specs.declared.report.SchemaSide.{SchemaSide}
use Rattle.gql_registry.proofs.kept.Kept.is_sound.Goals as goal

pub returns : goal.returns
returns c =
    subst (λ (k : Keeping). IsTrue c.has_none.result ↔ IsSound k.files) c.self.view_is
    (c.has_none.ensures c.self.inside.files (subst (AreSchemaFaults c.self.inside.files) (sym (c.as_slice.ensures.value ∙ ap (λ (s : SchemaSide). s.faults.items) c.get.ensures)) c.self.invariant.known_of.schema.faults))
