use Rattle.std.proofs.Common.{is_ok, subst, sym}
use Rattle.serde_json.specs.View.{view}
use Rattle.gql_coerce.specs.Nesting.{NestsWithin}
use Rattle.gql_coerce.proofs.Nesting.{pushed}
use Rattle.gql_coerce.proofs.coerced_parts.CoercedItems.push.Goals as goal

pub invariant_of-self : goal.invariant_of-self
invariant_of-self c = pushed (is_ok c.push.result) c.self.inside.values.items c.into_value.result c.push.new.self.items c.self.inside.levels c.levels.result c.levels_with-self-inside.result
    c.push.ensures.items c.levels_with-self-inside.ensures c.self.invariant (subst (λ v. NestsWithin (view v) c.levels.result) (sym c.into_value.ensures) c.levels.ensures)
