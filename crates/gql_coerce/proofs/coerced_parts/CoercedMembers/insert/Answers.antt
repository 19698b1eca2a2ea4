use Rattle.std.proofs.Common.{subst, sym}
use Rattle.serde_json.specs.View.{view}
use Rattle.gql_coerce.specs.Nesting.{NestsWithin}
use Rattle.gql_coerce.proofs.Nesting.{put_or_kept}
use Rattle.gql_coerce.proofs.coerced_parts.CoercedMembers.insert.Goals as goal

pub invariant_of-self : goal.invariant_of-self
invariant_of-self c = put_or_kept c.insert.result c.args.name c.into_value.result c.self.inside.values.entries c.insert.new.self.entries c.self.inside.levels c.levels.result c.levels_with-self-inside.result
    c.insert.ensures.entries c.insert.ensures.err c.levels_with-self-inside.ensures c.self.invariant (subst (λ v. NestsWithin (view v) c.levels.result) (sym c.into_value.ensures) c.levels.ensures)
