use Rattle.std.proofs.Common.{◌≡◌, drop}
use Rattle.std.specs.List.{list_any}
use Rattle.gql_render.specs.Telling.{is_blamed}
use Rattle.gql_render.proofs.telling.is_any_blamed.Given as goal

abbrev pub invariant-loop-affected : goal.invariant-loop-affected
invariant-loop-affected l = list_any (λ a. is_blamed a.now l.owner) l.operations
    ≡ list_any (λ a. is_blamed a.now l.owner) (drop l.affected-index l.operations)
