use Rattle.std.proofs.Common.{◌≡◌, option_map, ◌∙◌, rules}
use Rattle.std.specs.Option.{option_copied}
use Rattle.gql_types.specs.Written.{written}
use Rattle.gql_coerce.specs.Coercion.{once, single_at}
use Rattle.gql_coerce.specs.Outcomes.{said, some}
use Rattle.gql_coerce.specs.Singles.{single_of}
use Rattle.gql_coerce.specs.declared.coerced.Coerced.{Coerced}
use Rattle.gql_coerce.proofs.InTime.{ok_onward}
use Rattle.gql_coerce.proofs.Once.{once_is}
use Rattle.gql_coerce.proofs.expected.coerce_single.Goals as goal

pub returns-else-expects_list : goal.returns-else-expects_list
returns-else-expects_list c =
    let expected = option_map written (option_copied c.args.expected) in
    let found = some (single_at c.args.schema.now expected (single_of c.args.single.now)) in
    ok_onward c.by_type-else-expects_list.result (λ (v : Coerced). said v ≡ found) (λ (v : Coerced). said v ≡ once expected found)
    (λ v is. is ∙ once_is expected found (search rules)) c.by_type-else-expects_list.ensures
