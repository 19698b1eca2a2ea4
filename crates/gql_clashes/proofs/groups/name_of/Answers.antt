use Rattle.std.proofs.Common.{arith}
use Rattle.std.proofs.lemmas.List.Elements.{Contains-get_or}
use Rattle.gql_clashes.proofs.groups.name_of.Goals as goal

pub field_of-requires : goal.field_of-requires
field_of-requires c = c.requires _ (Contains-get_or c.args.fields.now 0 0 (omega (arith, c.in-len1-up.len_at_least)))
