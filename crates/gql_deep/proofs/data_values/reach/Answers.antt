use Rattle.serde_json.specs.Data as json
use Rattle.gql_types.specs.Written.{written}
use Rattle.gql_steps.specs.Execution.{complete}
use Rattle.gql_steps.specs.Objects.{basis}
use Rattle.gql_steps.specs.States.{path_of}
use Rattle.gql_steps.specs.Texts.{value_part}
use Rattle.gql_deep.proofs.Introspecting.{any_site}
use Rattle.std.proofs.Common.{refl}
use Rattle.gql_deep.proofs.data_values.reach.Goals as goal

pub returns-then-is_null-clause-keeps : goal.returns-then-is_null-clause-keeps
returns-then-is_null-clause-keeps c =
    let s = any_site (basis c.args.setting.now) c.args.site.place in
    c.done.ensures.keeps (basis c.args.setting.now) c.args.table.now (value_part (complete s (written c.args.of_type.now) (path_of c.args.run.now) json.null))
    c.args.run.now c.complete_null.new.run c.requires.right (c.complete_null.ensures s refl)
