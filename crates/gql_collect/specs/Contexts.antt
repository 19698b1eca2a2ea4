-- Helper definitions for contracts: what selections are collected with, as specifications see it.
use Rattle.serde_json.specs.View.{view}
use Rattle.gql_collect.specs.Unfolding.{Given}
use Rattle.gql_collect.specs.declared.context.Context.{Context}

-- what selections are collected with
abbrev pub given : Context → Given
given c = record {
  schema = c.schema.now;
  fragments = c.fragments.now.all;
  values = view c.values.now;
}
