use Rattle.std.proofs.Common.{◌∙◌, [], ◌∷◌, sym, ap}
use Rattle.std.proofs.lemmas.List.{map-append}
use Rattle.serde_json.specs.View.{view}
use Rattle.gql_registry.specs.Changes.{change_of, edit_of}
use Rattle.gql_registry.specs.Edits.{set_data}
use Rattle.gql_http.specs.Batches.{data_change}
use Rattle.gql_http.specs.BatchValues.{datum}
use Rattle.gql_http.proofs.BatchLists.{some_data}
use Rattle.gql_http.proofs.batch.add_data.Goals as goal

pub returns-clause-ok : goal.returns-clause-ok
returns-clause-ok c =
    let d = view c.in-Some.value.now in (
      set_data d ∷ [],
      ap (λ o. data_change (datum o)) c.in-Some.is ∙ some_data d (sym c.is_null.ensures ∙ c.if-is_null.false),
      ap edit_of c.in_ok-add.ensures ∙ map-append change_of c.args.edit.now.items _,
    )
