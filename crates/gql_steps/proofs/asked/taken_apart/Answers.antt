use Rattle.std.proofs.Common.{◌≡◌, ap, ◌∙◌, rules}
use Rattle.serde_json.specs.Data.{Data, member}
use Rattle.serde_json.specs.View.{members_view, view}
use Rattle.gql_steps.specs.Asked.{asked_before, asked_data}
use Rattle.gql_steps.specs.declared.asked.Asked.{Asked}
use Rattle.gql_steps.proofs.Asking.{asked_more}
use Rattle.gql_steps.proofs.asked.taken_apart.Goals as goal

pub loop-name-preserved : goal.loop-name-preserved
loop-name-preserved c =
    let name = c.as_str.result.now in
    let rest = members_view c.next.new.self in
    let value = view c.in-Some.argument.now in
    let before = c.loop-name.asked.items in
    let one : Asked = record { name = c.as_str.result; value = c.asked_value-value.result } in
    let next : member name value rest ≡ members_view c.loop-name.name-iterator = search rules in
    let same : asked_data c.asked_value-value.result ≡ value = c.asked_value-value.ensures ∙ ap view (c.get-in-loop-name.ensures ∙ c.get.ensures) in
    ap (λ xs. asked_before xs rest) c.in_ok-push.ensures.items ∙ asked_more before one rest
    ∙ ap (λ (d : Data). asked_before before (member name d rest)) same ∙ ap (asked_before before) next ∙ c.loop-name.invariant
