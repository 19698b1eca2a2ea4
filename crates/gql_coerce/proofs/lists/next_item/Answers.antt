use Rattle.std.proofs.Common.{suc, map, drop, option_map, sym, ap, ◌+◌, ◌∙◌, Some, rules}
use Rattle.std.specs.Option.{option_copied}
use Rattle.gql_types.specs.Written.{written}
use Rattle.serde_json.specs.View.{view}
use Rattle.gql_coerce.specs.Coercion.{coerced}
use Rattle.gql_coerce.specs.Outcomes.{value}
use Rattle.gql_coerce.specs.Frames.{focus_at, items_rest, items_then, or_stop}
use Rattle.gql_coerce.specs.Parts.{input_of, items_in}
use Rattle.gql_coerce.proofs.ListSteps.{goes_on, finishes}
use Rattle.gql_coerce.proofs.lists.next_item.Goals as goal

pub returns-in_default : goal.returns-in_default
returns-in_default c = λ n. c.items.invariant n
    ∙ finishes (coerced (suc n) c.args.schema.now) (option_map written (option_copied c.items.list.expected)) (map view c.items.list.values) (items_in c.items.list.items) c.items.list.next
    (sym c.get.ensures.item ∙ ap (option_map input_of) c.in_default.is) ∙ ap (λ d. value (Some d)) (search rules)

pub returns-in_default-2 : goal.returns-in_default-2
returns-in_default-2 c = λ n. c.items.invariant n
    ∙ goes_on (coerced (suc n) c.args.schema.now) (option_map written (option_copied c.items.list.expected)) (map view c.items.list.values) (items_in c.items.list.items) c.items.list.next
    (input_of c.in-Some.item) (focus_at (suc n) c.args.schema.now c.in_ok-focus.focus) (sym c.get.ensures.item ∙ ap (option_map input_of) c.in-Some.is) (c.in_ok-focus.ensures n)

pub returns-in-Some-2 : goal.returns-in-Some-2
returns-in-Some-2 c = λ n.
    let inner = coerced (suc n) c.args.schema.now in
    let expected = option_map written (option_copied c.items.list.expected) in
    let rest = drop (c.items.list.next + 1) (items_in c.items.list.items) in
    c.items.invariant n
    ∙ goes_on inner expected (map view c.items.list.values) (items_in c.items.list.items) c.items.list.next
    (input_of c.in-Some.item) (focus_at (suc n) c.args.schema.now c.in_ok-focus.focus) (sym c.get.ensures.item ∙ ap (option_map input_of) c.in-Some.is) (c.in_ok-focus.ensures n)
    ∙ ap (λ f. items_then inner expected (map view c.items.list.values) rest (focus_at (suc n) c.args.schema.now f)) c.in-Answer.is
    ∙ c.in_ok-stop-in-Answer.ensures inner rest
    ∙ ap (or_stop (items_rest inner expected (map view c.add_item.new.values) rest)) c.in-Some-2.is

pub items-preserved : goal.items-preserved
items-preserved c = λ n.
    let inner = coerced (suc n) c.args.schema.now in
    let expected = option_map written (option_copied c.items.list.expected) in
    let rest = drop (c.items.list.next + 1) (items_in c.items.list.items) in
    c.items.invariant n
    ∙ goes_on inner expected (map view c.items.list.values) (items_in c.items.list.items) c.items.list.next
    (input_of c.in-Some.item) (focus_at (suc n) c.args.schema.now c.in_ok-focus.focus) (sym c.get.ensures.item ∙ ap (option_map input_of) c.in-Some.is) (c.in_ok-focus.ensures n)
    ∙ ap (λ f. items_then inner expected (map view c.items.list.values) rest (focus_at (suc n) c.args.schema.now f)) c.in-Answer.is
    ∙ c.in_ok-stop-in-Answer.ensures inner rest
    ∙ ap (or_stop (items_rest inner expected (map view c.add_item.new.values) rest)) c.in_default-3.is
