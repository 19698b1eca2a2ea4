use Rattle.std.proofs.Common.{◌∙◌, ap, bytes_eq, refl}
use Rattle.std.specs.HashMap as hash
use Rattle.gql_single_root.specs.Walks.{with_place}
use Rattle.gql_single_root.proofs.Taking.{takes_field, takes_inline, takes_spread}
use Rattle.gql_single_root.proofs.walk.add_one.Goals as goal

pub returns-in_ok-push-in-Field : goal.returns-in_ok-push-in-Field
returns-in_ok-push-in-Field c =
    takes_field (λ q. hash.get_by (λ k. bytes_eq q k.now) c.args.places.now) c.args.file.now c.args.selection.now c.in-Field.field _ c.args.walk.now _ c.in-Field.is
    refl refl c.in_ok-push-in-Field.ensures.items

pub returns-in_ok-keep_place-in-Spread : goal.returns-in_ok-keep_place-in-Spread
returns-in_ok-keep_place-in-Spread c =
    takes_spread (λ q. hash.get_by (λ k. bytes_eq q k.now) c.args.places.now) c.args.file.now c.args.selection.now c.in-Spread.spread c.args.walk.now _ c.in-Spread.is
    (c.in_ok-keep_place-in-Spread.ensures ∙ ap (λ n. with_place c.args.walk.now.entered.keys (hash.get_by (λ k. bytes_eq n k.now) c.args.places.now)) c.as_str.ensures) refl

pub returns-in-InlineFragment : goal.returns-in-InlineFragment
returns-in-InlineFragment c =
    takes_inline (λ q. hash.get_by (λ k. bytes_eq q k.now) c.args.places.now) c.args.file.now c.args.selection.now c.in-InlineFragment.field-0 c.args.walk.now c.args.walk.now
    c.in-InlineFragment.is refl refl
