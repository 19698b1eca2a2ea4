use Rattle.std.proofs.Common.{◌≡◌, ◌∙◌, ◌+◌, ◌∷◌, drop, false, sym, ap}
use Rattle.std.proofs.lemmas.List.{at_drop_more}
use Rattle.json.specs.Strict.{keys}
use Rattle.json.specs.Value.{members_view}
use Rattle.gql_http.proofs.FoundNames.{is_found, repeats_after, repeats_first, repeats_more, not_new}
use Rattle.gql_http.proofs.twice.repeats.Goals as goal

pub loop-name-init : goal.loop-name-init
loop-name-init c = let names = keys (members_view c.args.members.now) in ap (λ found. repeats_after found names) c.new-names.ensures.empty ∙ repeats_first names

pub loop-name-preserved : goal.loop-name-preserved
loop-name-preserved c =
    let members = c.args.members.now in
    let found = c.loop-name.names.keys in
    let item = c.loop-name-item.result in
    let rest = drop (c.loop-name.name-index + 1) members in
    let new : is_found found item.0.now ≡ false = not_new (is_found found item.0.now) (sym c.in_ok-insert.ensures.added ∙ c.if-not-branch.false) in
    let turn = at_drop_more (λ ms. repeats_after found (keys (members_view ms))) members c.loop-name.name-index item c.loop-name-test.true in
    let this = ap (λ m. repeats_after found (keys (members_view (m ∷ rest)))) (sym c.loop-name-item.is) in
    ap (λ ks. repeats_after ks (keys (members_view rest))) c.in_ok-insert.ensures.keys ∙ repeats_more found item.0 (keys (members_view rest)) new ∙ sym (turn ∙ this) ∙ c.loop-name.invariant
