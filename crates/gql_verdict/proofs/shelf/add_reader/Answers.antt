use Rattle.std.proofs.Common.{◌≡◌, ◌∙◌, ◌++◌, ◌∷◌, [], ap, false, rules, sym, true}
use Rattle.std.proofs.lemmas.List.{append-nil}
use Rattle.gql_verdict.proofs.SeenKeys.{slot_no_reader, slot_reader}
use Rattle.gql_verdict.proofs.shelf.add_reader.Goals as goal

pub returns-then-not-observes : goal.returns-then-not-observes
returns-then-not-observes c =
    let none = slot_no_reader c.args.key.now c.args.slot.now c.in-Here.verdict c.in-Here.is
    (λ h. let z : true ≡ false = sym (c.observes.ensures.1 h) ∙ c.if-not-observes.true in cc z) in
    sym (ap (λ ids. c.args.ids.now.items ++ ids) none ∙ append-nil c.args.ids.now.items)

pub returns : goal.returns
returns c =
    let one = slot_reader c.args.key.now c.args.slot.now c.in-Here.verdict c.in-Here.is (c.observes.ensures.0 c.if-not-observes.false) in
    c.in_ok-push.ensures.items ∙ ap (λ ids. c.args.ids.now.items ++ ids) (ap (λ id. id ∷ []) (search rules) ∙ sym one)
