use Rattle.std.proofs.Common.{◌∙◌, ◌++◌, ◌∷◌, [], List, ap, sym, take}
use Rattle.std.proofs.lemmas.List.{take_all}
use Rattle.gql_verdict.specs.Shelves.{readers_of, Shelved}
use Rattle.gql_verdict.specs.Slots.{verdicts}
use Rattle.gql_verdict.specs.declared.slot.Slot.{Slot}
use Rattle.gql_verdict.proofs.Seen.{take_next}
use Rattle.gql_verdict.proofs.SeenKeys.{slots_append}
use Rattle.gql_verdict.proofs.shelf.Shelf.readers.Goals as goal

pub loop-slot-preserved : goal.loop-slot-preserved
loop-slot-preserved c =
    let S = c.as_slice-slot-items.result.now in
    let i = c.loop-slot.slot-index in
    let x = c.slot-item.result in
    let k = c.args.key.now in
    c.in_ok-add_reader.ensures
    ∙ ap (λ ids. ids ++ readers_of k (verdicts (x ∷ []))) c.loop-slot.invariant
    ∙ sym (slots_append k (take i S) (x ∷ []))
    ∙ ap (λ (ss : List Slot). readers_of k (verdicts ss)) (sym (take_next S i x c.loop-slot-test.true c.slot-item.is))

pub returns : goal.returns
returns c =
    c.loop-slot.invariant
    ∙ ap (λ (ss : List Slot). readers_of c.args.key.now (verdicts ss)) (take_all _ _ c.loop-slot-test.false ∙ c.as_slice-slot-items.ensures.value)
    ∙ ap (λ (s : Shelved). readers_of c.args.key.now s.verdicts) c.self.view_is
