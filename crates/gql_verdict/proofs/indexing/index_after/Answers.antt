use Rattle.std.proofs.Common.{subst, sym, List, Bool, map}
use Rattle.gql_readers.specs.Changes.{AreNotesBetween}
use Rattle.gql_readers.specs.Readers.{InReadingOrder}
use Rattle.gql_readers.proofs.Between.{none_between}
use Rattle.gql_verdict.specs.Marks.{gone}
use Rattle.gql_verdict.specs.Readings.{readers}
use Rattle.gql_verdict.specs.Slots.{resolve, verdicts}
use Rattle.gql_verdict.proofs.LedTo.{gone_rises, led_change, new_rises}
use Rattle.gql_verdict.proofs.indexing.index_after.Goals as goal

pub add_all-requires-clause-order : goal.add_all-requires-clause-order
add_all-requires-clause-order c = c.requires.shelved.order

pub changed-requires : goal.changed-requires
changed-requires c =
    let K = c.args.kept.now in
    let S = c.args.steps.now in
    let B = c.in_ok-stay.stay.items in
    let s = c.requires.steps in
    let are = c.in_ok-stay.ensures in
    let order = c.requires.shelved.order in
    let noted : AreNotesBetween c.add_all.new.changes (readers (gone K B)) (readers (verdicts S)) = subst (λ (bs : List Bool). AreNotesBetween c.add_all.new.changes (readers (gone K bs)) (readers (verdicts S))) c.as_slice.ensures.value
    (c.in_ok-add_all.ensures (subst (λ (bs : List Bool). InReadingOrder (readers (gone K bs))) (sym c.as_slice.ensures.value) (gone_rises s.0 K s.1 S B order s.2 s.3 are))
    (new_rises s.0 K s.1 S B order s.2 s.3 are) (none_between c.new-changes.result c.new-changes.ensures.notes)) in
    (s.0, readers (verdicts K), noted.going, noted.coming, readers (verdicts (map (resolve K) S)), led_change s.0 K s.1 S B c.args.index.now c.requires.shelved s.2 s.3 are c.add_all.new.changes noted)

pub returns : goal.returns
returns c =
    let K = c.args.kept.now in
    let S = c.args.steps.now in
    let B = c.in_ok-stay.stay.items in
    let s = c.requires.steps in
    let are = c.in_ok-stay.ensures in
    let order = c.requires.shelved.order in
    let noted : AreNotesBetween c.add_all.new.changes (readers (gone K B)) (readers (verdicts S)) = subst (λ (bs : List Bool). AreNotesBetween c.add_all.new.changes (readers (gone K bs)) (readers (verdicts S))) c.as_slice.ensures.value
    (c.in_ok-add_all.ensures (subst (λ (bs : List Bool). InReadingOrder (readers (gone K bs))) (sym c.as_slice.ensures.value) (gone_rises s.0 K s.1 S B order s.2 s.3 are))
    (new_rises s.0 K s.1 S B order s.2 s.3 are) (none_between c.new-changes.result c.new-changes.ensures.notes)) in
    c.in_ok-after.ensures s.0 (readers (verdicts K)) noted.going noted.coming (readers (verdicts (map (resolve K) S)))
    (led_change s.0 K s.1 S B c.args.index.now c.requires.shelved s.2 s.3 are c.add_all.new.changes noted)
