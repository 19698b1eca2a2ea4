use Rattle.std.proofs.Common.{◌∙◌, [], ◌∷◌, ◌++◌, refl, sym, ap, subst, arith}
use Rattle.std.proofs.Math.ListN.{set}
use Rattle.gql_findings.specs.Causes.{mark_of_cause}
use Rattle.gql_findings.specs.Gathering.{Gathers}
use Rattle.gql_findings.specs.Marks.{same_mark}
use Rattle.gql_findings.proofs.Gatherings.{gathers_old, gathers_new}
use Rattle.gql_findings.proofs.grouping.gather.Goals as goal

pub returns-then-place-len : goal.returns-then-place-len
returns-then-place-len c =
    let keys = c.args.keys.now.keys in
    let causes = c.args.causes.now.items in
    let old = c.index_mut.result.now in
    let new = c.add_to.new.cause in
    let place = c.in_ok-place.ensures in
    subst (λ x. Gathers (λ m. same_mark m x) c.args.member keys c.insert_full.new.self.keys causes (set causes c.in_ok-place.place new)) c.cause_key.ensures
    (gathers_old c.cause_key.result keys c.insert_full.new.self.keys causes (set causes c.in_ok-place.place new) c.in_ok-place.place c.args.member new old c.requires place.keys place.unique place.index (omega arith) refl
    (c.add_to.ensures.mark ∙ ap mark_of_cause c.index_mut.ensures.value) (c.in_ok-add_to.ensures.members ∙ ap (λ x. x.members.items ++ c.args.member ∷ []) c.index_mut.ensures.value))

pub returns : goal.returns
returns c =
    let keys = c.args.keys.now.keys in
    let causes = c.args.causes.now.items in
    let place = c.in_ok-place.ensures in
    subst (λ x. Gathers (λ m. same_mark m x) c.args.member keys c.insert_full.new.self.keys causes c.push.new.self.items) c.cause_key.ensures
    (gathers_new c.cause_key.result keys c.insert_full.new.self.keys causes c.push.new.self.items c.in_ok-place.place c.args.member c.in_ok-cause.cause c.requires place.keys place.unique place.index (omega arith) c.in_ok-push.ensures.items
    (c.in_ok-cause.ensures.mark ∙ sym c.cause_key.ensures) c.in_ok-cause.ensures.members)
