use Rattle.std.proofs.Common.{◌≡◌, ◌∙◌, ◌<◌, ◌++◌, [], List, append-nil, get_or, length, rules, subst, sym, take}
use Rattle.std.proofs.lemmas.List.{take_all}
use Rattle.gql_reads.specs.Records.{Kept}
use Rattle.gql_reads.specs.declared.observation.Answer.{Answer}
use Rattle.gql_readers.specs.Merged.{AreComing}
use Rattle.gql_readers.proofs.Coming.{answers_of, come_none, more_parts}
use Rattle.gql_readers.proofs.changes.Changes.come.Goals as goal

pub loop-part-init : goal.loop-part-init
loop-part-init c = λ coming going are new.
    let own = c.args.reading.now.own.record in
    let id = c.args.id.now in
    let seen : c.answers.result.now ≡ own = search rules in
    subst (λ (zs : List Answer). AreComing c.come_with.new.self coming going id zs) (seen ∙ sym (append-nil own))
    (c.in_ok-come_with.ensures coming going [] new (come_none id coming c.args.self.now going are))

pub loop-part-preserved : goal.loop-part-preserved
loop-part-preserved c = λ coming going are new.
    let p = c.part-item.result in
    let i = c.loop-part.part-index in
    let id = c.args.id.now in
    let own = c.args.reading.now.own.record in
    let ps = c.args.reading.now.parts.items in
    let same : c.as_slice-part-items.result.now ≡ ps = c.as_slice-part-items.ensures.value in
    let seen : c.answers-in-loop-part.result.now ≡ p.seen = search rules in
    let after = c.come_with-in-loop-part.new in
    subst (λ (zs : List Answer). AreComing after.self coming going id zs) (more_parts own ps i p
    (subst (λ (zs : List Kept). i < length zs) same c.loop-part-test.true) (subst (λ (zs : List Kept). p ≡ get_or zs i p) same c.part-item.is))
    (subst (λ (zs : List Answer). AreComing after.self coming going id ((own ++ answers_of (take i ps)) ++ zs)) seen
    (c.in_ok-come_with-2.ensures coming going (own ++ answers_of (take i ps)) new (c.loop-part.invariant coming going are new)))

pub returns : goal.returns
returns c = λ coming going are new.
    let own = c.args.reading.now.own.record in
    let same : c.as_slice-part-items.result.now ≡ c.args.reading.now.parts.items = c.as_slice-part-items.ensures.value in
    subst (λ (zs : List Kept). AreComing c.loop-part.self coming going c.args.id.now (own ++ answers_of zs)) (subst (λ (zs : List Kept). take c.loop-part.part-index zs ≡ zs) same (take_all _ _ c.loop-part-test.false))
    (c.loop-part.invariant coming going are new)
