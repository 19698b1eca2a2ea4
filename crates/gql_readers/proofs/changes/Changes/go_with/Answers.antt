use Rattle.std.proofs.Common.{◌++◌, List, append-nil, subst, sym, take}
use Rattle.std.proofs.lemmas.List.{take_all}
use Rattle.gql_reads.specs.declared.observation.Answer.{Answer}
use Rattle.gql_readers.specs.Merged.{AreGoing}
use Rattle.gql_readers.proofs.Coming.{go_one, more_seen}
use Rattle.gql_readers.proofs.changes.Changes.go_with.Goals as goal

pub loop-answer-init : goal.loop-answer-init
loop-answer-init c = λ coming going before new are.
    subst (λ (os : List Answer). AreGoing c.args.self.now coming going c.args.id.now os) (sym (append-nil before)) are

pub loop-answer-preserved : goal.loop-answer-preserved
loop-answer-preserved c = λ coming going before new are.
    let o = c.answer-item.result in
    let i = c.loop-answer.answer-index in
    let os = c.args.answers.now in
    subst (λ (zs : List Answer). AreGoing c.note_go.new.self coming going c.args.id.now zs) (more_seen before os i o c.loop-answer-test.true c.answer-item.is)
    (go_one c.args.id.now going new c.loop-answer.self c.note_go.new.self (before ++ take i os) o coming c.in_ok-note_go.ensures (c.loop-answer.invariant coming going before new are))

pub returns : goal.returns
returns c = λ coming going before new are.
    subst (λ (zs : List Answer). AreGoing c.loop-answer.self coming going c.args.id.now (before ++ zs)) (take_all _ _ c.loop-answer-test.false)
    (c.loop-answer.invariant coming going before new are)
