use Rattle.std.proofs.Common.{◌≡◌, ◌∷◌, ◌++◌, ◌∙◌, [], List, ap, append-nil, subst, sym}
use Rattle.std.specs.Prelude.{slice_get}
use Rattle.std.proofs.lemmas.Result.{on_ok_weaker}
use Rattle.gql_reads.specs.declared.observation.Answer.{Answer}
use Rattle.gql_readers.specs.Replacements.{AreCompared, listed}
use Rattle.gql_readers.proofs.Replacing.{listed_none, listed_some}
use Rattle.gql_readers.proofs.differences.Difference.compare_at.Goals as goal

pub returns-in-None-get : goal.returns-in-None-get
returns-in-None-get c = on_ok_weaker c.lose.result (λ f olds news are.
    let now = c.lose.new.self in
    let b = c.in-Some.before.now in
    let found = c.in-Some.ensures.lookup in
    let ys : news ≡ news ++ listed (slice_get c.args.after.now c.args.at) = sym (append-nil news) ∙ ap (λ l. news ++ l) (listed_none c.args.after.now c.args.at c.in-None-get.ensures.lookup.3) in
    let xs : olds ++ b ∷ [] ≡ olds ++ listed (slice_get c.args.before.now c.args.at) = ap (λ l. olds ++ l) (listed_some c.args.before.now c.args.at b found.3.0 found.1) in
    subst (λ (os : List Answer). AreCompared now.went.items now.came.items now.lost.keys os (news ++ listed (slice_get c.args.after.now c.args.at))) xs
    (subst (λ (os : List Answer). AreCompared now.went.items now.came.items now.lost.keys (olds ++ b ∷ []) os) ys (f olds news are))) c.lose.ensures

pub returns-in-Some-get-2 : goal.returns-in-Some-get-2
returns-in-Some-get-2 c = on_ok_weaker c.gain.result (λ f olds news are.
    let now = c.gain.new.self in
    let a = c.in-Some-get-2.after.now in
    let found = c.in-Some-get-2.ensures.lookup in
    let xs : olds ≡ olds ++ listed (slice_get c.args.before.now c.args.at) = sym (append-nil olds) ∙ ap (λ l. olds ++ l) (listed_none c.args.before.now c.args.at c.in-None.ensures.lookup.3) in
    let ys : news ++ a ∷ [] ≡ news ++ listed (slice_get c.args.after.now c.args.at) = ap (λ l. news ++ l) (listed_some c.args.after.now c.args.at a found.3.0 found.1) in
    subst (λ (os : List Answer). AreCompared now.went.items now.came.items now.lost.keys os (news ++ listed (slice_get c.args.after.now c.args.at))) xs
    (subst (λ (os : List Answer). AreCompared now.went.items now.came.items now.lost.keys olds os) ys (f olds news are))) c.gain.ensures

pub returns-in-None-get-2 : goal.returns-in-None-get-2
returns-in-None-get-2 c = λ olds news are.
    let now = c.args.self.now in
    let xs : olds ≡ olds ++ listed (slice_get c.args.before.now c.args.at) = sym (append-nil olds) ∙ ap (λ l. olds ++ l) (listed_none c.args.before.now c.args.at c.in-None.ensures.lookup.3) in
    let ys : news ≡ news ++ listed (slice_get c.args.after.now c.args.at) = sym (append-nil news) ∙ ap (λ l. news ++ l) (listed_none c.args.after.now c.args.at c.in-None-get-2.ensures.lookup.3) in
    subst (λ (os : List Answer). AreCompared now.went.items now.came.items now.lost.keys os (news ++ listed (slice_get c.args.after.now c.args.at))) xs
    (subst (λ (os : List Answer). AreCompared now.went.items now.came.items now.lost.keys olds os) ys are)
