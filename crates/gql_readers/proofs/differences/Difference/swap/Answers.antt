use Rattle.std.proofs.Common.{◌≡◌, ◌∷◌, ◌++◌, ◌∙◌, [], List, ap, rules, subst, sym}
use Rattle.gql_reads.specs.declared.observation.Answer.{Answer}
use Rattle.gql_readers.specs.Replacements.{AreCompared}
use Rattle.gql_readers.proofs.Replacing.{compared_same, compared_swap}
use Rattle.gql_readers.proofs.differences.Difference.swap.Goals as goal

pub returns-then-same : goal.returns-then-same
returns-then-same c = λ olds news are.
    let self = c.args.self.now in
    let b = c.args.before.now in
    let same : b ≡ c.args.after.now = sym c.get.ensures ∙ c.same.ensures.0 c.if-same.true ∙ c.get-2.ensures in
    subst (λ (a : Answer). AreCompared self.went.items self.came.items self.lost.keys (olds ++ b ∷ []) (news ++ a ∷ [])) same
    (compared_same self.went.items self.came.items self.lost.keys olds news are b)

pub returns-then-same-2 : goal.returns-then-same-2
returns-then-same-2 c = λ olds news are.
    let self = c.args.self.now in
    let b = c.args.before.now in
    let a = c.args.after.now in
    let key : b.observation.key ≡ a.observation.key = sym (ap (λ (o : Answer). o.observation.key) c.get-3.ensures) ∙ c.same-2.ensures.0 c.if-same-2.true ∙ ap (λ (o : Answer). o.observation.key) c.get-4.ensures in
    let went : self.went.items ++ b ∷ [] ≡ c.push.new.self.items = search rules in
    let came : self.came.items ++ a ∷ [] ≡ c.push-then-same-2.new.self.items = search rules in
    subst (λ (os : List Answer). AreCompared os c.push-then-same-2.new.self.items self.lost.keys (olds ++ b ∷ []) (news ++ a ∷ [])) went
    (subst (λ (os : List Answer). AreCompared (self.went.items ++ b ∷ []) os self.lost.keys (olds ++ b ∷ []) (news ++ a ∷ [])) came
    (compared_swap self.went.items self.came.items self.lost.keys olds news are b a key))
