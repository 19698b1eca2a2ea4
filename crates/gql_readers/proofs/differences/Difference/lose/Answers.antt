use Rattle.std.proofs.Common.{◌≡◌, ◌∷◌, ◌++◌, ◌∙◌, [], List, ap, inr, rules, subst}
use Rattle.indexmap.specs.IndexSet.{insert_key}
use Rattle.gql_facts.specs.Keys.{is_key}
use Rattle.gql_reads.specs.declared.observation.Answer.{Answer}
use Rattle.gql_readers.specs.Replacements.{AreCompared}
use Rattle.gql_readers.proofs.Replacing.{compared_went, key_put, key_stays}
use Rattle.gql_readers.proofs.differences.Difference.lose.Goals as goal

pub returns : goal.returns
returns c = λ olds news are.
    let self = c.args.self.now in
    let o = c.args.before.now in
    let keys = c.insert.new.self.keys in
    let put : keys ≡ insert_key is_key self.lost.keys o.observation.key = c.in_ok-insert.ensures.keys ∙ ap (insert_key is_key self.lost.keys) (c.in_ok-copy.ensures ∙ ap (λ (a : Answer). a.observation.key) c.get.ensures) in
    let went : self.went.items ++ o ∷ [] ≡ c.push.new.self.items = search rules in
    subst (λ (os : List Answer). AreCompared os self.came.items keys (olds ++ o ∷ []) news) went
    (compared_went self.went.items self.came.items self.lost.keys olds news are o keys
    (λ k. key_stays self.lost.keys keys o.observation.key k put) (inr (key_put self.lost.keys keys o.observation.key put)))
