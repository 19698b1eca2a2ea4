use Rattle.std.proofs.Common.{◌≡◌, ◌∷◌, ◌++◌, [], List, rules, subst}
use Rattle.gql_reads.specs.declared.observation.Answer.{Answer}
use Rattle.gql_readers.specs.Replacements.{AreCompared}
use Rattle.gql_readers.proofs.Replacing.{compared_came}
use Rattle.gql_readers.proofs.differences.Difference.gain.Goals as goal

pub returns : goal.returns
returns c = λ olds news are.
    let self = c.args.self.now in
    let o = c.args.after.now in
    let came : self.came.items ++ o ∷ [] ≡ c.push.new.self.items = search rules in
    subst (λ (os : List Answer). AreCompared self.went.items os self.lost.keys olds (news ++ o ∷ [])) came
    (compared_came self.went.items self.came.items self.lost.keys olds news are o)
