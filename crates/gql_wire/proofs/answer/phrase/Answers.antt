use Rattle.std.proofs.Common.{◌≡◌, ap, arith, rules, length}
use Rattle.gql_wire.specs.Answer.{phrase_of}
use Rattle.gql_wire.proofs.Phrases.{phrase-short}
use Rattle.gql_wire.proofs.answer.phrase.Goals as goal

text : (c : goal.In-Some) → c.in-Some.phrase.now ≡ phrase_of c.args.status
unfolding phrase_of
text c = search rules

pub returns-in-Some-clause-short : goal.returns-in-Some-clause-short
returns-in-Some-clause-short c = omega (arith, phrase-short c.args.status c.requires, ap length (text c))
