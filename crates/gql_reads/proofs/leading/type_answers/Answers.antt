use Rattle.std.proofs.Common.{◌∙◌, sym}
use Rattle.gql_reads.proofs.KnownTypes.{type_found, type_input}
use Rattle.gql_reads.proofs.leading.type_answers.Goals as goal

pub returns-in-Some-clause-name : goal.returns-in-Some-clause-name
returns-in-Some-clause-name g c =
    (type_found (g.W.World.facts c.args.world.now) c.args.name.now c.in-Some.answers c.args.known.now.entries (sym c.in_ok-answers.ensures ∙ c.in-Some.is) c.requires.known).0

pub returns-in-Some-clause-hold : goal.returns-in-Some-clause-hold
returns-in-Some-clause-hold g c =
    (type_found (g.W.World.facts c.args.world.now) c.args.name.now c.in-Some.answers c.args.known.now.entries (sym c.in_ok-answers.ensures ∙ c.in-Some.is) c.requires.known).1

pub returns-in-Some-clause-input : goal.returns-in-Some-clause-input
returns-in-Some-clause-input g c =
    type_input (g.W.World.facts c.args.world.now) c.args.name.now c.in-Some.answers
    (type_found (g.W.World.facts c.args.world.now) c.args.name.now c.in-Some.answers c.args.known.now.entries (sym c.in_ok-answers.ensures ∙ c.in-Some.is) c.requires.known)
