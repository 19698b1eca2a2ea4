use Rattle.std.proofs.Common.{◌≡◌, ◌∙◌, ℕ, List, ap, bytes_eq, rules, subst, sym}
use Rattle.indexmap.specs.IndexMap.{insert_entry}
use Rattle.gql_reads.specs.Observations.{Hold, about}
use Rattle.gql_reads.specs.declared.observation.TypeAnswers.{TypeAnswers}
use Rattle.gql_reads.proofs.KnownTypes.{type_added, type_asked}
use Rattle.gql_reads.proofs.leading.ask_first.Goals as goal

pub returns-clause-hold : goal.returns-clause-hold
returns-clause-hold g c =
    let e = c.in_ok-asked.ensures in
    subst (λ (t : TypeAnswers). Hold (g.W.World.facts c.args.world.now) (about t)) (sym c.in_ok-answers.ensures)
    (type_asked (g.W.World.facts c.args.world.now) c.args.name.now c.in_ok-asked.asked e.name e.kind e.possible e.input e.values)

pub returns-clause-known : goal.returns-clause-known
returns-clause-known g c =
    let e = c.in_ok-asked.ensures in
    let F = g.W.World.facts c.args.world.now in
    let same : c.in_ok-entry.entry ≡ c.in_ok-asked.asked = search rules in
    let named : c.in_ok-copy.field-0 ≡ c.args.name.now = search rules in
    type_added F c.args.known.now c.args.name.now c.in_ok-entry.entry c.insert.new.self.entries c.requires.absent
    (c.in_ok-insert.ensures.entries ∙ ap (λ (n : List ℕ). insert_entry bytes_eq c.args.known.now.entries n c.in_ok-entry.entry) named) (ap (λ (t : TypeAnswers). t.name) same ∙ e.name)
    (subst (λ (t : TypeAnswers). Hold F (about t)) (sym same) (type_asked F c.args.name.now c.in_ok-asked.asked e.name e.kind e.possible e.input e.values)) c.requires.known
