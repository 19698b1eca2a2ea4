use Rattle.std.proofs.Common.{◌≡◌, ◌∙◌, ap, bytes_eq, false, refl, rules, subst, sym, true, Contains}
use Rattle.std.specs.List.{list_any}
use Rattle.indexmap.specs.IndexSet.{insert_key}
use Rattle.gql_facts.specs.declared.fact.FragmentFact.{FragmentFact}
use Rattle.gql_reads.specs.Readings.{members_of, name_of}
use Rattle.gql_reads.proofs.Meeting.{met_more, meets_none, meets_one, was_met}
use Rattle.gql_reads.proofs.reading.meet.Goals as goal

pub returns-then-contains-clause-meets : goal.returns-then-contains-clause-meets
returns-then-contains-clause-meets g c =
    let f = c.args.fragment.now in
    let ps = c.args.met.now.parts.items in
    let found : list_any (bytes_eq (name_of f)) c.args.met.now.names.keys ≡ true = search rules in
    let was = was_met (g.W.World.facts c.args.world.now) c.args.table.now c.args.met.now.names.keys ps c.requires.met f c.requires.holds c.requires.named found in
    meets_none (λ h. h ≡ f) ps (λ h e. subst (λ (x : FragmentFact). Contains (members_of ps) x) (sym e) was)

pub returns-clause-met : goal.returns-clause-met
returns-clause-met g c =
    let f = c.args.fragment.now in
    let absent : list_any (bytes_eq (name_of f)) c.args.met.now.names.keys ≡ false = search rules in
    let name : c.in_ok-copy.field-0 ≡ name_of f = search rules in
    let put : c.insert.new.self.keys ≡ insert_key bytes_eq c.args.met.now.names.keys (name_of f) = c.in_ok-insert.ensures.keys ∙ ap (insert_key bytes_eq c.args.met.now.names.keys) name in
    met_more (g.W.World.facts c.args.world.now) c.args.table.now c.args.met.now.names.keys c.args.met.now.parts.items c.requires.met c.part_of.new.table f c.in_ok-part.part
    (name_of f) c.insert.new.self.keys c.push.new.self.items c.part_of.ensures.keeps c.in_ok-part.ensures.part refl absent
    put c.in_ok-push.ensures.items

pub returns-clause-meets : goal.returns-clause-meets
returns-clause-meets g c = meets_one c.args.fragment.now c.in_ok-part.part c.args.met.now.parts.items c.push.new.self.items c.in_ok-part.ensures.part.is c.in_ok-push.ensures.items
