use Rattle.std.proofs.Common.{◌∙◌, Some, ap, arith, bytes_eq, sym}
use Rattle.std.specs.HashMap as hash
use Rattle.std.proofs.lemmas.Map.Text.{hash_map_updates_str}
use Rattle.gql_ast.specs.declared.executable.Fragment.{Fragment}
use Rattle.gql_facts.specs.declared.fact.FragmentFact.{FragmentFact}
use Rattle.gql_single_root.proofs.Places.{places_all, places_more}
use Rattle.gql_single_root.proofs.walk.places_of.Goals as goal

pub loop-place-preserved : goal.loop-place-preserved
loop-place-preserved c =
    places_more c.args.members.now c.loop-place.place c.index-members-place.result c.as_str.result.now
    (λ q. hash.get_by (λ k. bytes_eq q k.now) c.loop-place.places) (λ q. hash.get_by (λ k. bytes_eq q k.now) c.insert.new.self)
    (omega (arith, c.loop-place-test.true)) c.index-members-place.is (c.as_str.ensures ∙ ap (λ (x : Fragment). x.name.text) c.get.ensures ∙ ap (λ (g : FragmentFact). g.fragment.name.text) (sym c.index-members-place.is))
    (hash_map_updates_str c.as_str.result.now c.loop-place.places c.insert.new.self (Some c.loop-place.place) c.in_ok-insert.ensures.updates)
    c.loop-place.invariant

pub returns : goal.returns
returns c = places_all c.args.members.now c.loop-place.place (λ q. hash.get_by (λ k. bytes_eq q k.now) c.loop-place.places)
    (omega (arith, c.loop-place-test.false)) c.loop-place.invariant
