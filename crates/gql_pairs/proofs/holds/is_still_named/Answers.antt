use Rattle.std.proofs.Common.{◌≡◌, ◌∙◌, [], ap, false, rules, sym}
use Rattle.gql_facts.specs.ListMembers.{Contains-here}
use Rattle.gql_facts.specs.declared.key.Key.TheVariants as key
use Rattle.gql_merge.specs.Between.{name_of}
use Rattle.gql_reads.specs.Readings.{own_name}
use Rattle.gql_pairs.specs.Doubts.{in_doubt}
use Rattle.gql_pairs.specs.Fragments.{IsFragmentOfName}
use Rattle.gql_pairs.proofs.holds.is_still_named.Goals as goal

pub returns-then-not-is_of_fragment-clause-answer : goal.returns-then-not-is_of_fragment-clause-answer
returns-then-not-is_of_fragment-clause-answer g c =
    let f = c.args.fragment.now in
    let name : c.as_str.result.now ≡ name_of f = search rules in
    let no : c.is_of_fragment.result ≡ false = search rules in
    let none : in_doubt c.args.doubt.now (key.FragmentOf (name_of f)) ≡ false = ap (λ n. in_doubt c.args.doubt.now (key.FragmentOf n)) (sym name) ∙ sym c.is_of_fragment.ensures ∙ no in
    let named : IsFragmentOfName (g.W.World.facts c.args.world.now) f = c.requires (own_name f) (Contains-here (own_name f) []) none in
    (λ _. named, λ _. search rules)
