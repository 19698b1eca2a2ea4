use Rattle.std.proofs.Common.{◌≡◌, ◌∙◌, List, ap, bytes_eq, rules, subst}
use Rattle.std.proofs.lemmas.List.{take_all}
use Rattle.indexmap.specs.IndexSet.{insert_key}
use Rattle.gql_facts.specs.declared.fact.FragmentFact.{FragmentFact}
use Rattle.gql_merge.specs.Between.{name_of}
use Rattle.gql_pairs.specs.Gathering.{AreNames}
use Rattle.gql_pairs.proofs.Grown.{names_more}
use Rattle.gql_pairs.proofs.growing.names_of.Goals as goal

pub loop-fragment-preserved : goal.loop-fragment-preserved
loop-fragment-preserved c =
    let x = c.fragment-item.result in
    let name : c.in_ok-copy.field-0 ≡ name_of x = search rules in
    let put : c.insert.new.self.keys ≡ insert_key bytes_eq c.loop-fragment.names.keys (name_of x) = c.in_ok-insert.ensures.keys ∙ ap (insert_key bytes_eq c.loop-fragment.names.keys) name in
    names_more c.args.fragments.now c.loop-fragment.fragment-index x c.loop-fragment-test.true c.fragment-item.is c.loop-fragment.names.keys c.insert.new.self.keys put c.loop-fragment.invariant

pub returns : goal.returns
returns c = subst (λ (fs : List FragmentFact). AreNames c.loop-fragment.names.keys fs) (take_all _ _ c.loop-fragment-test.false) c.loop-fragment.invariant
