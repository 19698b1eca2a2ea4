use Rattle.std.proofs.Common.{ℕ, List, [], subst, sym}
use Rattle.std.proofs.lemmas.List.{take_all}
use Rattle.gql_facts.specs.Members.{Lists}
use Rattle.gql_facts.specs.declared.fact.FragmentFact.{FragmentFact}
use Rattle.gql_usage.specs.Adding.{IsBrokenName}
use Rattle.gql_facts.specs.Presents.{facts_of_present}
use Rattle.gql_usage.proofs.Reading.{names_more, no_names}
use Rattle.gql_usage.proofs.reader.broken_names.Goals as goal

pub loop-fragment-init : goal.loop-fragment-init
loop-fragment-init c = record { holds = c.requires.shared; so_far = subst (λ (ns : List (List ℕ)). Lists ns (IsBrokenName (facts_of_present c.args.question.now.present) c.args.question.now.removal.now [])) (sym c.new-names.ensures.items) (no_names (facts_of_present c.args.question.now.present) c.args.question.now.removal.now) }

pub add_name-requires-clause-stored : goal.add_name-requires-clause-stored
add_name-requires-clause-stored c = c.requires.stored c.fragment-item.result (c.loop-fragment.fragment-index, c.loop-fragment-test.true, sym c.fragment-item.is)

pub loop-fragment-preserved : goal.loop-fragment-preserved
loop-fragment-preserved c = record {
  holds = c.in_ok-add_name.ensures.shared;
  so_far = names_more (facts_of_present c.args.question.now.present) c.args.question.now.removal.now c.args.fragments.now c.loop-fragment.fragment-index c.fragment-item.result
      c.loop-fragment-test.true c.fragment-item.is c.loop-fragment.names.items c.add_name.new.names.items c.loop-fragment.invariant.so_far c.in_ok-add_name.ensures.adds;
}

pub returns-clause-names : goal.returns-clause-names
returns-clause-names c = subst (λ (gs : List FragmentFact). Lists c.loop-fragment.names.items (IsBrokenName (facts_of_present c.args.question.now.present) c.args.question.now.removal.now gs))
    (take_all _ _ c.loop-fragment-test.false) c.loop-fragment.invariant.so_far
