use Rattle.std.proofs.Common.{◌++◌, ◌∷◌, [], ◌∙◌, ap, sym, if◌then◌else◌}
use Rattle.gql_ast.specs.declared.rule.Rule.TheVariants as rule
use Rattle.gql_verdict.specs.Borrowed.{named}
use Rattle.gql_verdict.specs.Naming.{fault_of_name}
use Rattle.gql_verdict.specs.V14FragmentsMustBeUsed.{fault_of_fragment}
use Rattle.gql_verdict.proofs.Adding.{mapped_step}
use Rattle.gql_verdict.proofs.v14_fragments_must_be_used.check_fragments.Goals as goal

pub loop-fragment-preserved : goal.loop-fragment-preserved
loop-fragment-preserved c = λ names spread.
    let x = c.fragment-item.result in
    mapped_step (fault_of_fragment names) named c.args.fragments.now c.loop-fragment.fragment-index x c.loop-fragment-test.true (sym c.fragment-item.is)
    c.args.faults.now.items _ _ (c.loop-fragment.invariant names spread)
    (c.in_ok-check_fragment.ensures ∙ ap (λ b. c.loop-fragment.faults.items ++ (if b then [] else fault_of_name rule.V14 (named x) ∷ [])) (spread x.name.now.text))
