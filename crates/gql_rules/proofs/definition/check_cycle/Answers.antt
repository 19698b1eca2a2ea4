use Rattle.std.proofs.Common.{rules}
use Rattle.gql_rules.proofs.Whole.{no_fragment, not_cyclic, added}
use Rattle.gql_rules.proofs.definition.check_cycle.Goals as goal

pub returns-in_default : goal.returns-in_default
returns-in_default c = λ facts reached. no_fragment facts c.args.definition.now c.args.faults.now.items (search rules)

pub returns-in_ok-add_fault_of : goal.returns-in_ok-add_fault_of
returns-in_ok-add_fault_of c = λ facts reached. added facts c.args.definition.now c.args.faults.now.items _ c.args.owner.now
    c.in-Some.fragment.now c.get.result.now _ (search rules) (search rules) (search rules) c.if-is_cyclic.true (c.is_cyclic.ensures facts reached) c.in_ok-add_fault_of.ensures

pub returns-else-is_cyclic : goal.returns-else-is_cyclic
returns-else-is_cyclic c = λ facts reached. not_cyclic facts c.args.definition.now c.args.faults.now.items
    c.in-Some.fragment.now _ (search rules) c.if-is_cyclic.false (c.is_cyclic.ensures facts reached)
