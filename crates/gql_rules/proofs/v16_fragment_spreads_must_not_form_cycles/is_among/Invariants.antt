use Rattle.std.proofs.Common.{Contains, take}
use Rattle.gql_rules.specs.V16FragmentSpreadsMustNotFormCycles.{own_fact}
use Rattle.gql_rules.proofs.v16_fragment_spreads_must_not_form_cycles.is_among.Given as goal

abbrev pub invariant-loop-member : goal.invariant-loop-member
invariant-loop-member l = Contains (take l.member-index l.members) (own_fact l.definition l.fragment) → ⊥
