use Rattle.std.proofs.Common.{inl, inr}
use Rattle.gql_iface_rules.proofs.rules.check_inputs.Goals as goal

pub returns-then-is_skipped-clause-faults : goal.returns-then-is_skipped-clause-faults
returns-then-is_skipped-clause-faults c = λ none f. (λ h. inl h, λ h. elim h [ inl o ↦ o | inr p ↦ absurd (none c.if-is_skipped.true p.0 p.1) ])

pub returns-then-is_skipped-clause-none : goal.returns-then-is_skipped-clause-none
returns-then-is_skipped-clause-none c = λ is none. none c.if-is_skipped.true

pub returns-clause-faults : goal.returns-clause-faults
returns-clause-faults c = λ none. c.in_ok-finds_none.ensures.faults

pub returns-clause-none : goal.returns-clause-none
returns-clause-none c = λ is none. c.in_ok-finds_none.ensures.none is
