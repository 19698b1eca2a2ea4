use Rattle.std.proofs.Common.{inl, inr}
use Rattle.gql_iface_rules.proofs.S19Plain.{no_default_trail}
use Rattle.gql_iface_rules.proofs.s19_default_value_cycles.check.Goals as goal

pub returns-then-not-may_types_need-clause-faults : goal.returns-then-not-may_types_need-clause-faults
returns-then-not-may_types_need-clause-faults c = λ enough f. (
  λ h. inl h,
  λ h. elim h [
    | inl o ↦ o
    | inr p ↦ absurd (no_default_trail c.args.schema.now (enough (c.may_types_need.ensures c.if-not-may_types_need.true)) p.1)
  ],
)

pub returns-then-not-may_types_need-clause-none : goal.returns-then-not-may_types_need-clause-none
returns-then-not-may_types_need-clause-none c = λ is. c.may_types_need.ensures c.if-not-may_types_need.true

pub returns-clause-faults : goal.returns-clause-faults
returns-clause-faults c = λ enough. c.in_ok-check_all.ensures
