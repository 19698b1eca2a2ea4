use Rattle.std.proofs.Common.{inl, inr}
use Rattle.gql_iface_rules.proofs.S26Leads.{no_directive_cycle}
use Rattle.gql_iface_rules.proofs.s26_directive_cycles.check.Goals as goal

pub returns-then-not-may-clause-faults : goal.returns-then-not-may-clause-faults
returns-then-not-may-clause-faults c = λ enough f. (
  λ h. inl h,
  λ h. elim h [
    | inl o ↦ o
    | inr p ↦ absurd (no_directive_cycle c.args.schema.now (c.in_ok-may.ensures.unsigned c.if-not-may.true) (enough (c.in_ok-may.ensures.nowhere c.if-not-may.true)) p.0 p.1)
  ],
)

pub returns-then-not-may-clause-none : goal.returns-then-not-may-clause-none
returns-then-not-may-clause-none c = λ is enough. record {
  unsigned = c.in_ok-may.ensures.unsigned c.if-not-may.true;
  nowhere = enough (c.in_ok-may.ensures.nowhere c.if-not-may.true);
}

pub returns-clause-faults : goal.returns-clause-faults
returns-clause-faults c = λ enough. c.in_ok-check_all.ensures
