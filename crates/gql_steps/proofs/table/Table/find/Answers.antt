use Rattle.std.proofs.Common.{arith, refl, ◌-◌}
use Rattle.gql_steps.proofs.table.Table.find.Goals as goal

pub returns-then-leads : goal.returns-then-leads
returns-then-leads c = record {
  link = c.index-link.result.now;
  place = c.loop-next.next - 1;
  listed = omega (arith, c.if-next-len.true, c.loop-next-test.true, c.len.ensures);
  here = c.index-link.ensures;
  entry = refl;
  leads = c.leads.ensures c.if-leads.true;
}
