use Rattle.std.proofs.Common.{[], map, subst, sym}
use Rattle.gql_iface_rules.specs.S19Ends.{Rows}
use Rattle.gql_iface_rules.proofs.S19Firsts.{rows_none, rows_more}
use Rattle.gql_iface_rules.proofs.s19_ends.end_rows.Goals as goal

pub loop-end-init : goal.loop-end-init
loop-end-init c = subst (λ rows. Rows c.args.count [] rows) (sym c.in_ok-rows.ensures) (rows_none c.args.count)

pub loop-end-preserved : goal.loop-end-preserved
loop-end-preserved c = rows_more c.args.count c.args.ends.now c.loop-end.end-index _ c.loop-end-test.true (map (λ v. v.items) c.loop-end.rows.items) c.loop-end.invariant (map (λ v. v.items) c.put_end.new.rows.items) c.in_ok-put_end.ensures
