use Rattle.std.proofs.Common.{rules}
use Rattle.gql_iface_rules.proofs.S19Firsts.{put_is}
use Rattle.gql_iface_rules.proofs.s19_ends.put_end.Goals as goal

pub returns-in_ok-push : goal.returns-in_ok-push
returns-in_ok-push c = put_is (λ v. v.items) c.args.rows.now.items c.args.end.now c.index_mut-row.result.now c.push.new.self (search rules) c.index_mut-row.ensures.value c.in_ok-push.ensures.items
