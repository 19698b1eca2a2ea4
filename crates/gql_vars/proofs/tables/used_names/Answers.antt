use Rattle.std.proofs.Common.{sym, arith}
use Rattle.std.proofs.lemmas.Grind.{common_steps}
use Rattle.std.proofs.lemmas.Map.Text.{text_keys}
use Rattle.gql_vars.proofs.Lookups.{used_more}
use Rattle.gql_vars.proofs.tables.used_names.Goals as goal

pub loop-used-preserved : goal.loop-used-preserved
loop-used-preserved c = λ q.
    rw (used_more c.args.uses.now c.loop-used.used-index c.used-item.result q (omega arith) (sym c.used-item.is))
    grind (arith, common_steps, text_keys, c.loop-used.invariant q)
