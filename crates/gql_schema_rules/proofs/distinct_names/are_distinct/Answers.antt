use Rattle.std.proofs.Common.{ℕ, List, arith, sym, is_some, bytes_eq}
use Rattle.std.specs.HashMap as hash
use Rattle.std.proofs.lemmas.Grind.{common_steps}
use Rattle.std.proofs.lemmas.Map.Text.{text_keys}
use Rattle.gql_schema_rules.proofs.Distinct.{once_more}
use Rattle.gql_schema_rules.proofs.distinct_names.are_distinct.Goals as goal

pub loop-name-preserved : goal.loop-name-preserved
loop-name-preserved c = λ q. once_more
    (λ (y : List ℕ). is_some (hash.get_by (λ k. bytes_eq y k.now) c.loop-name.seen)) q c.args.names.now
    c.loop-name.name-index c.name-item.result (is_some (hash.get_by (λ k. bytes_eq q k.now) c.insert.new.self))
    (omega arith) (sym c.name-item.is)
    (grind (arith, common_steps, text_keys, c.in_ok-insert.ensures.old, c.is_some.ensures, c.if-is_some.false))
    (c.loop-name.invariant q) (grind (arith, common_steps, text_keys))

pub returns : goal.returns
returns c = λ h q. grind (arith, common_steps, c.loop-name.invariant q)
