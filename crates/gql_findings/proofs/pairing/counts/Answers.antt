use Rattle.std.proofs.Common.{◌∙◌, refl, ap, get_or}
use Rattle.std.specs.HashMap.{get}
use Rattle.std.specs.Prelude.{unwrap_or}
use Rattle.gql_findings.specs.Keys.{same_key}
use Rattle.gql_findings.proofs.Counting.{counted, blank}
use Rattle.gql_findings.proofs.pairing.counts.Goals as goal

pub loop-key-preserved : goal.loop-key-preserved
loop-key-preserved c =
    let keys = c.args.keys.now in
    let i = c.loop-key.key-index in
    let key = get_or keys i blank in
    let count = c.unwrap_or-count.ensures ∙ ap (λ o. unwrap_or o 0) (c.copied.ensures ∙ c.get.ensures.value) ∙ c.loop-key.invariant key in
    λ q. counted q key keys i blank c.loop-key-test.true refl (get same_key c.loop-key.counts q) (get same_key c.insert.new.self q) c.unwrap_or-count.result
    (c.loop-key.invariant q) count (same_key key q) refl (c.in_ok-insert.ensures.updates.0 q)
