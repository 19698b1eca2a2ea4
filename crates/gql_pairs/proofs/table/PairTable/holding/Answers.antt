use Rattle.std.proofs.Common.{◌≡◌, List, rules, subst, sym}
use Rattle.std.specs.Prelude.{ℕ, true}
use Rattle.gql_pairs.specs.Groups.{KeptGroup, KeptPair}
use Rattle.gql_pairs.specs.Sweeps.{AreGroupsKept}
use Rattle.gql_pairs.specs.Tables.{AllHold, IsEntry, KeepsHolding}
use Rattle.gql_pairs.proofs.Doubting.{all_undoubted}
use Rattle.gql_pairs.proofs.Entries.{kept_from, kept_hold, kept_keep}
use Rattle.gql_pairs.proofs.Results.{if_ok}
use Rattle.gql_pairs.proofs.table.PairTable.holding.Goals as goal

pub returns-then-is_none-clause-holds : goal.returns-then-is_none-clause-holds
returns-then-is_none-clause-holds g c =
    let F = g.W.World.facts c.args.world.now in
    let none : c.is_none.result ≡ true = search rules in
    if_ok (λ (t : List KeptGroup). t ≡ c.args.self.now) (AllHold F) c.copy.result c.copy.ensures
    (λ t e. subst (AllHold F) (sym e) (all_undoubted F c.args.doubt.now c.args.self.now c.requires (c.is_none.ensures none)))

pub returns-clause-holds : goal.returns-clause-holds
returns-clause-holds g c =
    let F = g.W.World.facts c.args.world.now in
    if_ok (AreGroupsKept F c.args.self.now) (AllHold F) c.swept.result c.swept.ensures.groups (kept_hold F c.args.self.now)

pub returns-clause-kept : goal.returns-clause-kept
returns-clause-kept g c =
    let F = g.W.World.facts c.args.world.now in
    if_ok (AreGroupsKept F c.args.self.now) (KeepsHolding F c.args.self.now) c.swept.result c.swept.ensures.groups (kept_keep F c.args.self.now)

pub returns-clause-from : goal.returns-clause-from
returns-clause-from g c =
    let F = g.W.World.facts c.args.world.now in
    if_ok (AreGroupsKept F c.args.self.now) (λ (t : List KeptGroup). (n m : List ℕ) (k : KeptPair) → IsEntry t n m k → IsEntry c.args.self.now n m k) c.swept.result c.swept.ensures.groups (kept_from F c.args.self.now)
