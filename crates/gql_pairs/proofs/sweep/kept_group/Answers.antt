use Rattle.std.proofs.Common.{◌≡◌, Contains, List, rules, subst, sym}
use Rattle.std.specs.Prelude.{IsTrue}
use Rattle.gql_facts.specs.Worlds.{Facts}
use Rattle.gql_pairs.specs.Doubts.{MembersHoldUndoubted}
use Rattle.gql_pairs.specs.Fragments.{KeptFragment}
use Rattle.gql_pairs.specs.Groups.{KeptGroup, MembersHold}
use Rattle.gql_pairs.specs.Sweeps.{IsGroupKept}
use Rattle.gql_pairs.proofs.Entries.{whole_kept}
use Rattle.gql_pairs.proofs.Results.{if_match}
use Rattle.gql_pairs.proofs.sweep.kept_group.Goals as goal

pub all_hold-requires : goal.all_hold-requires
all_hold-requires g c =
    let same : c.members-all.result.now ≡ c.args.group.now.members = search rules in
    subst (λ (l : List KeptFragment). MembersHoldUndoubted (g.W.World.facts c.args.world.now) c.args.doubt.now l) (sym same) c.requires

pub returns-then-hold-clause-kept : goal.returns-then-hold-clause-kept
returns-then-hold-clause-kept g c =
    let F = g.W.World.facts c.args.world.now in
    let same : c.members-all.result.now ≡ c.args.group.now.members = search rules in
    let yes : IsTrue c.in_ok-hold.hold = search rules in
    let hold : MembersHold F c.args.group.now.members = subst (λ (l : List KeptFragment). MembersHold F l) same (c.in_ok-hold.ensures.hold yes) in
    if_match (λ (y : KeptGroup). y ≡ c.args.group.now) (IsGroupKept F c.args.group.now) (λ _. ⊥ → ⊥) c.clone.result c.clone.ensures.cases
    (λ y e. subst (IsGroupKept F c.args.group.now) (sym e) (whole_kept F c.args.group.now hold))

pub kept_members-requires : goal.kept_members-requires
kept_members-requires g c =
    let same : c.members-all.result.now ≡ c.args.group.now.members = search rules in
    subst (λ (G : Facts). MembersHoldUndoubted G c.args.doubt.now c.members-all.result.now) (sym c.all_hold.ensures.facts)
    (subst (λ (l : List KeptFragment). MembersHoldUndoubted (g.W.World.facts c.args.world.now) c.args.doubt.now l) (sym same) c.requires)

pub with_members-requires : goal.with_members-requires
with_members-requires g c =
    let same : c.members-all.result.now ≡ c.get-2.result.now.members = search rules in
    λ x h. subst (λ (l : List KeptFragment). Contains l x) same (c.in_ok-members.ensures.kept.sound x h).0
