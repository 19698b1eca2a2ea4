use Rattle.std.proofs.Common.{◌≡◌, List, Contains, rules, subst, sym}
use Rattle.std.proofs.lemmas.List.Elements.{Contains-push}
use Rattle.gql_facts.specs.Worlds.{Facts}
use Rattle.gql_pairs.specs.Fragments.{KeptFragment}
use Rattle.gql_pairs.specs.Groups.{AreMembersFor, KeptGroup, MembersHold}
use Rattle.gql_pairs.specs.Tables.{AllHold}
use Rattle.gql_pairs.proofs.Covered.{pairs_of_group}
use Rattle.gql_pairs.proofs.Results.{ok_or_err, ok_then}
use Rattle.gql_pairs.proofs.Entries.{hold_more, pair_holds}
use Rattle.gql_pairs.proofs.table.PairTable.cover_anew.Goals as goal

pub members_of-requires-clause-groups : goal.members_of-requires-clause-groups
members_of-requires-clause-groups g c =
    let same : c.as_slice-groups.result.now ≡ c.args.self.now = search rules in
    subst (λ (l : List KeptGroup). AllHold (g.W.World.facts c.args.world.now) l) (sym same) c.requires.holds

pub group_of_members-requires-clause-hold : goal.group_of_members-requires-clause-hold
group_of_members-requires-clause-hold g c = subst (λ (G : Facts). MembersHold G c.in_ok-members.members.items) (sym c.members_of.ensures.facts) c.in_ok-members.ensures.hold

pub returns-clause-holds : goal.returns-clause-holds
returns-clause-holds g c =
    let F = g.W.World.facts c.args.world.now in
    let x = c.in_ok-group.group in
    let hold : MembersHold F x.members = subst (λ (l : List KeptFragment). MembersHold F l) (sym c.in_ok-group.ensures.members) c.in_ok-members.ensures.hold in
    ok_or_err c.add.result c.add.ensures.ok c.add.ensures.err
    (λ e. hold_more F c.args.self.now x c.add.new.self e c.requires.holds (pair_holds F x hold))
    (λ e. subst (λ (l : List KeptGroup). AllHold F l) (sym e) c.requires.holds)

pub returns-clause-has : goal.returns-clause-has
returns-clause-has g c =
    let x = c.in_ok-group.group in
    let are : AreMembersFor c.args.fragments.now x.members = subst (λ (l : List KeptFragment). AreMembersFor c.args.fragments.now l) (sym c.in_ok-group.ensures.members) c.in_ok-members.ensures.members in
    ok_then c.add.result c.add.ensures.ok
    (λ e. pairs_of_group c.add.new.self x (subst (λ (l : List KeptGroup). Contains l x) (sym e) (Contains-push c.args.self.now x)) c.args.fragments.now are)
