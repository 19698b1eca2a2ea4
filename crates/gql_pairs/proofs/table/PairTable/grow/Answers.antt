use Rattle.std.proofs.Common.{◌≡◌, ◌∙◌, List, Contains, rules, subst, sym}
use Rattle.std.proofs.lemmas.Option.{slice_get_within}
use Rattle.gql_reads.proofs.Takes.{at_there}
use Rattle.gql_pairs.specs.Fragments.{KeptFragment}
use Rattle.gql_pairs.specs.Groups.{AreMembersFor, KeptGroup, MembersHold}
use Rattle.gql_pairs.specs.Tables.{AllHold, Keeps}
use Rattle.gql_merge.specs.Between.{name_of}
use Rattle.gql_pairs.proofs.Covered.{clean_members, pairs_of_group}
use Rattle.gql_pairs.proofs.Grown.{base_here, group_there, replaced_hold, replaced_keeps}
use Rattle.gql_pairs.proofs.Results.{ok_or_err, ok_then}
use Rattle.gql_pairs.proofs.table.PairTable.grow.Goals as goal

pub grown_members-requires-clause-groups : goal.grown_members-requires-clause-groups
grown_members-requires-clause-groups g c =
    let same : c.as_slice-groups.result.now ≡ c.args.self.now = search rules in
    subst (λ (l : List KeptGroup). AllHold (g.W.World.facts c.args.world.now) l) (sym same) c.requires.holds

pub grown_members-requires-clause-base : goal.grown_members-requires-clause-base
grown_members-requires-clause-base g c =
    let old = c.args.self.now in
    let x = c.requires.base.2.0 in
    let is = c.requires.base.2.1 in
    let groups = c.as_slice-groups.result.now in
    let same : groups ≡ old = search rules in
    let this : c.get-base.result.now ≡ c.index-groups-at.result = search rules in
    let base : c.get-base.result.now ≡ x = base_here groups old c.args.at x c.index-groups-at.result c.get-base.result.now same is c.index-groups-at.is this in
    subst (λ (l : List KeptGroup). Contains l c.get-base.result.now) (sym same) (subst (λ (y : KeptGroup). Contains old y) (sym base) (at_there old c.args.at x is))

pub grown_members-requires-clause-within : goal.grown_members-requires-clause-within
grown_members-requires-clause-within g c =
    let old = c.args.self.now in
    let x = c.requires.base.2.0 in
    let is = c.requires.base.2.1 in
    let groups = c.as_slice-groups.result.now in
    let same : groups ≡ old = search rules in
    let this : c.get-base.result.now ≡ c.index-groups-at.result = search rules in
    let base : c.get-base.result.now ≡ x = base_here groups old c.args.at x c.index-groups-at.result c.get-base.result.now same is c.index-groups-at.is this in
    λ y k. c.requires.base.1 (name_of y.fragment) (c.requires.base.2.2.within y (subst (λ (z : KeptGroup). Contains z.members y) base k))

pub clean_group-requires-clause-clean : goal.clean_group-requires-clause-clean
clean_group-requires-clause-clean g c =
    let F = g.W.World.facts c.args.world.now in
    (F, c.in_ok-members.ensures.hold, clean_members F c.args.fragments.now c.in_ok-members.members.items c.in_ok-members.ensures.members c.requires.clean)

pub replace-requires : goal.replace-requires
replace-requires g c = slice_get_within c.args.self.now c.args.at c.requires.base.2.0 c.requires.base.2.1

pub returns-clause-holds : goal.returns-clause-holds
returns-clause-holds g c =
    let F = g.W.World.facts c.args.world.now in
    let old = c.args.self.now in
    let x = c.requires.base.2.0 in
    let is = c.requires.base.2.1 in
    let new = c.replace.new.self in
    let group = c.in_ok-group.group in
    let hold : MembersHold F group.members = subst (λ (l : List KeptFragment). MembersHold F l) (sym c.in_ok-group.ensures.members) c.in_ok-members.ensures.hold in
    ok_or_err c.replace.result c.replace.ensures.ok c.replace.ensures.err
    (λ e. replaced_hold old c.args.at x group is new e F c.requires.holds hold)
    (λ e. subst (λ (l : List KeptGroup). AllHold F l) (sym e) c.requires.holds)

pub returns-clause-keeps : goal.returns-clause-keeps
returns-clause-keeps g c =
    let old = c.args.self.now in
    let x = c.requires.base.2.0 in
    let is = c.requires.base.2.1 in
    let groups = c.as_slice-groups.result.now in
    let same : groups ≡ old = search rules in
    let this : c.get-base.result.now ≡ c.index-groups-at.result = search rules in
    let base : c.get-base.result.now ≡ x = base_here groups old c.args.at x c.index-groups-at.result c.get-base.result.now same is c.index-groups-at.is this in
    let new = c.replace.new.self in
    let group = c.in_ok-group.group in
    let clashes : x.clashes ≡ group.clashes = c.requires.base.2.2.clean ∙ sym c.in_ok-group.ensures.clashes in
    let members : (y : KeptFragment) → Contains x.members y → Contains group.members y =
    λ y k. subst (λ (l : List KeptFragment). Contains l y) (sym c.in_ok-group.ensures.members) (c.in_ok-members.ensures.kept y (subst (λ (z : KeptGroup). Contains z.members y) (sym base) k)) in
    ok_or_err c.replace.result c.replace.ensures.ok c.replace.ensures.err
    (λ e. replaced_keeps old c.args.at x group is new e clashes members)
    (λ e. subst (λ (l : List KeptGroup). Keeps old l) (sym e) (λ n m k h. h))

pub returns-clause-has : goal.returns-clause-has
returns-clause-has g c =
    let old = c.args.self.now in
    let x = c.requires.base.2.0 in
    let is = c.requires.base.2.1 in
    let new = c.replace.new.self in
    let group = c.in_ok-group.group in
    let are : AreMembersFor c.args.fragments.now group.members = subst (λ (l : List KeptFragment). AreMembersFor c.args.fragments.now l) (sym c.in_ok-group.ensures.members) c.in_ok-members.ensures.members in
    ok_then c.replace.result c.replace.ensures.ok
    (λ e. pairs_of_group new group (group_there old c.args.at x group is new e) c.args.fragments.now are)
