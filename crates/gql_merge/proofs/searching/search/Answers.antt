use Rattle.std.proofs.Common.{◌≡◌, ◌∙◌, ap, bytes_eq, length, nat_eq, rules, sym}
use Rattle.std.specs.HashMap as hash
use Rattle.gql_merge.proofs.CleanNames.{none_if}
use Rattle.gql_merge.proofs.Final.{clean_of, inside_of, lists_of, names_clean_of, own_clean_of, whole_of}
use Rattle.gql_merge.proofs.searching.search.Goals as goal

pub own_clashes-requires-clause-whole : goal.own_clashes-requires-clause-whole
own_clashes-requires-clause-whole g c =
    whole_of (g.W.World.facts c.args.world.now) _ (g.met.W.World.is_world c.args.world.now) c.args.definition.now c.args.members.now c.requires.members
    c.args.own.items c.add_members.new.sets.items c.as_slice.result.now (λ q. hash.get_by (λ k. bytes_eq q k.now) c.in_ok-fragments.fragments) c.as_slice.ensures.value c.requires.own c.in_ok-fragments.ensures.added
    c.numbered_sets.new.all.items c.in_ok-numbered.numbered c.in_ok-numbered.ensures c.args.first c.as_slice-2.result.now (c.as_slice-2.ensures.value ∙ c.in_ok-seeds.ensures) c.requires.first

pub own_clashes-requires-clause-bodies : goal.own_clashes-requires-clause-bodies
own_clashes-requires-clause-bodies g c =
    inside_of (g.W.World.facts c.args.world.now) _ (g.met.W.World.is_world c.args.world.now) c.args.definition.now c.args.members.now c.requires.members
    c.args.own.items c.add_members.new.sets.items c.as_slice.result.now (λ q. hash.get_by (λ k. bytes_eq q k.now) c.in_ok-fragments.fragments) c.as_slice.ensures.value c.requires.own c.in_ok-fragments.ensures.added
    c.numbered_sets.new.all.items c.in_ok-numbered.numbered c.in_ok-numbered.ensures c.args.first c.as_slice-2.result.now (c.as_slice-2.ensures.value ∙ c.in_ok-seeds.ensures) c.requires.first

pub own_clashes-requires-clause-clean : goal.own_clashes-requires-clause-clean
own_clashes-requires-clause-clean g c = λ known.
    clean_of (g.W.World.facts c.args.world.now) _ (g.met.W.World.is_world c.args.world.now) c.args.definition.now c.args.members.now c.requires.members
    c.args.own.items c.add_members.new.sets.items c.as_slice.result.now (λ q. hash.get_by (λ k. bytes_eq q k.now) c.in_ok-fragments.fragments) c.as_slice.ensures.value c.requires.own c.in_ok-fragments.ensures.added
    c.numbered_sets.new.all.items c.in_ok-numbered.numbered c.in_ok-numbered.ensures c.args.first c.as_slice-2.result.now (c.as_slice-2.ensures.value ∙ c.in_ok-seeds.ensures) c.requires.first
    c.args.clean.now c.requires.clean (c.requires.known known)

pub add_spread-requires-clause-whole : goal.add_spread-requires-clause-whole
add_spread-requires-clause-whole g c =
    whole_of (g.W.World.facts c.args.world.now) _ (g.met.W.World.is_world c.args.world.now) c.args.definition.now c.args.members.now c.requires.members
    c.args.own.items c.add_members.new.sets.items c.as_slice.result.now (λ q. hash.get_by (λ k. bytes_eq q k.now) c.in_ok-fragments.fragments) c.as_slice.ensures.value c.requires.own c.in_ok-fragments.ensures.added
    c.numbered_sets.new.all.items c.in_ok-numbered.numbered c.in_ok-numbered.ensures c.args.first c.as_slice-2.result.now (c.as_slice-2.ensures.value ∙ c.in_ok-seeds.ensures) c.requires.first

pub add_spread-requires-clause-bodies : goal.add_spread-requires-clause-bodies
add_spread-requires-clause-bodies g c =
    inside_of (g.W.World.facts c.args.world.now) _ (g.met.W.World.is_world c.args.world.now) c.args.definition.now c.args.members.now c.requires.members
    c.args.own.items c.add_members.new.sets.items c.as_slice.result.now (λ q. hash.get_by (λ k. bytes_eq q k.now) c.in_ok-fragments.fragments) c.as_slice.ensures.value c.requires.own c.in_ok-fragments.ensures.added
    c.numbered_sets.new.all.items c.in_ok-numbered.numbered c.in_ok-numbered.ensures c.args.first c.as_slice-3.result.now (c.as_slice-3.ensures.value ∙ c.in_ok-seeds.ensures) c.requires.first

pub returns-in_err-add_spread-clause-clean : goal.returns-in_err-add_spread-clause-clean
returns-in_err-add_spread-clause-clean g c =
    let empty : c.is_empty-is_clean.result ≡ nat_eq (length c.in_ok-pairs.pairs.items) 0 = c.is_empty-is_clean.ensures ∙ ap (λ n. nat_eq n 0) (search rules) in
    names_clean_of (g.W.World.facts c.args.world.now) _ (g.met.W.World.is_world c.args.world.now) c.args.definition.now c.args.members.now c.requires.members
    c.args.own.items c.add_members.new.sets.items c.as_slice.result.now (λ q. hash.get_by (λ k. bytes_eq q k.now) c.in_ok-fragments.fragments) c.as_slice.ensures.value c.requires.own c.in_ok-fragments.ensures.added
    c.numbered_sets.new.all.items c.in_ok-numbered.numbered c.in_ok-numbered.ensures c.args.first c.as_slice-2.result.now (c.as_slice-2.ensures.value ∙ c.in_ok-seeds.ensures) c.requires.first
    c.args.clean.now c.add_spread.new.clean c.as_slice-3.result.now _ c.in_ok-pairs.pairs.items c.in_ok-pairs.ensures (λ t. none_if c.in_ok-pairs.pairs.items (sym empty ∙ c.is_wanted-wanted.ensures t))
    (c.as_slice-3.ensures.value ∙ c.in_ok-seeds.ensures) c.add_spread.ensures c.requires.clean

pub returns-in_err-faults-clause-clean : goal.returns-in_err-faults-clause-clean
returns-in_err-faults-clause-clean g c =
    let empty : c.is_empty-is_clean.result ≡ nat_eq (length c.in_ok-pairs.pairs.items) 0 = c.is_empty-is_clean.ensures ∙ ap (λ n. nat_eq n 0) (search rules) in
    names_clean_of (g.W.World.facts c.args.world.now) _ (g.met.W.World.is_world c.args.world.now) c.args.definition.now c.args.members.now c.requires.members
    c.args.own.items c.add_members.new.sets.items c.as_slice.result.now (λ q. hash.get_by (λ k. bytes_eq q k.now) c.in_ok-fragments.fragments) c.as_slice.ensures.value c.requires.own c.in_ok-fragments.ensures.added
    c.numbered_sets.new.all.items c.in_ok-numbered.numbered c.in_ok-numbered.ensures c.args.first c.as_slice-2.result.now (c.as_slice-2.ensures.value ∙ c.in_ok-seeds.ensures) c.requires.first
    c.args.clean.now c.add_spread.new.clean c.as_slice-3.result.now _ c.in_ok-pairs.pairs.items c.in_ok-pairs.ensures (λ t. none_if c.in_ok-pairs.pairs.items (sym empty ∙ c.is_wanted-wanted.ensures t))
    (c.as_slice-3.ensures.value ∙ c.in_ok-seeds.ensures) c.add_spread.ensures c.requires.clean

pub returns-clause-clean : goal.returns-clause-clean
returns-clause-clean g c =
    let empty : c.is_empty-is_clean.result ≡ nat_eq (length c.in_ok-pairs.pairs.items) 0 = c.is_empty-is_clean.ensures ∙ ap (λ n. nat_eq n 0) (search rules) in
    names_clean_of (g.W.World.facts c.args.world.now) _ (g.met.W.World.is_world c.args.world.now) c.args.definition.now c.args.members.now c.requires.members
    c.args.own.items c.add_members.new.sets.items c.as_slice.result.now (λ q. hash.get_by (λ k. bytes_eq q k.now) c.in_ok-fragments.fragments) c.as_slice.ensures.value c.requires.own c.in_ok-fragments.ensures.added
    c.numbered_sets.new.all.items c.in_ok-numbered.numbered c.in_ok-numbered.ensures c.args.first c.as_slice-2.result.now (c.as_slice-2.ensures.value ∙ c.in_ok-seeds.ensures) c.requires.first
    c.args.clean.now c.add_spread.new.clean c.as_slice-3.result.now _ c.in_ok-pairs.pairs.items c.in_ok-pairs.ensures (λ t. none_if c.in_ok-pairs.pairs.items (sym empty ∙ c.is_wanted-wanted.ensures t))
    (c.as_slice-3.ensures.value ∙ c.in_ok-seeds.ensures) c.add_spread.ensures c.requires.clean

pub returns-clause-is_clean : goal.returns-clause-is_clean
returns-clause-is_clean g c = λ clean.
    let empty : c.is_empty-is_clean.result ≡ nat_eq (length c.in_ok-pairs.pairs.items) 0 = c.is_empty-is_clean.ensures ∙ ap (λ n. nat_eq n 0) (search rules) in
    own_clean_of (g.W.World.facts c.args.world.now) _ (g.met.W.World.is_world c.args.world.now) c.args.definition.now c.args.members.now c.requires.members
    c.args.own.items c.add_members.new.sets.items c.as_slice.result.now (λ q. hash.get_by (λ k. bytes_eq q k.now) c.in_ok-fragments.fragments) c.as_slice.ensures.value c.requires.own c.in_ok-fragments.ensures.added
    c.numbered_sets.new.all.items c.in_ok-numbered.numbered c.in_ok-numbered.ensures c.args.first c.as_slice-2.result.now (c.as_slice-2.ensures.value ∙ c.in_ok-seeds.ensures) c.requires.first
    c.in_ok-pairs.pairs.items c.in_ok-pairs.ensures (none_if c.in_ok-pairs.pairs.items (sym empty ∙ clean))

pub returns-clause-found : goal.returns-clause-found
returns-clause-found g c =
    lists_of (g.W.World.facts c.args.world.now) _ (g.met.W.World.is_world c.args.world.now) c.args.definition.now c.args.members.now c.requires.members
    c.args.own.items c.add_members.new.sets.items c.as_slice.result.now (λ q. hash.get_by (λ k. bytes_eq q k.now) c.in_ok-fragments.fragments) c.as_slice.ensures.value c.requires.own c.in_ok-fragments.ensures.added
    c.numbered_sets.new.all.items c.in_ok-numbered.numbered c.in_ok-numbered.ensures c.args.first c.as_slice-2.result.now (c.as_slice-2.ensures.value ∙ c.in_ok-seeds.ensures) c.requires.first
    c.in_ok-pairs.pairs.items c.as_slice-5.result.now c.as_slice-4.result.now c.in_ok-owner.owner c.in_ok-faults.faults.items
    c.in_ok-pairs.ensures c.as_slice-5.ensures.value c.as_slice-4.ensures.value c.in_ok-owner.ensures c.in_ok-faults.ensures

pub returns-in_err-add_spread-clause-kept : goal.returns-in_err-add_spread-clause-kept
returns-in_err-add_spread-clause-kept g c = c.add_spread.ensures.kept

pub returns-in_err-faults-clause-kept : goal.returns-in_err-faults-clause-kept
returns-in_err-faults-clause-kept g c = c.add_spread.ensures.kept

pub returns-clause-kept : goal.returns-clause-kept
returns-clause-kept g c = c.add_spread.ensures.kept
