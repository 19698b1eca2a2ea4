use Rattle.std.proofs.Common.{bytes_eq, rules}
use Rattle.std.specs.HashMap as hash
use Rattle.gql_merge.proofs.AmongFragments.{inside_of, listed_of, whole_of}
use Rattle.gql_merge.proofs.two_fragments.fragment_clashes.Goals as goal

pub table_of-requires : goal.table_of-requires
table_of-requires g c =
    whole_of (g.W.World.facts c.args.world.now) _ (g.met.W.World.is_world c.args.world.now) c.args.members.now c.requires.members
    _ c.add_members.new.sets.items c.as_slice.result.now (λ q. hash.get_by (λ k. bytes_eq q k.now) c.in_ok-numbers.numbers) (search rules) c.as_slice.ensures.value c.in_ok-numbers.ensures.added
    c.numbered_sets.new.all.items c.in_ok-numbered.numbered c.in_ok-numbered.ensures

pub add_rows-requires-clause-whole : goal.add_rows-requires-clause-whole
add_rows-requires-clause-whole g c =
    whole_of (g.W.World.facts c.args.world.now) _ (g.met.W.World.is_world c.args.world.now) c.args.members.now c.requires.members
    _ c.add_members.new.sets.items c.as_slice.result.now (λ q. hash.get_by (λ k. bytes_eq q k.now) c.in_ok-numbers.numbers) (search rules) c.as_slice.ensures.value c.in_ok-numbers.ensures.added
    c.numbered_sets.new.all.items c.in_ok-numbered.numbered c.in_ok-numbered.ensures

pub add_rows-requires-clause-inside : goal.add_rows-requires-clause-inside
add_rows-requires-clause-inside g c =
    inside_of (g.W.World.facts c.args.world.now) _ (g.met.W.World.is_world c.args.world.now) c.args.members.now c.requires.members
    _ c.add_members.new.sets.items c.as_slice.result.now (λ q. hash.get_by (λ k. bytes_eq q k.now) c.in_ok-numbers.numbers) (search rules) c.as_slice.ensures.value c.in_ok-numbers.ensures.added
    c.numbered_sets.new.all.items c.in_ok-numbered.numbered c.in_ok-numbered.ensures

pub returns-clause-found : goal.returns-clause-found
returns-clause-found g c =
    listed_of (g.W.World.facts c.args.world.now) _ (g.met.W.World.is_world c.args.world.now) c.args.members.now c.requires.members
    _ c.add_members.new.sets.items c.as_slice.result.now (λ q. hash.get_by (λ k. bytes_eq q k.now) c.in_ok-numbers.numbers) (search rules) c.as_slice.ensures.value c.in_ok-numbers.ensures.added
    c.numbered_sets.new.all.items c.in_ok-numbered.numbered c.in_ok-numbered.ensures
    c.args.fragments.now c.requires.among _ (search rules) _ c.add_rows.new.found.items (search rules) c.in_ok-add_rows.ensures
