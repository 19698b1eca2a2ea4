use Rattle.std.proofs.Common.{◌∙◌, List, Contains, ap, subst, sym, take}
use Rattle.gql_ast.specs.declared.fault.Fault.{Fault}
use Rattle.gql_facts.specs.Members.{Lists}
use Rattle.gql_facts.specs.Worlds.{Facts}
use Rattle.gql_merge.proofs.Cleanness.{first_of, light_here, light_of, no_faults}
use Rattle.gql_merge.specs.Clean.{AreClean}
use Rattle.gql_merge.specs.MergeFaults.{IsMergeFault}
use Rattle.gql_merge.specs.declared.flat.FlatSet.{FlatSet}
use Rattle.gql_merge.proofs.merging.merge_faults_with.Goals as goal

pub add_own-requires-clause-own : goal.add_own-requires-clause-own
add_own-requires-clause-own g c = λ own.
    light_of (g.W.World.facts c.args.world.now) (g.W.World.facts c.own_sets.new.world) (g.W.World.facts c.is_known_clean.new.world) c.args.definition.now
    c.in_ok-own.own.items c.as_slice.result.now c.first_sets-first.result c.in_ok-is_last_clean.is_last_clean c.in_ok-own.ensures.facts c.in_ok-is_last_clean.ensures.facts c.in_ok-own.ensures.drawn c.as_slice.ensures.value
    c.in_ok-is_last_clean.ensures.known c.first_sets-first.ensures
    c.args.clean.now _ c.requires.clean (ap (take c.first_sets-first.result) c.deref.ensures.value) (c.are_light.ensures c.if-are_light.true)

pub returns-then-are_light-clause-found : goal.returns-then-are_light-clause-found
returns-then-are_light-clause-found g c =
    subst (λ (l : List Fault). Lists l (IsMergeFault (g.W.World.facts c.args.world.now) c.args.definition.now)) (sym c.new.ensures.items)
    (no_faults (g.W.World.facts c.args.world.now) c.args.definition.now (light_here (g.W.World.facts c.args.world.now) (g.W.World.facts c.own_sets.new.world) (g.W.World.facts c.is_known_clean.new.world) c.args.definition.now
    c.in_ok-own.own.items c.as_slice.result.now c.first_sets-first.result c.in_ok-is_last_clean.is_last_clean c.in_ok-own.ensures.facts c.in_ok-is_last_clean.ensures.facts c.in_ok-own.ensures.drawn c.as_slice.ensures.value
    c.in_ok-is_last_clean.ensures.known c.first_sets-first.ensures
    c.args.clean.now _ c.requires.clean (ap (take c.first_sets-first.result) c.deref.ensures.value) (c.are_light.ensures c.if-are_light.true)))

pub search-requires-clause-first : goal.search-requires-clause-first
search-requires-clause-first g c =
    first_of (g.W.World.facts c.args.world.now) (g.W.World.facts c.own_sets.new.world) (g.W.World.facts c.is_known_clean.new.world) c.args.definition.now
    c.in_ok-own.own.items c.as_slice.result.now c.first_sets-first.result c.in_ok-is_last_clean.is_last_clean c.in_ok-own.ensures.facts c.in_ok-is_last_clean.ensures.facts c.in_ok-own.ensures.drawn c.as_slice.ensures.value
    c.in_ok-is_last_clean.ensures.known c.first_sets-first.ensures

pub search-requires-clause-known : goal.search-requires-clause-known
search-requires-clause-known g c = λ known s h.
    c.are_settled-known.ensures known s (subst (λ (l : List FlatSet). Contains l s) (sym c.as_slice-2.ensures.value) h)

pub add_own-requires-2-clause-clean : goal.add_own-requires-2-clause-clean
add_own-requires-2-clause-clean g c =
    subst (λ (G : Facts). AreClean G c.search.new.clean) (sym c.search.ensures.facts) c.search.ensures.clean

pub returns-in_err-add_own-2-clause-clean : goal.returns-in_err-add_own-2-clause-clean
returns-in_err-add_own-2-clause-clean g c =
    subst (λ (G : Facts). AreClean G c.add_own-2.new.clean) (c.search.ensures.facts ∙ c.is_known_clean.ensures.facts ∙ c.own_sets.ensures.facts) c.add_own-2.ensures.clean

pub returns-clause-clean : goal.returns-clause-clean
returns-clause-clean g c =
    subst (λ (G : Facts). AreClean G c.add_own-2.new.clean) (c.search.ensures.facts ∙ c.is_known_clean.ensures.facts ∙ c.own_sets.ensures.facts) c.add_own-2.ensures.clean

pub returns-in_err-add_own-2-clause-kept : goal.returns-in_err-add_own-2-clause-kept
returns-in_err-add_own-2-clause-kept g c = λ n h. c.add_own-2.ensures.kept n (c.search.ensures.kept n h)

pub returns-clause-kept : goal.returns-clause-kept
returns-clause-kept g c = λ n h. c.add_own-2.ensures.kept n (c.search.ensures.kept n h)
