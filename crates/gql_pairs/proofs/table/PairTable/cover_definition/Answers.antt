use Rattle.std.proofs.Common.{◌≡◌, ◌∙◌, List, Contains, rules, subst, sym, take}
use Rattle.std.specs.Prelude.{IsTrue}
use Rattle.std.proofs.lemmas.List.{take_all}
use Rattle.gql_facts.specs.Worlds.{Facts}
use Rattle.gql_facts.specs.declared.fact.FragmentFact.{FragmentFact}
use Rattle.gql_merge.specs.SpreadSets.{AreSpreadSets}
use Rattle.gql_merge.specs.declared.spreading.SpreadSet.{SpreadSet}
use Rattle.gql_pairs.specs.Fragments.{IsFragmentOfName}
use Rattle.gql_pairs.specs.Groups.{AreCleanBetween}
use Rattle.gql_pairs.specs.Tables as table
use Rattle.gql_reads.specs.Tables as of_reads
use Rattle.gql_pairs.proofs.Covered.{has_more, reached_have, set_clean, sets_have}
use Rattle.gql_pairs.proofs.table.PairTable.cover_definition.Goals as goal

pub loop-set-preserved : goal.loop-set-preserved
loop-set-preserved g c =
    let F = g.W.World.facts c.args.world.now in
    let same = c.loop-set.invariant.same_facts in
    record {
      same_facts = c.cover_all.ensures.facts ∙ same;
      same_names = c.cover_all.ensures.names ∙ c.loop-set.invariant.same_names;
      same_lent = c.cover_all.ensures.lent ∙ c.loop-set.invariant.same_lent;
      reads = subst (λ (G : Facts). of_reads.AllHold G c.cover_all.new.reads) same c.cover_all.ensures.reads;
      reads_keep = λ n k e. c.cover_all.ensures.reads_keep n k (c.loop-set.invariant.reads_keep n k e);
      holds = subst (λ (G : Facts). table.AllHold G c.cover_all.new.self) same c.cover_all.ensures.holds;
      keeps = λ n m k e. c.cover_all.ensures.keeps n m k (c.loop-set.invariant.keeps n m k e);
      has = has_more c.as_slice-set-items.result.now c.loop-set.set-index c.set-item.result c.loop-set-test.true c.set-item.is c.loop-set.self c.cover_all.new.self c.cover_all.ensures.keeps
          c.loop-set.invariant.has (subst (λ (l : List FragmentFact). table.HasPairs c.cover_all.new.self l) c.as_slice-fragments.ensures.value c.in_ok-cover_all.ensures.has);
    }

pub returns-then-has_all-clause-has : goal.returns-then-has_all-clause-has
returns-then-has_all-clause-has g c =
    let yes : IsTrue c.has_all.result = search rules in
    reached_have (g.W.World.facts c.args.world.now) c.args.definition.now c.args.members.now c.requires.members c.args.self.now (c.has_all.ensures yes)

pub cover_all-requires-clause-holds : goal.cover_all-requires-clause-holds
cover_all-requires-clause-holds g c = subst (λ (G : Facts). table.AllHold G c.loop-set.self) (sym c.loop-set.invariant.same_facts) c.loop-set.invariant.holds

pub cover_all-requires-clause-named : goal.cover_all-requires-clause-named
cover_all-requires-clause-named g c =
    let F = g.W.World.facts c.args.world.now in
    let d = c.args.definition.now in
    let sets = c.in_ok-sets.sets.items in
    let are : AreSpreadSets F d sets = c.in_ok-sets.ensures F _ (g.met.W.World.is_world c.args.world.now) c.requires.members in
    let s = c.set-item.result in
    let there : Contains sets s = subst (λ (l : List SpreadSet). Contains l s) c.as_slice-set-items.ensures.value (c.loop-set.set-index, c.loop-set-test.true, sym c.set-item.is) in
    λ x k. subst (λ (G : Facts). IsFragmentOfName G x) (sym c.loop-set.invariant.same_facts)
    (are.named s x there (subst (λ (l : List FragmentFact). Contains l x) c.as_slice-fragments.ensures.value k))

pub cover_all-requires-clause-clean : goal.cover_all-requires-clause-clean
cover_all-requires-clause-clean g c =
    let F = g.W.World.facts c.args.world.now in
    let d = c.args.definition.now in
    let sets = c.in_ok-sets.sets.items in
    let are : AreSpreadSets F d sets = c.in_ok-sets.ensures F _ (g.met.W.World.is_world c.args.world.now) c.requires.members in
    let s = c.set-item.result in
    let there : Contains sets s = subst (λ (l : List SpreadSet). Contains l s) c.as_slice-set-items.ensures.value (c.loop-set.set-index, c.loop-set-test.true, sym c.set-item.is) in
    λ t. subst (λ (G : Facts). AreCleanBetween G c.as_slice-fragments.result.now) (sym c.loop-set.invariant.same_facts)
    (subst (λ (l : List FragmentFact). AreCleanBetween F l) (sym c.as_slice-fragments.ensures.value) (set_clean F d sets are (c.requires.clean t) s there))

pub returns-in_err-cover_all-clause-holds : goal.returns-in_err-cover_all-clause-holds
returns-in_err-cover_all-clause-holds g c = subst (λ (G : Facts). table.AllHold G c.cover_all.new.self) c.loop-set.invariant.same_facts c.cover_all.ensures.holds

pub returns-clause-has : goal.returns-clause-has
returns-clause-has g c =
    let F = g.W.World.facts c.args.world.now in
    let d = c.args.definition.now in
    let sets = c.in_ok-sets.sets.items in
    let are : AreSpreadSets F d sets = c.in_ok-sets.ensures F _ (g.met.W.World.is_world c.args.world.now) c.requires.members in
    let all : take c.loop-set.set-index c.as_slice-set-items.result.now ≡ sets = take_all _ _ c.loop-set-test.false ∙ c.as_slice-set-items.ensures.value in
    sets_have F d sets are c.loop-set.self (λ s k. c.loop-set.invariant.has s (subst (λ (l : List SpreadSet). Contains l s) (sym all) k))
