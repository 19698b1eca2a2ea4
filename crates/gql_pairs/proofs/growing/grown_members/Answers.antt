use Rattle.std.proofs.Common.{◌∙◌, List, Contains, subst, sym}
use Rattle.std.proofs.lemmas.List.{take_all}
use Rattle.gql_facts.specs.Worlds.{Facts}
use Rattle.gql_facts.specs.declared.fact.FragmentFact.{FragmentFact}
use Rattle.gql_reads.specs.Tables.{AllHold}
use Rattle.gql_pairs.specs.Tables as table
use Rattle.gql_pairs.specs.Fragments.{IsCertified, KeptFragment}
use Rattle.gql_pairs.specs.Growing.{AddsOther, Grows}
use Rattle.gql_pairs.proofs.Grown.{grown_certified, grown_for, grown_hold, grows_more}
use Rattle.gql_pairs.proofs.growing.grown_members.Goals as goal

pub add_other-requires-clause-groups : goal.add_other-requires-clause-groups
add_other-requires-clause-groups g c = subst (λ (G : Facts). table.AllHold G c.args.groups.now) (sym c.loop-fragment.invariant.same_facts) c.requires.groups

pub loop-fragment-preserved : goal.loop-fragment-preserved
loop-fragment-preserved g c =
    let F = g.W.World.facts c.args.world.now in
    let x = c.fragment-item.result in
    let same = c.loop-fragment.invariant.same_facts in
    record {
      same_facts = c.add_other.ensures.facts ∙ same;
      same_names = c.add_other.ensures.names ∙ c.loop-fragment.invariant.same_names;
      same_lent = c.add_other.ensures.lent ∙ c.loop-fragment.invariant.same_lent;
      holds = subst (λ (G : Facts). AllHold G c.add_other.new.reads) same c.add_other.ensures.holds;
      reads_keep = λ n k e. c.add_other.ensures.reads_keep n k (c.loop-fragment.invariant.reads_keep n k e);
      grows = grows_more F c.args.base.now c.args.fragments.now c.loop-fragment.fragment-index x c.loop-fragment-test.true c.fragment-item.is c.loop-fragment.members.items c.add_other.new.members.items
          c.loop-fragment.invariant.grows (subst (λ (G : Facts). AddsOther G c.args.base.now x c.loop-fragment.members.items c.add_other.new.members.items) same c.in_ok-add_other.ensures.added);
    }

pub returns-clause-members : goal.returns-clause-members
returns-clause-members g c =
    let F = g.W.World.facts c.args.world.now in
    let base = c.args.base.now in
    let ms = c.loop-fragment.members.items in
    let each : (x : KeptFragment) → Contains base.members x → IsCertified x = λ x k. c.in_ok-members.ensures.certificate x (subst (λ (l : List KeptFragment). Contains l x) (sym c.in_ok-members.ensures.members) k) in
    let grows : Grows F base c.args.fragments.now ms = subst (λ (fs : List FragmentFact). Grows F base fs ms) (take_all _ _ c.loop-fragment-test.false) c.loop-fragment.invariant.grows in
    grown_for F c.args.groups.now c.requires.groups base c.requires.base each c.args.fragments.now c.requires.named c.requires.within ms grows

pub returns-clause-hold : goal.returns-clause-hold
returns-clause-hold g c =
    let F = g.W.World.facts c.args.world.now in
    let base = c.args.base.now in
    let ms = c.loop-fragment.members.items in
    let each : (x : KeptFragment) → Contains base.members x → IsCertified x = λ x k. c.in_ok-members.ensures.certificate x (subst (λ (l : List KeptFragment). Contains l x) (sym c.in_ok-members.ensures.members) k) in
    let grows : Grows F base c.args.fragments.now ms = subst (λ (fs : List FragmentFact). Grows F base fs ms) (take_all _ _ c.loop-fragment-test.false) c.loop-fragment.invariant.grows in
    grown_hold F c.args.groups.now c.requires.groups base c.requires.base each c.args.fragments.now c.requires.named c.requires.within ms grows

pub returns-clause-certified : goal.returns-clause-certified
returns-clause-certified g c =
    let F = g.W.World.facts c.args.world.now in
    let base = c.args.base.now in
    let ms = c.loop-fragment.members.items in
    let each : (x : KeptFragment) → Contains base.members x → IsCertified x = λ x k. c.in_ok-members.ensures.certificate x (subst (λ (l : List KeptFragment). Contains l x) (sym c.in_ok-members.ensures.members) k) in
    let grows : Grows F base c.args.fragments.now ms = subst (λ (fs : List FragmentFact). Grows F base fs ms) (take_all _ _ c.loop-fragment-test.false) c.loop-fragment.invariant.grows in
    grown_certified F c.args.groups.now c.requires.groups base c.requires.base each c.args.fragments.now c.requires.named c.requires.within ms grows
