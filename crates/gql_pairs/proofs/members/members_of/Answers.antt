use Rattle.std.proofs.Common.{◌≡◌, ◌∙◌, ◌++◌, ◌∷◌, [], Contains, List, inl, inr, rules, subst, sym}
use Rattle.std.proofs.lemmas.List.Elements.{Contains-push_cases}
use Rattle.std.proofs.lemmas.List.{take_all}
use Rattle.gql_facts.specs.Worlds.{Facts}
use Rattle.gql_reads.specs.Observations.{Hold}
use Rattle.gql_reads.specs.Tables.{AllHold}
use Rattle.gql_pairs.specs.Fragments.{IsCertified, KeptFragment}
use Rattle.gql_pairs.specs.Tables as table
use Rattle.gql_pairs.proofs.Covered.{in_order}
use Rattle.gql_pairs.proofs.Gathered.{mapped_more}
use Rattle.gql_pairs.proofs.members.members_of.Goals as goal

pub member_for-requires-clause-groups : goal.member_for-requires-clause-groups
member_for-requires-clause-groups g c = subst (λ (G : Facts). table.AllHold G c.args.groups.now) (sym c.loop-fragment.invariant.same_facts) c.requires.groups

pub returns-clause-members : goal.returns-clause-members
returns-clause-members g c = in_order c.args.fragments.now c.loop-fragment.members.items (c.loop-fragment.invariant.fragments ∙ take_all _ _ c.loop-fragment-test.false)

pub loop-fragment-preserved : goal.loop-fragment-preserved
loop-fragment-preserved g c =
    let F = g.W.World.facts c.args.world.now in
    let same = c.loop-fragment.invariant.same_facts in
    let new = c.in_ok-member_for.field-0 in
    let pushed : c.push.new.self.items ≡ c.loop-fragment.members.items ++ new ∷ [] = search rules in
    record {
      same_facts = c.member_for.ensures.facts ∙ same;
      same_names = c.member_for.ensures.names ∙ c.loop-fragment.invariant.same_names;
      same_lent = c.member_for.ensures.lent ∙ c.loop-fragment.invariant.same_lent;
      holds = subst (λ (G : Facts). AllHold G c.member_for.new.reads) same c.member_for.ensures.holds;
      reads_keep = λ n k e. c.member_for.ensures.reads_keep n k (c.loop-fragment.invariant.reads_keep n k e);
      fragments = mapped_more c.args.fragments.now c.loop-fragment.fragment-index c.fragment-item.result c.loop-fragment-test.true c.fragment-item.is
          c.loop-fragment.members.items new c.push.new.self.items pushed c.in_ok-member_for.ensures.fragment c.loop-fragment.invariant.fragments;
      hold = λ x h. elim (Contains-push_cases c.loop-fragment.members.items new x (subst (λ (l : List KeptFragment). Contains l x) pushed h)) [
        | inl o ↦ c.loop-fragment.invariant.hold x o
        | inr e ↦ subst (λ (z : KeptFragment). Hold F z.observations) e (subst (λ (G : Facts). Hold G new.observations) same c.in_ok-member_for.ensures.hold)
      ];
      certified = λ x h. elim (Contains-push_cases c.loop-fragment.members.items new x (subst (λ (l : List KeptFragment). Contains l x) pushed h)) [
        | inl o ↦ c.loop-fragment.invariant.certified x o
        | inr e ↦ subst IsCertified e c.in_ok-member_for.ensures.certificate
      ];
    }

pub returns-in_err-push-clause-reads_keep : goal.returns-in_err-push-clause-reads_keep
returns-in_err-push-clause-reads_keep g c = λ n k e. c.member_for.ensures.reads_keep n k (c.loop-fragment.invariant.reads_keep n k e)
