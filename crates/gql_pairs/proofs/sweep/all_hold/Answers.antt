use Rattle.std.proofs.Common.{◌∙◌, List, inl, inr, rules, subst, sym}
use Rattle.std.proofs.lemmas.List.{take_all}
use Rattle.gql_facts.specs.Worlds.{Facts}
use Rattle.gql_reads.proofs.Takes.{seen_more}
use Rattle.gql_reads.specs.Observations.{Hold}
use Rattle.gql_pairs.specs.Doubts.{HoldUndoubted}
use Rattle.gql_pairs.specs.Fragments.{KeptFragment}
use Rattle.gql_pairs.specs.Groups.{MembersHold}
use Rattle.gql_pairs.proofs.sweep.all_hold.Goals as goal

pub member_holds-requires : goal.member_holds-requires
member_holds-requires g c = subst (λ (G : Facts). HoldUndoubted G c.args.doubt.now c.member-item.result.observations) (sym c.loop-member.invariant.same_facts)
    (c.requires c.member-item.result (c.loop-member.member-index, c.loop-member-test.true, sym c.member-item.is))

pub loop-member-preserved : goal.loop-member-preserved
loop-member-preserved g c =
    let F = g.W.World.facts c.args.world.now in
    let x = c.member-item.result in
    let same = c.loop-member.invariant.same_facts in
    let hold : Hold (g.W.World.facts c.loop-member.world) x.observations = search rules in
    record {
      same_facts = c.member_holds.ensures.facts ∙ same;
      same_names = c.member_holds.ensures.names ∙ c.loop-member.invariant.same_names;
      same_lent = c.member_holds.ensures.lent ∙ c.loop-member.invariant.same_lent;
      hold = λ y m. elim (seen_more c.args.members.now c.loop-member.member-index x c.loop-member-test.true c.member-item.is y m) [
        | inl s ↦ c.loop-member.invariant.hold y s
        | inr e ↦ subst (λ (z : KeptFragment). Hold F z.observations) e (subst (λ (G : Facts). Hold G x.observations) same hold)
      ];
    }

pub returns-clause-hold : goal.returns-clause-hold
returns-clause-hold g c = λ _. subst (λ (xs : List KeptFragment). MembersHold (g.W.World.facts c.args.world.now) xs) (take_all _ _ c.loop-member-test.false) c.loop-member.invariant.hold
