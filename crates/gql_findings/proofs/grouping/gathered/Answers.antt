use Rattle.std.proofs.Common.{◌∙◌, [], ◌∷◌, ◌++◌, cond, get_or, refl, sym, ap, subst, arith}
use Rattle.std.specs.Prelude.{All, filter}
use Rattle.std.proofs.lemmas.List.{take_all}
use Rattle.std.proofs.lemmas.List.Elements.{filter_more}
use Rattle.gql_findings.specs.Causes.{has_cause}
use Rattle.gql_findings.specs.Gathering.{HasMembers}
use Rattle.gql_findings.proofs.Gatherings.{grouped, none_are_distinct}
use Rattle.gql_findings.proofs.grouping.gathered.Goals as goal

pub loop-member-init : goal.loop-member-init
loop-member-init c = let a = c.new-keys.ensures in record {
  agree = rw (c.new-keys.ensures.empty, c.new-causes.ensures.items) refl;
  distinct = none_are_distinct c.new-keys.result.keys c.new-keys.ensures.empty;
  members = λ m. rw c.new-causes.ensures.items refl;
  some = subst (All HasMembers) (sym c.new-causes.ensures.items) (λ k d lt. absurd (omega arith));
}

pub loop-member-preserved : goal.loop-member-preserved
loop-member-preserved c =
    let which = c.args.which.now in
    let i = c.loop-member.member-index in
    let inv = c.loop-member.invariant in
    let more = c.in_ok-gather_at.ensures in
    record {
      agree = more.agree;
      distinct = more.distinct inv.distinct;
      members = λ m. filter_more (has_cause c.args.findings.now m) which i 0 c.loop-member-test.true
          ∙ ap (λ ys. ys ++ cond (has_cause c.args.findings.now m (get_or which i 0)) (get_or which i 0 ∷ []) []) (inv.members m) ∙ sym (more.members m);
      some = more.some inv.some;
    }

pub returns : goal.returns
returns c =
    let inv = c.loop-member.invariant in
    grouped c.args.findings.now c.args.which.now c.loop-member.keys.keys c.loop-member.causes.items inv.agree inv.distinct
    (λ m. ap (filter (has_cause c.args.findings.now m)) (sym (take_all c.loop-member.member-index c.args.which.now (omega arith))) ∙ inv.members m) inv.some
