use Rattle.std.proofs.Common.{◌≡◌, ◌∙◌, inl, inr, ap, sym, subst}
use Rattle.gql_verdict.specs.TouchedFacts.{HoldWhere}
use Rattle.gql_verdict.specs.Verdicts.{Judgement}
use Rattle.gql_verdict.proofs.Steps.{differs, found_bad, found_good, read_at, same_if_untouched}
use Rattle.gql_verdict.proofs.plan.kept_verdict.Goals as goal

pub is_on-requires : goal.is_on-requires
is_on-requires c =
    let f = c.in-Some.ensures in
    let v : f.0 ≡ c.in-Here.verdict = read_at c.args.kept.now c.in-Some.j f.0 c.in-Here.verdict _ f.1 c.index-kept-j.is c.in-Here.is in
    same_if_untouched c.args.kept.now c.requires.order c.args.touched.now c.args.definition.now c.requires.others c.in-Some.j f.0 c.in-Here.verdict f.1 v f.2

pub returns-then-not-is_on : goal.returns-then-not-is_on
returns-then-not-is_on c = λ F known marks.
    let f = c.in-Some.ensures in
    let v : f.0 ≡ c.in-Here.verdict = read_at c.args.kept.now c.in-Some.j f.0 c.in-Here.verdict _ f.1 c.index-kept-j.is c.in-Here.is in
    found_bad F c.args.kept.now c.requires.order c.args.definition.now c.in-Some.j f.0 f.1 f.2
    (inl (λ h. differs c.is_on.result (c.is_on.ensures.1 (ap (λ (x : Judgement). x.def) (sym v) ∙ h)) c.if-not-is_on.true))

pub returns-then-marks-j : goal.returns-then-marks-j
returns-then-marks-j c = λ F known marks.
    let f = c.in-Some.ensures in
    let v : f.0 ≡ c.in-Here.verdict = read_at c.args.kept.now c.in-Some.j f.0 c.in-Here.verdict _ f.1 c.index-kept-j.is c.in-Here.is in
    found_bad F c.args.kept.now c.requires.order c.args.definition.now c.in-Some.j f.0 f.1 f.2
    (inr (ap (λ (x : Judgement). x.def) v ∙ c.is_on.ensures.0 c.if-not-is_on.false, marks.broken.broken c.in-Some.j f.0 f.1 c.if-marks-j.true))

pub returns-else-marks-j : goal.returns-else-marks-j
returns-else-marks-j c = λ F known marks.
    let f = c.in-Some.ensures in
    let v : f.0 ≡ c.in-Here.verdict = read_at c.args.kept.now c.in-Some.j f.0 c.in-Here.verdict _ f.1 c.index-kept-j.is c.in-Here.is in
    found_good F c.args.kept.now c.requires.order c.args.touched.now c.args.definition.now known c.in-Some.j f.0 c.in-Here.verdict f.1 v
    (c.is_on.ensures.0 c.if-not-is_on.false, subst (λ (x : Judgement). HoldWhere F c.args.touched.now x.observations) v (marks.hold c.in-Some.j f.0 f.1 (λ m. differs _ m c.if-marks-j.false)))
