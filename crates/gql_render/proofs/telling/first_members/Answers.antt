use Rattle.std.proofs.Common.{sym, ap, ◌∙◌}
use Rattle.std.specs.HashSet.{contains}
use Rattle.std.specs.Prelude.{nat_eq}
use Rattle.gql_render.specs.Telling.{first_member}
use Rattle.gql_render.proofs.Ranking.{has_more}
use Rattle.gql_render.proofs.telling.first_members.Goals as goal

pub loop-cause-preserved : goal.loop-cause-preserved
loop-cause-preserved c = λ q.
    has_more (λ x. nat_eq (first_member x) q) c.args.causes.now c.loop-cause.cause-index c.cause-item.result c.loop-cause-test.true
    (contains nat_eq c.loop-cause.set q) (contains nat_eq c.insert.new.self q) (nat_eq c.first_member.result q)
    (c.loop-cause.invariant q)
    (ap (λ x. nat_eq x q) (ap first_member (sym c.cause-item.is) ∙ sym c.first_member.ensures))
    (c.in_ok-insert.ensures.updates.0 q)
