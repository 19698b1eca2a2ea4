use Rattle.std.proofs.Common.{◌∙◌, subst, sym, List, Bool}
use Rattle.std.proofs.lemmas.List.{with_items_is}
use Rattle.gql_verdict.specs.Marks.{AreMarks}
use Rattle.gql_verdict.proofs.marks.broken_marks.Goals as goal

pub returns-clause-marks : goal.returns-clause-marks
returns-clause-marks g c =
    subst (λ (bs : List Bool). AreMarks (g.W.World.facts c.args.world.now) c.args.touched.now c.args.slots.now bs)
    (sym (with_items_is c.in_ok-marks.marks c.mark_broken.new.marks (c.mark_broken.auto.marks ∙ c.deref_mut.ensures.len))) c.in_ok-mark_broken.ensures.marks
