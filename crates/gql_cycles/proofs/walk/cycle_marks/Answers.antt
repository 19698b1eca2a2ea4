use Rattle.std.proofs.Common.{map, ◌∙◌, ap, arith}
use Rattle.gql_cycles.specs.Path.{is_marked}
use Rattle.std.proofs.lemmas.List.{length-map}
use Rattle.gql_cycles.proofs.Steps.{walked_all}
use Rattle.gql_cycles.proofs.walk.cycle_marks.Goals as goal

pub returns : goal.returns
returns c = walked_all (map (λ v. v.items) c.args.edges.now) c.loop-root.walk c.loop-root.root c.in_ok-marks.marks.items c.loop-root.invariant.walk c.loop-root.invariant.empty c.loop-root.invariant.met
    (omega (arith, c.loop-root-test.false, length-map c.args.edges.now (λ v. v.items))) (c.in_ok-marks.ensures ∙ ap (λ s. map is_marked s) c.deref.ensures.value)
