use Rattle.std.proofs.Common.{map, length, ap, sym, ◌∙◌}
use Rattle.std.proofs.lemmas.List.{length-map}
use Rattle.gql_cycles.proofs.RangeTrails.{found_are, no_trail}
use Rattle.gql_cycles.proofs.ranges.nodes_on_cycles_over_ranges.Goals as goal

pub returns-clause-sound : goal.returns-clause-sound
returns-clause-sound c = λ i. (found_are (map (λ v. v.items) c.args.ranges.now) (map (λ v. v.items) c.args.ends.now) (map (λ v. v.items) c.in_ok-graph.graph.items) (map (λ v. v.items) c.as_slice.result.now)
    c.in_ok-graph.ensures (ap (map (λ v. v.items)) c.as_slice.ensures.value) (length c.args.ends.now) (length-map c.args.ends.now (λ v. v.items))
    c.in_ok-numbers.numbers.items c.as_slice-2.result.now c.in_ok-nodes.nodes.items c.as_slice-2.ensures.value c.in_ok-nodes.ensures c.in_ok-numbers.ensures.sound c.in_ok-numbers.ensures.complete i).0

pub returns-clause-complete : goal.returns-clause-complete
returns-clause-complete c = λ i. (found_are (map (λ v. v.items) c.args.ranges.now) (map (λ v. v.items) c.args.ends.now) (map (λ v. v.items) c.in_ok-graph.graph.items) (map (λ v. v.items) c.as_slice.result.now)
    c.in_ok-graph.ensures (ap (map (λ v. v.items)) c.as_slice.ensures.value) (length c.args.ends.now) (length-map c.args.ends.now (λ v. v.items))
    c.in_ok-numbers.numbers.items c.as_slice-2.result.now c.in_ok-nodes.nodes.items c.as_slice-2.ensures.value c.in_ok-nodes.ensures c.in_ok-numbers.ensures.sound c.in_ok-numbers.ensures.complete i).1

pub returns-then-are_empty-clause-complete : goal.returns-then-are_empty-clause-complete
returns-then-are_empty-clause-complete c = λ i t. absurd (no_trail (λ v. v.items) c.args.ranges.now (map (λ v. v.items) c.args.ends.now) (sym c.are_empty.ensures ∙ c.if-are_empty.true) t)
