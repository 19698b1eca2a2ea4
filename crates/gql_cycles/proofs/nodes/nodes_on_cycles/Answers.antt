use Rattle.std.proofs.Common.{map, length, sym, subst, ◌∙◌, ap, List, ℕ}
use Rattle.std.proofs.lemmas.List.{length-map}
use Rattle.gql_cycles.specs.Nodes.{IsGraph}
use Rattle.gql_cycles.proofs.Inside.{is_graph, cycles_are}
use Rattle.gql_cycles.proofs.nodes.nodes_on_cycles.Goals as goal

pub cycle_marks-requires : goal.cycle_marks-requires
cycle_marks-requires c = subst (λ (g : List (List ℕ)). IsGraph g) (sym (ap (map (λ v. v.items)) c.deref.ensures.value ∙ c.in_ok-inside.ensures))
    (is_graph (map (λ v. v.items) c.args.edges.now) (length c.args.edges.now) (sym (length-map c.args.edges.now (λ v. v.items))))

pub returns-clause-sound : goal.returns-clause-sound
returns-clause-sound c = λ i. (cycles_are (map (λ v. v.items) c.args.edges.now) (length c.args.edges.now) (sym (length-map c.args.edges.now (λ v. v.items)))
    (map (λ v. v.items) c.deref.result.now) (ap (map (λ v. v.items)) c.deref.ensures.value ∙ c.in_ok-inside.ensures)
    c.in_ok-marks.marks.items c.deref-2.result.now c.in_ok-marks.ensures c.deref-2.ensures.value c.in_ok-nodes.nodes.items c.in_ok-nodes.ensures.marked i).0

pub returns-clause-complete : goal.returns-clause-complete
returns-clause-complete c = λ i. (cycles_are (map (λ v. v.items) c.args.edges.now) (length c.args.edges.now) (sym (length-map c.args.edges.now (λ v. v.items)))
    (map (λ v. v.items) c.deref.result.now) (ap (map (λ v. v.items)) c.deref.ensures.value ∙ c.in_ok-inside.ensures)
    c.in_ok-marks.marks.items c.deref-2.result.now c.in_ok-marks.ensures c.deref-2.ensures.value c.in_ok-nodes.nodes.items c.in_ok-nodes.ensures.marked i).1
