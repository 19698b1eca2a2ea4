use Rattle.std.proofs.Common.{map, sym, subst, arith, bytes_eq, refl, ◌∙◌}
use Rattle.std.specs.HashMap as hash
use Rattle.std.proofs.lemmas.List.{length-map}
use Rattle.gql_cycles.specs.Names.{row_of}
use Rattle.gql_cycles.specs.Nodes.{IsGraph}
use Rattle.gql_cycles.specs.NameGraph.{names_of}
use Rattle.gql_cycles.proofs.Apart.{no_cycle}
use Rattle.gql_cycles.proofs.Joining.{joins_within}
use Rattle.gql_cycles.proofs.Leading.{answer, marks_apart}
use Rattle.gql_cycles.proofs.Placing.{names_length}
use Rattle.gql_cycles.proofs.names.names_on_cycles.Goals as goal

pub cycle_marks-requires : goal.cycle_marks-requires
cycle_marks-requires c = subst (λ es. IsGraph (map (λ v. v.items) es)) (sym c.deref.ensures.value)
    (joins_within (names_of (map row_of c.args.rows.now)) (λ q. hash.get_by (λ k. bytes_eq q k.now) c.in_ok-nodes.nodes) (map row_of c.args.rows.now) (map (λ v. v.items) c.in_ok-edges.edges.items)
    c.in_ok-nodes.ensures c.in_ok-edges.ensures.joins
    (omega (arith, names_length row_of c.args.rows.now, length-map c.in_ok-edges.edges.items (λ v. v.items), c.in_ok-edges.ensures.length)))

pub returns-clause-sound : goal.returns-clause-sound
returns-clause-sound c = λ n. (answer (λ v. v.items) (map row_of c.args.rows.now) (λ q. hash.get_by (λ k. bytes_eq q k.now) c.in_ok-nodes.nodes) c.in_ok-edges.edges.items c.deref.result.now
    c.in_ok-marks.marks.items c.deref-2.result.now (map (λ m. m.now) c.in_ok-names.names.items) c.in_ok-nodes.ensures c.in_ok-edges.ensures.joins c.deref.ensures.value c.in_ok-marks.ensures c.deref-2.ensures.value c.in_ok-names.ensures.names n).0

pub returns-clause-complete : goal.returns-clause-complete
returns-clause-complete c = λ n. (answer (λ v. v.items) (map row_of c.args.rows.now) (λ q. hash.get_by (λ k. bytes_eq q k.now) c.in_ok-nodes.nodes) c.in_ok-edges.edges.items c.deref.result.now
    c.in_ok-marks.marks.items c.deref-2.result.now (map (λ m. m.now) c.in_ok-names.names.items) c.in_ok-nodes.ensures c.in_ok-edges.ensures.joins c.deref.ensures.value c.in_ok-marks.ensures c.deref-2.ensures.value c.in_ok-names.ensures.names n).1

pub marked_names-requires-clause-apart : goal.marked_names-requires-clause-apart
marked_names-requires-clause-apart c = marks_apart (λ v. v.items) (map row_of c.args.rows.now) (λ q. hash.get_by (λ k. bytes_eq q k.now) c.in_ok-nodes.nodes) c.in_ok-edges.edges.items c.deref.result.now
    c.in_ok-marks.marks.items c.deref-2.result.now c.in_ok-nodes.ensures c.in_ok-edges.ensures.joins c.deref.ensures.value c.in_ok-marks.ensures c.deref-2.ensures.value

pub returns-then-not-is_any_edge-clause-complete : goal.returns-then-not-is_any_edge-clause-complete
returns-then-not-is_any_edge-clause-complete c = λ n h. absurd (no_cycle row_of (λ r. r.leads.items) (λ b. b.now) (λ r. refl) c.args.rows.now (λ q. hash.get_by (λ k. bytes_eq q k.now) c.in_ok-nodes.nodes) c.in_ok-nodes.ensures (sym c.is_any_edge.ensures ∙ c.if-not-is_any_edge.true) n h)
