use Rattle.std.proofs.Common.{◌≡◌, ◌+◌, ◌<◌, ◌++◌, ◌∷◌, [], ◌↔◌, map, length, Contains, ap, sym, subst, ◌∙◌, arith}
use Rattle.std.proofs.lemmas.List.{map_push}
use Rattle.gql_cycles.specs.Names.{row_of}
use Rattle.gql_cycles.specs.NameGraph.{names_of, AreApart}
use Rattle.gql_cycles.proofs.Placing.{IsMarkedBelow, found_all, found_marked, found_once, found_other, names_length, name_at}
use Rattle.gql_cycles.proofs.name_graph.marked_names.Goals as goal
use Rattle.gql_cycles.proofs.name_graph.marked_names.Goals.{then-marks-node+in_ok-push, else-marks-node}

pub loop-node-preserved : goal.loop-node-preserved
loop-node-preserved c =
    let names = names_of (map row_of c.args.rows.now) in
    let marks = c.args.marks.now in
    let n = c.loop-node.node in
    let r = c.index-rows-node.result in
    let lt : n < length names = omega (arith, names_length row_of c.args.rows.now, c.loop-node-test.true) in
    let at_n = name_at row_of c.args.rows.now n r c.loop-node-test.true c.index-rows-node.is in
    let before = map (λ m. m.now) c.loop-node.names.items in
    elim c.if-marks-node.branch [
      | then-marks-node+in_ok-push w ↦
          let e : map (λ m. m.now) c.if-marks-node.names.items ≡ before ++ r.name.now ∷ [] =
          ap (λ v. map (λ m. m.now) v.items) w.names-is ∙ ap (λ xs. map (λ m. m.now) xs) w.in_ok-push.ensures.items ∙ map_push (λ m. m.now) c.loop-node.names.items r.name in
          record {
            once = subst (λ found. AreApart found) (sym e) (found_once names marks before n r.name.now lt at_n c.loop-node.invariant.names w.if-marks-node.true c.requires.apart c.loop-node.invariant.once);
            names = λ q. subst (λ found. Contains found q ↔ IsMarkedBelow names marks (n + 1) q) (sym e) (found_marked names marks before n r.name.now lt at_n c.loop-node.invariant.names w.if-marks-node.true q);
          }
      | else-marks-node w ↦
          let e : map (λ m. m.now) c.if-marks-node.names.items ≡ before = ap (λ v. map (λ m. m.now) v.items) w.names-is in
          record {
            once = subst (λ found. AreApart found) (sym e) c.loop-node.invariant.once;
            names = λ q. subst (λ found. Contains found q ↔ IsMarkedBelow names marks (n + 1) q) (sym e) (found_other names marks before n r.name.now lt at_n c.loop-node.invariant.names w.if-marks-node.false q);
          }
    ]

pub returns-clause-names : goal.returns-clause-names
returns-clause-names c = λ q. found_all (names_of (map row_of c.args.rows.now)) c.args.marks.now (map (λ m. m.now) c.loop-node.names.items) c.loop-node.node q
    (omega (arith, names_length row_of c.args.rows.now, c.loop-node-test.false)) (c.loop-node.invariant.names q)
