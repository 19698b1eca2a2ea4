use Rattle.std.proofs.Common.{◌≡◌, ◌∙◌, ◌++◌, ◌+◌, append_assoc, ap, map, slice_range, take, rules, sym}
use Rattle.gql_intro.proofs.Counting.{piece_more}
use Rattle.gql_intro.proofs.runs.Runs.add.Goals as goal

pub pieces-preserved : goal.pieces-preserved
pieces-preserved c =
    let names = c.args.names.now in
    let from = c.pieces.from in
    let to = from + c.min.result in
    let piece : c.in_ok-piece.piece ≡ map (λ n. n.now) (slice_range names from to) = search rules in
    let before = map (λ n. n.now) (take from names) in
    record {
      few = search rules;
      names = c.in_ok-push.ensures ∙ ap (λ l. l ++ c.in_ok-piece.piece) c.pieces.invariant.names
          ∙ ap (λ l. (c.args.self.now ++ before) ++ l) piece
          ∙ append_assoc c.args.self.now before (map (λ n. n.now) (slice_range names from to))
          ∙ ap (λ l. c.args.self.now ++ l) (sym (piece_more (λ n. n.now) names from to (search rules)));
    }
