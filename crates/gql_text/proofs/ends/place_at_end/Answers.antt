use Rattle.std.proofs.Common.{◌≡◌, arith, ◌∙◌, ap, sym, ◌+◌}
use Rattle.std.specs.Prelude.{◌==◌}
use Rattle.std.specs.List.{count_by}
use Rattle.gql_text.proofs.LineEnds.{last_line, end_is}
use Rattle.gql_text.proofs.ends.place_at_end.Goals as goal

pub returns : goal.returns
returns c =
    let none : count_by (λ b. b == 13) c.args.source.now ≡ 0 = omega (arith, c.count_of.ensures) in
    end_is c.args.source.now _ _ (ap (λ n. 1 + n) c.count_of-2.ensures ∙ sym (last_line c.args.source.now none)) c.last_column.ensures
