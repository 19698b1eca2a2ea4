use Rattle.std.proofs.Common.{◌≡◌, ◌||◌, arith, ap, ◌∙◌, sym, rules, nat_eq, false, true}
use Rattle.gql_numbers.specs.Decimals.{value}
use Rattle.gql_numbers.specs.Doubles.{reads_as, text_with}
use Rattle.gql_numbers.proofs.OfTexts.{enough_read, next_read, no_more, not_last}
use Rattle.gql_numbers.proofs.shortest.shortest.Goals as goal

pub more-preserved : goal.more-preserved
more-preserved c =
    let inv = c.more.invariant in
    let n = c.more.count in
    let N = value c.args.digits.now in
    let more : (nat_eq n 17 || reads_as c.args.x (text_with c.args.negative N n)) ≡ false =
    ap (λ xs. nat_eq n 17 || reads_as c.args.x xs) (sym inv.text ∙ sym c.as_slice.ensures.value) ∙ sym c.is_enough.ensures ∙ search rules in
    record {
      low = omega (arith, inv.low);
      high = omega (arith, not_last n (reads_as c.args.x (text_with c.args.negative N n)) more inv.high);
      text = c.in_ok-text-2.ensures;
      rest = inv.rest ∙ next_read c.args.x c.args.negative N n (not_last n (reads_as c.args.x (text_with c.args.negative N n)) more inv.high)
          (reads_as c.args.x (text_with c.args.negative N n)) (no_more n (reads_as c.args.x (text_with c.args.negative N n)) more);
    }

pub returns : goal.returns
returns c =
    let inv = c.more.invariant in
    let n = c.more.count in
    let N = value c.args.digits.now in
    inv.text ∙ sym (inv.rest ∙ enough_read c.args.x c.args.negative N n (reads_as c.args.x (text_with c.args.negative N n))
    (ap (λ xs. nat_eq n 17 || reads_as c.args.x xs) (sym inv.text ∙ sym c.as_slice.ensures.value) ∙ sym c.is_enough.ensures ∙ search rules))
