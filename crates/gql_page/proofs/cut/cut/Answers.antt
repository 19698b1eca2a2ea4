use Rattle.std.proofs.Common.{ap, length, arith}
use Rattle.gql_page.proofs.cut.cut.Goals as goal

pub returns : goal.returns
returns c =
    let e = ap length c.in_ok-bare.ensures.text in
    let w = ap length c.in_ok-whole.ensures.text in
    record {
      kept = 0;
      within = omega arith;
      whole = c.in_ok-bare.ensures.text;
      short = omega (arith, e, c.in_ok-bare.ensures.short);
      needed = λ h. absurd (omega (arith, w, h));
    }
