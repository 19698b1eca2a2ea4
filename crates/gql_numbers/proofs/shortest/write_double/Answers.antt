use Rattle.std.proofs.Common.{◌≡◌, ◌<◌, ◌++◌, ◌*◌, ◌^◌, arith, ap, ◌∙◌, sym, rules, codes, append_assoc}
use Rattle.std.specs.Fmt.{sign_text}
use Rattle.gql_numbers.specs.Decimals.{value}
use Rattle.gql_numbers.specs.Doubles.{fewest}
use Rattle.gql_numbers.proofs.OfTexts.{some_text, some_units, zero_text}
use Rattle.gql_numbers.proofs.shortest.write_double.Goals as goal

pub returns-then-parts-eq0 : goal.returns-then-parts-eq0
returns-then-parts-eq0 c =
    let p = c.parts_of-parts.result in
    c.in_ok-extend_from_slice.ensures.items ∙ ap (λ xs. xs ++ codes "0.0") c.in_ok-write_sign.ensures
    ∙ append_assoc c.args.out.now.items (sign_text p.negative) (codes "0.0")
    ∙ ap (λ xs. c.args.out.now.items ++ xs) (sym (zero_text c.args.x p.negative (p.significand * 2 ^ p.shift) c.parts_of-parts.ensures.scaled
    (ap (λ n. n * 2 ^ p.shift) c.if-parts-eq0.true ∙ omega arith)))

pub returns : goal.returns
returns c =
    let p = c.parts_of-parts.result in
    c.in_ok-extend_from_slice-2.ensures.items ∙ ap (λ xs. c.args.out.now.items ++ xs) (c.as_slice-2.ensures.value ∙ c.in_ok-text.ensures
    ∙ ap (λ xs. fewest c.args.x p.negative (value xs)) c.as_slice.ensures.value ∙ ap (fewest c.args.x p.negative) c.in_ok-digits.ensures.number
    ∙ sym (some_text c.args.x p.negative (p.significand * 2 ^ p.shift) c.parts_of-parts.ensures.scaled (some_units p.significand p.shift (omega (arith, c.if-parts-eq0.false)))))
