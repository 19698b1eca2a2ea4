use Rattle.std.proofs.Common.{◌≡◌, ◌++◌, ◌-◌, ap, ◌∙◌, sym, length}
use Rattle.std.specs.Fmt.{sign_text}
use Rattle.gql_numbers.specs.Decimals.{value}
use Rattle.gql_numbers.specs.Doubles.{leading, placed}
use Rattle.gql_numbers.proofs.OfRounding.{size_is}
use Rattle.gql_numbers.proofs.Values.{value_less}
use Rattle.gql_numbers.proofs.shortest.text_with.Goals as goal

pub returns : goal.returns
returns c =
    let ds = c.args.digits.now in
    c.in_ok-write_placed.ensures c.args.count c.power_of_ten.ensures
    ∙ ap (λ xs. xs ++ placed c.leading-number.result c.args.count (length ds - 1)) (c.in_ok-write_sign.ensures ∙ ap (λ xs. xs ++ sign_text c.args.negative) c.new-text.ensures.items)
    ∙ ap (λ r. sign_text c.args.negative ++ placed r c.args.count (length ds - 1)) c.leading-number.ensures
    ∙ ap (λ k. sign_text c.args.negative ++ placed (leading c.args.count (value ds)) c.args.count (k - 1)) (sym (size_is (value ds) (length ds) (value_less ds c.requires.digits.below) c.requires.digits.highest))
