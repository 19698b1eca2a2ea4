use Rattle.std.proofs.Common.{◌≡◌, ◌∙◌, ap, sym, length, nat_eq, true, false}
use Rattle.std.specs.Vec.{vec_len}
use Rattle.gql_readers.specs.Changes.{Noted}
use Rattle.gql_readers.proofs.Found.{one_is}
use Rattle.gql_readers.proofs.index.is_unchanged.Goals as goal

pub returns : goal.returns
returns c = λ t. record {
  entry = c.index-here-0.result;
  one = one_is c.args.here.now c.index-here-0.result c.if-here-ne1.false c.index-here-0.is;
  some = λ none.
      let long : vec_len c.noted.inside.comes ≡ 0 = sym c.as_slice.ensures.len ∙ ap length (c.as_slice.ensures.value ∙ ap (λ (n : Noted). n.comes) c.noted.view_is ∙ none) in
      let t : true ≡ false = sym (c.is_empty.ensures ∙ ap (λ n. nat_eq n 0) long) ∙ c.if-is_empty.false in
      cc t;
  same = sym (c.as_slice.ensures.value ∙ ap (λ (n : Noted). n.comes) c.noted.view_is) ∙ c.are_same.ensures c.if-not-are_same.false ∙ c.as_slice-2.ensures.value ∙ ap (λ (n : Noted). n.goes) c.noted.view_is;
  answer = sym (c.get-2.ensures ∙ c.answer.ensures ∙ ap (λ e. e.answer) c.get.ensures) ∙ c.same.ensures.0 t ∙ c.get-3.ensures ∙ ap (λ (n : Noted). n.answer) c.noted.view_is;
}
