-- Peers that a listener reports, some after others.
use Rattle.std.proofs.Common.{◌≡◌, ◌∙◌, List, [], ◌∷◌, ◌++◌, Option, Some, None, refl, sym, ap, append_assoc, append-nil}
use Rattle.gql_server.specs.OneByOne.{AddsKnown, Known}

pub adds_none : (a b : Option (List Known)) → b ≡ a → AddsKnown a b []
adds_none None b e = e
adds_none (Some old) b e = e ∙ ap (λ (l : List Known). Some l) (sym (append-nil old))

pub adds_more : (a b c : Option (List Known)) (xs ys : List Known) → AddsKnown a b xs
    → AddsKnown b c ys → AddsKnown a c (xs ++ ys)
adds_more None b c xs ys p q = rw p at q
adds_more (Some old) b c xs ys p q =
    let r = rw p at q in r ∙ ap (λ (l : List Known). Some l) (append_assoc old xs ys)

-- after reports that stay the same
pub adds_from : (a b c : Option (List Known)) (xs : List Known) → b ≡ a → AddsKnown b c xs
    → AddsKnown a c xs
adds_from a b c xs e h = rw e at h

-- before reports that stay the same
pub adds_until : (a b c : Option (List Known)) (xs : List Known) → AddsKnown a b xs → c ≡ b
    → AddsKnown a c xs
adds_until None b c xs h e = e ∙ h
adds_until (Some old) b c xs h e = e ∙ h
