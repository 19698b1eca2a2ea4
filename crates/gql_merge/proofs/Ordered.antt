-- One text more in order.
use Rattle.std.specs.Prelude.{◌≡◌, ◌+◌, ◌<◌, ℕ, List, ◌∷◌, drop, length}
use Rattle.std.proofs.Common.{ap, get_or, sym, ◌∙◌}
use Rattle.std.proofs.lemmas.List.{drop_more}
use Rattle.std.specs.BTreeMap.{insert_entry}
use Rattle.gql_merge.specs.Calls.{Text, numbered_order, ordered_from}

abbrev Entries : Type 0
Entries = List ((Text × ℕ) × Unit {0})

pub ordered_step : (xs : List Text) (i : ℕ) (x k : Text) (old new : Entries) → i < length xs → get_or xs i x ≡ x → k ≡ x
    → new ≡ insert_entry numbered_order old (k, i) tt
    → ordered_from new (i + 1) (drop (i + 1) xs) ≡ ordered_from old i (drop i xs)
ordered_step xs i x k old new within item same is =
    ap (λ es. ordered_from es (i + 1) (drop (i + 1) xs)) (is ∙ ap (λ t. insert_entry numbered_order old (t, i) tt) same)
    ∙ sym (ap (λ l. ordered_from old i l) (drop_more xs i x within ∙ ap (λ y. y ∷ drop (i + 1) xs) item))
