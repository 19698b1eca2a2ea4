-- The tokens from a place on.
use Rattle.std.proofs.Common.{◌≡◌, ℕ, zero, suc, ◌+◌, ◌-◌, ◌<◌, ◌≤◌, List, [], ◌∷◌, length, get_or, drop, map, refl, arith, add-one, length-drop, drop-cons}
use Rattle.std.proofs.lemmas.List.{length-map, drop-map}
use Rattle.gql_text.specs.Lexeme.{lexeme}
use Rattle.gql_text.specs.declared.token.Token.{Token}
use Rattle.gql_text.specs.declared.place.Place.{Place}
use Rattle.gql_grammar.specs.Files.{last_place}

pub left_lem : (ts : List Token) (i : ℕ) → length (map lexeme (drop i ts)) ≡ length ts - i
left_lem ts i = simp (length-map, length-drop)

pub at_token : (ts : List Token) (i : ℕ) (d : Token) → i < length ts → map lexeme (drop i ts) ≡ lexeme (get_or ts i d) ∷ map lexeme (drop (i + 1) ts)
at_token ts i d h = rw (add-one, drop-cons ts i d h)

pub at_end : (ts : List Token) (i : ℕ) → length ts ≤ i → map lexeme (drop i ts) ≡ []
at_end [] zero h = refl
at_end [] (suc i) h = refl
at_end (t ∷ ts) zero h = absurd (omega arith)
at_end (t ∷ ts) (suc i) h = at_end ts i (omega arith)

-- the place of the last token
pub place_back : (end : Place) (ts : List Token) (i : ℕ) (d : Token) → i ≡ length ts - 1 → i < length ts → last_place end (map lexeme ts) ≡ (get_or ts i d).place
place_back end ts i d is h = rw (length-map, ← is, drop-map, at_token ts i d h) refl

pub place_end : (end : Place) (ts : List Token) (i : ℕ) → i ≡ length ts - 1 → length ts ≤ i → last_place end (map lexeme ts) ≡ end
place_end end ts i is h = rw (length-map, ← is, drop-map, at_end ts i h) refl
