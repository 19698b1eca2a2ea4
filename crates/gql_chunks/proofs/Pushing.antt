-- Chunks that are added to others, and the first of chunks.
use Rattle.std.proofs.Common.{◌≡◌, ◌≢◌, List, [], ◌∷◌, ◌++◌, append-nil, refl, ap, ◌∙◌, Some, None}
use Rattle.std.specs.List.{slice_get}
use Rattle.std.proofs.lemmas.List.Concat.{flat_map-append}
use Rattle.std.proofs.lemmas.List.Elements.{All-head, All-push}
use Rattle.gql_chunks.specs.Lists.{AreFull, joined}

module _ {A : Type 0} where
  -- one chunk more
  pub joined_push : (cs : List (List A)) (c : List A) → joined (cs ++ c ∷ []) ≡ joined cs ++ c
  joined_push cs c = flat_map-append (λ (d : List A). d) cs (c ∷ []) ∙ ap (λ zs. joined cs ++ zs) (append-nil c)

  pub full_push : (cs : List (List A)) (c : List A) → AreFull cs → c ≢ [] → AreFull (cs ++ c ∷ [])
  full_push cs c full some = All-push (λ (d : List A). d ≢ []) cs c full some

  -- chunks without items are none
  not_joined : (c rest : List A) → c ≢ [] → c ++ rest ≡ [] → ⊥
  not_joined [] rest some e = some refl
  not_joined (x ∷ xs) rest some e = cc e

  pub joined_none : (cs : List (List A)) → AreFull cs → joined cs ≡ [] → cs ≡ []
  joined_none [] full e = refl
  joined_none (c ∷ cs) full e = absurd (not_joined c (joined cs) (All-head (λ (d : List A). d ≢ []) c cs full) e)

  -- the first item of chunks is that of the first chunk
  first_by : (c rest : List A) → c ≢ [] → slice_get c 0 ≡ slice_get (c ++ rest) 0
  first_by [] rest some = absurd (some refl)
  first_by (x ∷ xs) rest some = refl

  pub first_joined : (cs : List (List A)) (c : List A) → AreFull cs → Some c ≡ slice_get cs 0 → slice_get c 0 ≡ slice_get (joined cs) 0
  first_joined [] c full e = absurd (let t : Some c ≡ None = e in cc t)
  first_joined (d ∷ cs) c full e =
      let same : c ≡ d = let t : Some c ≡ Some d = e in cc t in
      ap (λ (z : List A). slice_get z 0) same ∙ first_by d (joined cs) (All-head (λ (z : List A). z ≢ []) d cs full)

  pub first_none : (cs : List (List A)) → None ≡ slice_get cs 0 → None ≡ slice_get (joined cs) 0
  first_none [] e = refl
  first_none (c ∷ cs) e = absurd (let t : None ≡ Some c = e in cc t)
