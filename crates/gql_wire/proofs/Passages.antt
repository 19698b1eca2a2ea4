-- What a peer reports, over several reads and writes.
use Rattle.std.proofs.Common.{◌≡◌, ℕ, ◌+◌, ◌-◌, List, [], ◌∷◌, ◌++◌, length, take, drop, map, refl, sym, ap, ◌∙◌, append_assoc, arith, Option, Some, None}
use Rattle.std.specs.List.{concat}
use Rattle.std.proofs.lemmas.List.{append-nil, take_rest, take-append-drop, drop-take, take-take, map-append}
use Rattle.std.proofs.lemmas.List.Folds.{concat-append}
use Rattle.gql_wire.specs.Peer.{Passage, received, sent, received_in, sent_in, Adds, SendsAll, SendsFront}

-- what was received in one list of passages and another
pub received_in-append : (ps qs : List Passage) → received_in (ps ++ qs) ≡ received_in ps ++ received_in qs
received_in-append [] qs = refl
received_in-append (received bytes ∷ ps) qs =
    ap (λ (z : List ℕ). bytes ++ z) (received_in-append ps qs)
    ∙ sym (append_assoc bytes (received_in ps) (received_in qs))
received_in-append (sent bytes ∷ ps) qs = received_in-append ps qs

-- what was sent in one list of passages and another
pub sent_in-append : (ps qs : List Passage) → sent_in (ps ++ qs) ≡ sent_in ps ++ sent_in qs
sent_in-append [] qs = refl
sent_in-append (received bytes ∷ ps) qs = sent_in-append ps qs
sent_in-append (sent bytes ∷ ps) qs =
    ap (λ (z : List ℕ). bytes ++ z) (sent_in-append ps qs)
    ∙ sym (append_assoc bytes (sent_in ps) (sent_in qs))

-- writes receive nothing
pub received_in-sent : (parts : List (List ℕ)) → received_in (map sent parts) ≡ []
received_in-sent [] = refl
received_in-sent (part ∷ parts) = received_in-sent parts

-- and send their parts, one after another
pub sent_in-sent : (parts : List (List ℕ)) → sent_in (map sent parts) ≡ concat parts
sent_in-sent [] = refl
sent_in-sent (part ∷ parts) = ap (λ (z : List ℕ). part ++ z) (sent_in-sent parts)

pub Adds-nil : (a : Option (List Passage)) → Adds a a []
Adds-nil None = refl
Adds-nil (Some xs) = ap (λ (ys : List Passage). Some ys) (sym (append-nil xs))

pub Adds-append : (a b c : Option (List Passage)) (xs ys : List Passage) → Adds a b xs → Adds b c ys → Adds a c (xs ++ ys)
Adds-append None b c xs ys p q = rw p at q
Adds-append (Some old) b c xs ys p q = let r = rw p at q in r ∙ ap (λ (zs : List Passage). Some zs) (append_assoc old xs ys)

pub Adds-same : (a b : Option (List Passage)) (xs ys : List Passage) → xs ≡ ys → Adds a b xs → Adds a b ys
Adds-same a b xs ys e h = rw e at h

-- no writes send no bytes
pub sends_nothing : (a : Option (List Passage)) → SendsAll a a []
sends_nothing a = ([], Adds-nil a, refl)

-- a further write sends its bytes after the earlier ones
pub sends_more : (a b c : Option (List Passage)) (xs ys : List ℕ) → SendsAll a b xs
    → Adds b c (sent ys ∷ []) → SendsAll a c (xs ++ ys)
sends_more a b c xs ys (parts, adds, whole) more = (
  parts ++ ys ∷ [],
  Adds-same a c (map sent parts ++ sent ys ∷ []) (map sent (parts ++ ys ∷ []))
      (sym (map-append sent parts (ys ∷ []))) (Adds-append a b c (map sent parts) (sent ys ∷ []) adds more),
  concat-append parts (ys ∷ []) ∙ ap (λ (z : List ℕ). z ++ (ys ++ [])) whole ∙ ap (λ (z : List ℕ). xs ++ z) (append-nil ys),
)

pub sends_same : (a b : Option (List Passage)) (xs ys : List ℕ) → xs ≡ ys → SendsAll a b xs → SendsAll a b ys
sends_same a b xs ys e h = rw e at h

-- the next bytes of a text
take_next : (xs : List ℕ) (m n : ℕ) → take m xs ++ take n (take (length xs - m) (drop m xs)) ≡ take (m + n) xs
take_next xs m n =
    ap (λ (ys : List ℕ). take m xs ++ take n ys) (take_rest xs m)
    ∙ ap (λ (t : List ℕ). take m xs ++ t) (sym (drop-take m n xs))
    ∙ ap (λ (t : List ℕ). t ++ drop m (take (m + n) xs)) (sym (take-take m (m + n) xs (omega arith)))
    ∙ take-append-drop m (take (m + n) xs)

-- a further write of a text's next bytes
pub sends_next : (a b c : Option (List Passage)) (xs : List ℕ) (m n : ℕ) → SendsAll a b (take m xs)
    → Adds b c (sent (take n (take (length xs - m) (drop m xs))) ∷ []) → SendsAll a c (take (m + n) xs)
sends_next a b c xs m n all more =
    sends_same a c _ (take (m + n) xs) (take_next xs m n)
    (sends_more a b c (take m xs) (take n (take (length xs - m) (drop m xs))) all more)

-- a write that failed leaves the first bytes of a text sent
pub sends_front : (a b c : Option (List Passage)) (m : ℕ) (xs : List ℕ) → SendsAll a b (take m xs)
    → Adds b c [] → SendsFront a c xs
sends_front a b c m xs (parts, adds, whole) none = (
  parts,
  drop m xs,
  Adds-same a c (map sent parts ++ []) (map sent parts) (append-nil (map sent parts))
      (Adds-append a b c (map sent parts) [] adds none),
  sym (take-append-drop m xs) ∙ ap (λ (z : List ℕ). z ++ drop m xs) (sym whole),
)
