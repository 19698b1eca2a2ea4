-- The bytes that pass between a program and the other end of its connection.
use Rattle.std.specs.Prelude.{◌≡◌, List, [], ◌∷◌, ◌++◌, map, Option, Some, None, ℕ}
use Rattle.std.specs.List.{concat}

-- one read or write that did not fail, with its bytes
pub data Passage : Type 0 where
  received : List ℕ → Passage
  sent : List ℕ → Passage

-- all bytes that were received, in their order
abbrev pub received_in : List Passage → List ℕ
received_in [] = []
received_in (received bytes ∷ passages) = bytes ++ received_in passages
received_in (sent bytes ∷ passages) = received_in passages

-- all bytes that were sent, in their order
abbrev pub sent_in : List Passage → List ℕ
sent_in [] = []
sent_in (received bytes ∷ passages) = sent_in passages
sent_in (sent bytes ∷ passages) = bytes ++ sent_in passages

-- the peer reports these passages after the earlier ones, or reports nothing at all
abbrev pub Adds : Option (List Passage) → Option (List Passage) → List Passage → Type 0
Adds None new passages = new ≡ None
Adds (Some old) new passages = new ≡ Some (old ++ passages)

-- writes of these bytes in any number of parts, and nothing else, were added
abbrev pub SendsAll : Option (List Passage) → Option (List Passage) → List ℕ → Type 0
SendsAll old new bytes =
    (parts : List (List ℕ)) × Adds old new (map sent parts) × (concat parts ≡ bytes)

-- writes of the first of these bytes in any number of parts, and nothing else, were added
abbrev pub SendsFront : Option (List Passage) → Option (List Passage) → List ℕ → Type 0
SendsFront old new bytes =
    (parts : List (List ℕ)) × (rest : List ℕ)
    × Adds old new (map sent parts) × (bytes ≡ concat parts ++ rest)
