-- Helper definitions for private contracts: lists of one name.
use Rattle.std.specs.Prelude.{◌≡◌, ℕ, List, [], ◌∷◌, Option, Some, None, codes, refl}

-- the name of a list, if it has one only
abbrev pub single : List (List ℕ) → Option (List ℕ)
single [] = None
single (n ∷ []) = Some n
single (n ∷ m ∷ ns) = None

-- one name is the only one; two are several
one_name : single (codes "A" ∷ []) ≡ Some (codes "A")
one_name = refl

two_names : single (codes "A" ∷ codes "B" ∷ []) ≡ None
two_names = refl
