-- Helper definitions for private contracts: prints of names, by which most names that differ are told
-- apart.
use Rattle.std.specs.Prelude.{◌≡◌, ℕ, ◌+◌, ◌*◌, ◌%◌, ◌^◌, List, [], ◌∷◌, Bool, false, codes, find, fold, is_some, length, nat_eq, refl}

-- a print, with one more byte in it
unfoldable pub mixed : ℕ → ℕ → ℕ
mixed print byte = ((print * 1099511628211) % 2 ^ 64 + byte) % 2 ^ 64

-- the print of a name: its length, and its bytes
abbrev pub print_of : List ℕ → ℕ
print_of name = fold mixed (length name) name

-- whether a name has this print
abbrev pub has_print : ℕ → List ℕ → Bool
has_print print name = nat_eq print (print_of name)

-- no two of these names have one print
abbrev pub HaveOwnPrints : List (List ℕ) → Type 0
HaveOwnPrints [] = Unit
HaveOwnPrints (n ∷ ns) = (is_some (find (has_print (print_of n)) ns) ≡ false) × HaveOwnPrints ns

-- no two of these prints are the same
abbrev pub AreDistinct : List ℕ → Type 0
AreDistinct [] = Unit
AreDistinct (p ∷ ps) = (is_some (find (nat_eq p) ps) ≡ false) × AreDistinct ps

-- the print of `a`, whose length is 1 and whose byte is 97
print_of_a : print_of (codes "a") ≡ 1099511628308
unfolding mixed
print_of_a = refl
