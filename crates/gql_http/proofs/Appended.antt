-- Parts written one after another.
use Rattle.std.proofs.Common.{◌≡◌, ℕ, List, ◌++◌, append_assoc}

pub five_parts : (out a b c d e p q r s t : List ℕ) → p ≡ out ++ a → q ≡ p ++ b → r ≡ q ++ c → s ≡ r ++ d → t ≡ s ++ e → t ≡ out ++ (a ++ b ++ c ++ d ++ e)
five_parts out a b c d e p q r s t at_a at_b at_c at_d at_e = rw (at_e, at_d, at_c, at_b, at_a) (simp append_assoc)

pub seven_parts : (out a b c d e f g p q r s t u v : List ℕ) → p ≡ out ++ a → q ≡ p ++ b → r ≡ q ++ c → s ≡ r ++ d → t ≡ s ++ e → u ≡ t ++ f → v ≡ u ++ g
    → v ≡ out ++ (a ++ b ++ c ++ d ++ e ++ f ++ g)
seven_parts out a b c d e f g p q r s t u v at_a at_b at_c at_d at_e at_f at_g = rw (at_g, at_f, at_e, at_d, at_c, at_b, at_a) (simp append_assoc)
