-- Texts that are written one after the other.
use Rattle.std.proofs.Common.{◌≡◌, ℕ, List, ◌++◌, ap, ◌∙◌, append_assoc}

pub two_parts : (out a b one two : List ℕ) → one ≡ out ++ a → two ≡ one ++ b → two ≡ out ++ (a ++ b)
two_parts out a b one two p q = q ∙ ap (λ xs. xs ++ b) p ∙ append_assoc out a b

five : (a b c d e : List ℕ) → (((a ++ b) ++ c) ++ d) ++ e ≡ a ++ (b ++ (c ++ (d ++ e)))
five a b c d e = append_assoc ((a ++ b) ++ c) d e ∙ append_assoc (a ++ b) c (d ++ e) ∙ append_assoc a b (c ++ (d ++ e))

pub four_parts : (out a b c d one two three four : List ℕ) → one ≡ out ++ a → two ≡ one ++ b → three ≡ two ++ c → four ≡ three ++ d → four ≡ out ++ (a ++ b ++ c ++ d)
four_parts out a b c d one two three four p q r s = two_parts out (a ++ b ++ c) d three four (two_parts out (a ++ b) c two three (two_parts out a b one two p q) r) s

-- the parts of what a change does
pub twelve_parts : (k1 t k h k2 x2 k3 x3 k4 x4 k5 x5 z : List ℕ) → (((((k1 ++ t) ++ k) ++ h) ++ (((k2 ++ x2) ++ k3) ++ x3)) ++ (((k4 ++ x4) ++ k5) ++ x5)) ++ z
    ≡ k1 ++ (t ++ (k ++ (h ++ (k2 ++ (x2 ++ (k3 ++ (x3 ++ (k4 ++ (x4 ++ (k5 ++ (x5 ++ z)))))))))))
twelve_parts k1 t k h k2 x2 k3 x3 k4 x4 k5 x5 z =
    append_assoc ((((k1 ++ t) ++ k) ++ h) ++ (((k2 ++ x2) ++ k3) ++ x3)) (((k4 ++ x4) ++ k5) ++ x5) z
    ∙ ap (λ y. ((((k1 ++ t) ++ k) ++ h) ++ (((k2 ++ x2) ++ k3) ++ x3)) ++ y) (five k4 x4 k5 x5 z)
    ∙ append_assoc (((k1 ++ t) ++ k) ++ h) (((k2 ++ x2) ++ k3) ++ x3) (k4 ++ (x4 ++ (k5 ++ (x5 ++ z))))
    ∙ ap (λ y. (((k1 ++ t) ++ k) ++ h) ++ y) (five k2 x2 k3 x3 (k4 ++ (x4 ++ (k5 ++ (x5 ++ z)))))
    ∙ five k1 t k h (k2 ++ (x2 ++ (k3 ++ (x3 ++ (k4 ++ (x4 ++ (k5 ++ (x5 ++ z))))))))

-- the parts of a check
pub seven_parts : (k1 t k2 f k3 a c z : List ℕ) → (((k1 ++ t) ++ (((k2 ++ f) ++ k3) ++ a)) ++ c) ++ z ≡ k1 ++ (t ++ (k2 ++ (f ++ (k3 ++ (a ++ (c ++ z))))))
seven_parts k1 t k2 f k3 a c z =
    append_assoc ((k1 ++ t) ++ (((k2 ++ f) ++ k3) ++ a)) c z
    ∙ append_assoc (k1 ++ t) (((k2 ++ f) ++ k3) ++ a) (c ++ z)
    ∙ ap (λ y. (k1 ++ t) ++ y) (five k2 f k3 a (c ++ z))
    ∙ append_assoc k1 t (k2 ++ (f ++ (k3 ++ (a ++ (c ++ z)))))
