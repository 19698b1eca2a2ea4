-- Parts that are added to a list one after the other.
use Rattle.std.specs.Prelude.{◌≡◌, List, [], ◌∷◌, ◌++◌, refl}
use Rattle.std.proofs.Common.{ap, ◌∙◌}

pub append_assoc : {A : Type 0} (a b c : List A) → (a ++ b) ++ c ≡ a ++ (b ++ c)
append_assoc [] b c = refl
append_assoc (x ∷ a) b c = ap (λ l. x ∷ l) (append_assoc a b c)

pub append_end : {A : Type 0} (a : List A) → a ++ [] ≡ a
append_end [] = refl
append_end (x ∷ a) = ap (λ l. x ∷ l) (append_end a)

pub two : {A : Type 0} (old mid new x y : List A) → mid ≡ old ++ x → new ≡ mid ++ y → new ≡ old ++ (x ++ y)
two old mid new x y first second = second ∙ ap (λ l. l ++ y) first ∙ append_assoc old x y

pub three : {A : Type 0} (old mid end new x y z : List A) → mid ≡ old ++ x → end ≡ mid ++ y → new ≡ end ++ z → new ≡ old ++ (x ++ (y ++ z))
three old mid end new x y z first second third = two old mid new x (y ++ z) first (two mid end new y z second third)
