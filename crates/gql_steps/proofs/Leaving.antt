-- What the text is after one part and another.
use Rattle.std.proofs.Common.{◌≡◌, ℕ, ◌≤◌, List, ◌++◌, length, take, sym, ap, ◌∙◌, arith, append_assoc}
use Rattle.std.proofs.lemmas.List.{length-take, take-append-le, take-take}
use Rattle.std.proofs.Math.Seq.{take-append_seam}
use Rattle.gql_steps.specs.Parts.{Outcome, text, bubble, joined}
use Rattle.gql_steps.specs.States.{Leaves}

begins_length : (x y : List ℕ) → take (length x) y ≡ x → length x ≤ length y
begins_length x y h = omega (arith, sym (ap length h) ∙ length-take (length x) y)

begins_longer : (x y b : List ℕ) → take (length x) y ≡ x → take (length x) (y ++ b) ≡ x
begins_longer x y b h = let n : length x ≤ length y = begins_length x y h in take-append-le (length x) y b n ∙ h

begins_trans : (x y z : List ℕ) → take (length x) y ≡ x → take (length y) z ≡ y → take (length x) z ≡ x
begins_trans x y z h k = let n : length x ≤ length y = begins_length x y h in
    sym (take-take (length x) (length y) z n) ∙ ap (take (length x)) k ∙ h

pub leaves-joined : (a b : Outcome) (x y z : List ℕ) → Leaves a x y → Leaves b y z → Leaves (joined a b) x z
leaves-joined (text a) (text b) x y z h k = k ∙ ap (λ l. l ++ b) h ∙ append_assoc x a b
leaves-joined (text a) bubble x y z h k = begins_trans x y z (ap (take (length x)) h ∙ take-append_seam x a) k
leaves-joined bubble (text b) x y z h k = ap (take (length x)) k ∙ begins_longer x y b h
leaves-joined bubble bubble x y z h k = begins_trans x y z h k

-- what was there before is cut out again
pub leaves-cut : (o : Outcome) (x y : List ℕ) → Leaves o x y → take (length x) y ≡ x
leaves-cut (text a) x y h = ap (take (length x)) h ∙ take-append_seam x a
leaves-cut bubble x y h = h
