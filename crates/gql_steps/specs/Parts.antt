-- Helper definitions for private contracts: what the execution of a part of an answer writes.
use Rattle.std.specs.Prelude.{ℕ, zero, suc, ◌+◌, List, [], ◌∷◌, ◌++◌, map, Bool, true, false, codes}
use Rattle.std.specs.List.{fold}
use Rattle.gql_steps.specs.Replies.{Error, Note, own, below, kept}

-- a text, or a null that bubbles
pub data Outcome : Type 0 where
  text : List ℕ → Outcome
  bubble : Outcome

-- a text or a null that bubbles, with its errors and the number of values that were completed
pub record Part : Type 0 where
  pub outcome : Outcome
  pub notes : List Note
  pub weight : ℕ

-- ---- one part, and another after it

-- two texts, one after the other; a null of either bubbles
abbrev pub joined : Outcome → Outcome → Outcome
joined (text a) (text b) = text (a ++ b)
joined (text a) bubble = bubble
joined bubble o = bubble

-- a part and another one after it
abbrev pub followed_by : Part → Part → Part
followed_by a b = record {
  outcome = joined a.outcome b.outcome;
  notes = a.notes ++ b.notes;
  weight = a.weight + b.weight;
}

-- a text, without errors and values
abbrev pub plain : List ℕ → Part
plain bytes = record { outcome = text bytes; notes = []; weight = 0 }

-- these parts, one after the other
abbrev pub all : List Part → Part
all = fold followed_by (plain [])

-- one value: an item of a list or a field of an object
abbrev pub one : Part
one = record { outcome = text []; notes = []; weight = 1 }

-- a part that is one value more
abbrev pub counted : Part → Part
counted r = followed_by one r

-- ---- parts with commas between them

-- a comma before the part of this number; before the first there is none
abbrev pub comma : ℕ → Part
comma zero = plain []
comma (suc i) = plain (codes ",")

-- the part of this number, with its comma
abbrev pub after_comma : ℕ → Part → Part
after_comma i r = followed_by (comma i) r

-- the parts of these, numbered from n on
abbrev pub numbered : {A : Type 0} → (ℕ → A → Part) → ℕ → List A → List Part
numbered f n [] = []
numbered f n (x ∷ xs) = f n x ∷ numbered f (n + 1) xs

-- the parts of these, with commas between them
abbrev pub comma_list : {A : Type 0} → (ℕ → A → Part) → List A → Part
comma_list f xs = all (numbered (λ i x. after_comma i (f i x)) 0 xs)

-- a part between two texts
abbrev pub within : List ℕ → Part → List ℕ → Part
within before r after = followed_by (followed_by (plain before) r) (plain after)

-- ---- errors

-- an error, for which a null bubbles
abbrev pub raise : Error → Part
raise e = record { outcome = bubble; notes = own e ∷ []; weight = 0 }

-- whether the field has an error of its own, in these notes or before (`raised`)
abbrev pub has_own : Bool → List Note → Bool
has_own raised [] = raised
has_own raised (own e ∷ ns) = has_own true ns
has_own raised (below e ∷ ns) = has_own raised ns

-- a field with its errors as those of the fields above it
abbrev pub settled : Part → Part
settled r = record {
  outcome = r.outcome;
  notes = map below (kept false r.notes);
  weight = r.weight;
}

-- a text, or `null` for a null that bubbles
abbrev pub or_null : Outcome → Outcome
or_null (text a) = text a
or_null bubble = text (codes "null")

-- a null that bubbles to a nullable place stays there
abbrev pub caught : Part → Part
caught r = record { outcome = or_null r.outcome; notes = r.notes; weight = r.weight }
