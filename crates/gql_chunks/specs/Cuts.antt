-- Helper definitions for private contracts: where a list in order is cut.
use Rattle.std.specs.Prelude.{◌≡◌, ◌≢◌, List, [], ◌∷◌, ◌++◌, Bool, false, Contains, Option, Some, None, cond}
use Rattle.std.specs.Ordering.{is_eq, is_lt}
use Rattle.std.specs.declared.cmp.Ordering.{Ordering}
use Rattle.std.specs.declared.cmp.Ordering.TheVariants.{Less}

module _ {T : Type 0} (order : T → T → Ordering) where
  -- a list is cut in two: what is before the place of an item, and what is not; if there is no item, all is before
  pub record IsCut (next : Option T) (all here later : List T) : Type 0 where
    pub whole : here ++ later ≡ all
    pub before : (n : T) → next ≡ Some n → (x : T) → Contains here x → order x n ≡ Less
    pub from : (n : T) → next ≡ Some n → (x : T) → Contains later x → order x n ≢ Less
    pub none : next ≡ None → later ≡ []

-- whether the last of some items is before what is looked for; the answer is no, if there are none
abbrev pub ends_below : {T : Type 0} → (T → Ordering) → List T → Bool
ends_below order [] = false
ends_below order (x ∷ []) = is_lt (order x)
ends_below order (x ∷ y ∷ items) = ends_below order (y ∷ items)

-- an item, if it is looked for
abbrev pub if_equal : {T : Type 0} → (T → Ordering) → Option T → Option T
if_equal order None = None
if_equal order (Some x) = cond (is_eq (order x)) (Some x) None
