-- Edits of a list in order: items go, and others come.
use Rattle.std.specs.Prelude.{◌≡◌, ◌⊎◌, ◌↔◌, List, [], ◌∷◌, ◌++◌, Bool, cond, filter, Contains}
use Rattle.std.specs.Ordering.{is_gt, is_lt}
use Rattle.std.specs.declared.cmp.Ordering.{Ordering}
use Rattle.std.specs.declared.cmp.Ordering.TheVariants.{Equal}
use Rattle.gql_chunks.specs.Lists.{AreInOrder}

-- the item, if it comes
abbrev pub one_if : {T : Type 0} → Bool → T → List T
one_if comes item = cond comes (item ∷ []) []

module _ {T : Type 0} (order : T → T → Ordering) where
  -- none of these is at the place of an item
  abbrev pub IsFree : List T → T → Type 0
  IsFree others item = (o : T) → Contains others o → order item o ≡ Equal → ⊥

  -- a list in order after an edit: it has the items that come, and of those before it each at whose
  -- place none goes or comes
  pub record IsEdited (before goes comes after : List T) : Type 0 where
    pub ordered : AreInOrder order after
    pub items : (x : T) → Contains after x
        ↔ (Contains comes x ⊎ (Contains before x × IsFree goes x × IsFree comes x))

  -- the items before the place of one, and those after it
  abbrev pub below : T → List T → List T
  below item items = filter (λ x. is_lt (order x item)) items

  abbrev pub above : T → List T → List T
  above item items = filter (λ x. is_gt (order x item)) items

  -- items in order with some that come, each at its place, or without those at the places of some
  abbrev pub edited : Bool → List T → List T → List T
  edited comes items [] = items
  edited comes items (c ∷ cs) = below c items ++ (one_if comes c ++ edited comes (above c items) cs)
