-- The fields and the selection sets of a definition, as field merging sees them (GraphQL 5.3.2).
use Rattle.std.specs.Prelude.{◌≡◌, ℕ, List, [], ◌∷◌, Bool, Option, Some, None, refl}
use Rattle.std.proofs.Common.{ap, ◌∙◌}
use Rattle.gql_text.specs.declared.place.Place.{Place}

-- what is compared of a field whose definition is known, without what it selects
pub record FieldInfo : Type 0 where
  pub file : List ℕ
  -- a field starts at its alias, or else at its name
  pub start : Place
  pub response_name : List ℕ
  -- the type in whose selections it is
  pub parent : List ℕ
  pub of_object : Bool
  -- its name and its arguments (`Calls`)
  pub call : List ℕ
  -- the shape of its type (`Shapes`)
  pub shape : List ℕ

mutual
  -- a selection set, with the names of the fragments that it spreads
  pub data SetNode : Type 0 where
    selection_set : FieldList → List (List ℕ) → SetNode

  -- a list of fields, with their selection sets
  pub data FieldList : Type 0 where
    no_fields : FieldList
    leaf : FieldInfo → FieldList → FieldList
    branch : FieldInfo → SetNode → FieldList → FieldList

-- a field, and its selection set if it has one
pub record FieldNode : Type 0 where
  pub its : FieldInfo
  pub below : Option SetNode

-- a field in front of a list of fields
abbrev pub with_field : FieldInfo → Option SetNode → FieldList → FieldList
with_field i None rest = leaf i rest
with_field i (Some s) rest = branch i s rest

-- fields as a `FieldList`
abbrev pub listed : List FieldNode → FieldList
listed [] = no_fields
listed (f ∷ rest) = with_field f.its f.below (listed rest)

-- the fields of a `FieldList`, as a list
abbrev pub fields_in : FieldList → List FieldNode
fields_in no_fields = []
fields_in (leaf i rest) = record { its = i; below = None } ∷ fields_in rest
fields_in (branch i s rest) = record { its = i; below = Some s } ∷ fields_in rest

-- the fields of a set and of its inline fragments
abbrev pub direct : SetNode → List FieldNode
direct (selection_set list _) = fields_in list

-- the names of the fragments that are spread there
abbrev pub names_spread : SetNode → List (List ℕ)
names_spread (selection_set _ names) = names

fields_with : (i : FieldInfo) (o : Option SetNode) (rest : FieldList)
    → fields_in (with_field i o rest) ≡ record { its = i; below = o } ∷ fields_in rest
fields_with i None rest = refl
fields_with i (Some s) rest = refl

-- a set of these fields has them
pub fields_listed : (fs : List FieldNode) → fields_in (listed fs) ≡ fs
fields_listed [] = refl
fields_listed (f ∷ fs) = fields_with f.its f.below (listed fs)
    ∙ ap (λ rest. f ∷ rest) (fields_listed fs)
