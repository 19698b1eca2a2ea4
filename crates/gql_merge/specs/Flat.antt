-- Helper definitions for private contracts: selection sets that are kept by numbers.
use Rattle.std.specs.Prelude.{◌≡◌, ℕ, List, [], ◌∷◌, ◌++◌, map, Bool, Option, Some, None, option_map}
use Rattle.std.specs.List.{slice_get}
use Rattle.gql_merge.specs.FieldNodes.{FieldNode, SetNode, direct, names_spread}
use Rattle.gql_merge.specs.FieldSets.{Part, list_of, set_if, set_of}
use Rattle.gql_merge.specs.Known.{info_in}
use Rattle.gql_merge.specs.MergedNodes.{sets_of}
use Rattle.gql_merge.specs.declared.flat.FlatField.{FlatField}
use Rattle.gql_merge.specs.declared.flat.FlatSet.{FlatSet}
use Rattle.gql_merge.specs.declared.known.KnownField.{KnownField}

-- x is the field f; `sets` are the sets that the numbers refer to
pub record IsDrawn (sets : List SetNode) (x : FlatField) (f : FieldNode) : Type 0 where
  pub its : info_in x.known ≡ f.its
  pub below : option_map (slice_get sets) x.below ≡ option_map Some f.below

-- these are the fields, one by one
abbrev pub AreDrawn : List SetNode → List FlatField → List FieldNode → Type 0
AreDrawn sets [] [] = Unit {0}
AreDrawn sets [] (f ∷ fs) = ⊥
AreDrawn sets (x ∷ xs) [] = ⊥
AreDrawn sets (x ∷ xs) (f ∷ fs) = IsDrawn sets x f × AreDrawn sets xs fs

-- x is the set s; `sets` are the sets that the numbers refer to
pub record IsSetDrawn (sets : List SetNode) (x : FlatSet) (s : SetNode) : Type 0 where
  pub fields : AreDrawn sets x.fields.items (direct s)
  pub names : map (λ n. n.now) x.names.items ≡ names_spread s

-- these are the sets, one by one
abbrev pub AreSetsDrawn : List SetNode → List FlatSet → List SetNode → Type 0
AreSetsDrawn sets [] [] = Unit {0}
AreSetsDrawn sets [] (s ∷ ss) = ⊥
AreSetsDrawn sets (x ∷ xs) [] = ⊥
AreSetsDrawn sets (x ∷ xs) (s ∷ ss) = IsSetDrawn sets x s × AreSetsDrawn sets xs ss

-- these are the sets, and their numbers refer to them
abbrev pub Draws : List FlatSet → List SetNode → Type 0
Draws xs sets = AreSetsDrawn sets xs sets

-- a part is added: its sets to the list, its fields and names to the set that is being made
pub record Grows (p : Part) (sets : List FlatSet) (own : FlatSet)
    (sets_after : List FlatSet) (own_after : FlatSet) : Type 0 where
  pub names : map (λ n. n.now) own_after.names.items
      ≡ map (λ n. n.now) own.names.items ++ p.names
  pub drawn : (before : List SetNode) (fields : List FieldNode) → Draws sets before
      → AreDrawn before own.fields.items fields
      → Draws sets_after (before ++ p.sets)
      × AreDrawn (before ++ p.sets) own_after.fields.items (fields ++ p.fields)

-- the sets of a part are added, and its own set is at this number
abbrev pub AddsSet : Part → List FlatSet → List FlatSet → ℕ → Type 0
AddsSet p sets sets_after number = (before : List SetNode) → Draws sets before
    → Draws sets_after (before ++ sets_of p)
    × (slice_get (before ++ sets_of p) number ≡ Some (set_of p))

-- the sets of a part are added, and its own set too, at this number, if a field selects it
abbrev pub AddsBelow : Bool → Part → List FlatSet → List FlatSet → Option ℕ → Type 0
AddsBelow selects p sets sets_after number = (before : List SetNode) → Draws sets before
    → Draws sets_after (before ++ (p.sets ++ list_of (set_if selects p)))
    × (option_map (slice_get (before ++ (p.sets ++ list_of (set_if selects p)))) number
    ≡ option_map Some (set_if selects p))

-- the field, if its definition is known
abbrev pub flat_if : Option KnownField → Option ℕ → List FlatField
flat_if None below = []
flat_if (Some k) below = record { known = k; below = below } ∷ []
