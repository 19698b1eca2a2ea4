-- Helper definitions for private contracts: numbers for the fields and the sets that are kept.
use Rattle.std.specs.Prelude.{◌≡◌, ◌+◌, ℕ, suc, List, [], ◌∷◌, ◌++◌, map, flat_map, length, bytes_eq, cond, Option, Some, None, option_map}
use Rattle.std.proofs.Common.{get_or}
use Rattle.std.specs.List.{range_with_len}
use Rattle.gql_clashes.specs.declared.sets.NumberedField.{NumberedField}
use Rattle.gql_clashes.specs.declared.sets.Sets.{Sets}
use Rattle.gql_merge.specs.FieldNodes.{FieldInfo}
use Rattle.gql_merge.specs.FieldSets.{list_of}
use Rattle.gql_merge.specs.Known.{info_in}
use Rattle.gql_merge.specs.declared.columns.Aspect.{Aspect}
use Rattle.gql_merge.specs.declared.columns.Aspect.TheVariants as aspect
use Rattle.gql_merge.specs.declared.columns.Columns.{Columns}
use Rattle.gql_merge.specs.declared.flat.FlatField.{FlatField}
use Rattle.gql_merge.specs.declared.flat.FlatSet.{FlatSet}

-- ---- numbers of texts

-- the place of a text among these, the first if there are more
abbrev pub place_in : List ℕ → List (List ℕ) → Option ℕ
place_in t [] = None
place_in t (x ∷ xs) = cond (bytes_eq t x) (Some 0) (option_map suc (place_in t xs))

-- `number` gives the place of each text among these
abbrev pub IsIndexed : (List ℕ → Option ℕ) → List (List ℕ) → Type 0
IsIndexed number texts = (q : List ℕ) → number q ≡ place_in q texts

-- each text has the number of its first place
abbrev pub HasPlaces : List (List ℕ) → List ℕ → Type 0
HasPlaces texts numbers = map Some numbers ≡ map (λ t. place_in t texts) texts

-- a text is added at this place; the result is the first place of that text
abbrev pub AddsText : (List ℕ → Option ℕ) → List ℕ → ℕ → (List ℕ → Option ℕ) → ℕ → Type 0
AddsText number text place number_after result = (texts : List (List ℕ))
    → IsIndexed number texts → place ≡ length texts
    → IsIndexed number_after (texts ++ text ∷ [])
    × (place_in text (texts ++ text ∷ []) ≡ Some result)

-- ---- numbers of fields

-- one aspect of a field, as a text
abbrev pub aspect_of : Aspect → FieldInfo → List ℕ
aspect_of aspect.File i = i.file
aspect_of aspect.ResponseName i = i.response_name
aspect_of aspect.Parent i = i.parent
aspect_of aspect.Call i = i.call
aspect_of aspect.Shape i = i.shape

-- one aspect of all fields
abbrev pub aspects_of : Aspect → List FlatField → List (List ℕ)
aspects_of a all = map (λ (x : FlatField). aspect_of a (info_in x.known)) all

-- the columns have the numbers of each aspect of all fields
pub record AreColumns (all : List FlatField) (c : Columns) : Type 0 where
  pub files : HasPlaces (aspects_of aspect.File all) c.files.items
  pub names : HasPlaces (aspects_of aspect.ResponseName all) c.names.items
  pub parents : HasPlaces (aspects_of aspect.Parent all) c.parents.items
  pub calls : HasPlaces (aspects_of aspect.Call all) c.calls.items
  pub shapes : HasPlaces (aspects_of aspect.Shape all) c.shapes.items

-- n is the number of this aspect of x
abbrev pub IsPlace : Aspect → List FlatField → FlatField → ℕ → Type 0
IsPlace a all x n = place_in (aspect_of a (info_in x.known)) (aspects_of a all) ≡ Some n

-- n is the field x by numbers
pub record IsNumberOf (all : List FlatField) (x : FlatField) (n : NumberedField) : Type 0 where
  pub file : IsPlace aspect.File all x n.file
  pub start : n.start ≡ (info_in x.known).start.offset
  pub response_name : IsPlace aspect.ResponseName all x n.response_name
  pub parent : IsPlace aspect.Parent all x n.parent
  pub of_object : n.of_object ≡ x.known.of_object
  pub call : IsPlace aspect.Call all x n.call
  pub shape : IsPlace aspect.Shape all x n.shape
  pub below : n.below ≡ x.below

-- n is the field at this place by numbers
abbrev pub IsNumberAt : List FlatField → ℕ → NumberedField → Type 0
IsNumberAt all place n = (d : FlatField) → IsNumberOf all (get_or all place d) n

-- these are the fields by numbers, one by one
abbrev pub AreNumbersOf : List FlatField → List FlatField → List NumberedField → Type 0
AreNumbersOf all [] [] = Unit {0}
AreNumbersOf all [] (n ∷ ns) = ⊥
AreNumbersOf all (x ∷ xs) [] = ⊥
AreNumbersOf all (x ∷ xs) (n ∷ ns) = IsNumberOf all x n × AreNumbersOf all xs ns

-- ---- numbers of sets

-- the numbers below n
abbrev pub numbers_to : ℕ → List ℕ
numbers_to n = range_with_len 0 n

-- as many numbers as fields, from n on
abbrev pub numbers_from : ℕ → List FlatField → List ℕ
numbers_from n [] = []
numbers_from n (x ∷ xs) = n ∷ numbers_from (n + 1) xs

-- the numbers of the fields of each set, from n on
abbrev pub direct_from : ℕ → List FlatSet → List (List ℕ)
direct_from n [] = []
direct_from n (s ∷ sets) = numbers_from n s.fields.items
    ∷ direct_from (n + length s.fields.items) sets

-- the numbers of the fragments that a set spreads
abbrev pub spreads_of : (List ℕ → Option ℕ) → FlatSet → List ℕ
spreads_of number s = flat_map (λ n. list_of (number n.now)) s.names.items

-- z has these sets and all their fields by numbers
pub record Numbers (sets : List FlatSet) (number : List ℕ → Option ℕ)
    (all : List FlatField) (z : Sets) : Type 0 where
  pub all_fields : all ≡ flat_map (λ (s : FlatSet). s.fields.items) sets
  pub direct : map (λ b. b.fields.items) z.bodies.items ≡ direct_from 0 sets
  pub spreads : map (λ b. b.spreads.items) z.bodies.items ≡ map (spreads_of number) sets
  pub fields : AreNumbersOf all all z.fields.items
