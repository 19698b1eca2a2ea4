-- Helper definitions for private contracts: classes, with their places by what their fields have in
-- common.
use Rattle.std.specs.Prelude.{◌≡◌, ◌⊎◌, ◌<◌, ◌&&◌, [], ℕ, List, Bool, true, nat_eq, length, None, Some, slice_index_or, Contains}
use Rattle.std.specs.HashMap as hash
use Rattle.std.specs.HashMap.{HashMap}
use Rattle.std.proofs.Math.Bool.{beq}
use Rattle.gql_clashes.specs.declared.sets.NumberedField.{NumberedField}
use Rattle.gql_clashes.specs.declared.sets.Sets.{Sets}
use Rattle.gql_clashes.specs.Compared.{kind_at}
use Rattle.gql_clashes.specs.Numbered.{field_at}

-- what the fields of a class have in common: response name, parent type and whether that is an
-- object type, field name with arguments, and shape
abbrev pub Signature : Type 0
Signature = ℕ × ℕ × Bool × ℕ × ℕ

abbrev pub signature_of : NumberedField → Signature
signature_of f = (f.response_name, f.parent, f.of_object, f.call, f.shape)

-- whether two signatures are one
abbrev pub same_signature : Signature → Signature → Bool
same_signature x y = nat_eq x.0 y.0 && nat_eq x.1 y.1 && beq x.2 y.2 && nat_eq x.3 y.3 && nat_eq x.4 y.4

-- the field may be in one class with others: it has no selections, or these are joined
abbrev pub MayJoin : Bool → NumberedField → Type 0
MayJoin join f = (f.below ≡ None) ⊎ (join ≡ true)

-- there are as few classes as there may be: fields that could be of one class are of one
abbrev pub AreFew : Sets → Bool → List (List ℕ) → Type 0
AreFew sets join classes = (i j f g : ℕ) → Contains (slice_index_or classes i []) f
    → Contains (slice_index_or classes j []) g → kind_at sets f ≡ kind_at sets g
    → MayJoin join (field_at sets f) → MayJoin join (field_at sets g) → i ≡ j

-- the places of the classes whose fields may be joined, by their signatures
pub record ArePlaced {S : Type 0} (sets : Sets) (join : Bool) (places : HashMap Signature ℕ S)
    (classes : List (List ℕ)) : Type 0 where
  pub has : (i f : ℕ) → Contains (slice_index_or classes i []) f → MayJoin join (field_at sets f)
      → hash.get same_signature places (signature_of (field_at sets f)) ≡ Some i
  pub from : (x : Signature) (i : ℕ) → hash.get same_signature places x ≡ Some i
      → (i < length classes) × (f : ℕ) × Contains (slice_index_or classes i []) f
      × (signature_of (field_at sets f) ≡ x) × MayJoin join (field_at sets f)
