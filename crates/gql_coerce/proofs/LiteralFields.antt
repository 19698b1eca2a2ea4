-- What the fields of a literal are as fields of an input.
use Rattle.std.proofs.Common.{◌≡◌, ℕ, List, not, Bor, Option, Some, None, map, find, is_some, bytes_eq, option_map, refl, ap, sym, ◌∙◌, arith}
use Rattle.gql_ast.specs.declared.literal.Literal.{Literal}
use Rattle.gql_ast.specs.declared.literal.ObjectField.{ObjectField}
use Rattle.gql_ast.specs.declared.type_system.InputValueDefinition.{InputValueDefinition}
use Rattle.gql_built_in.specs.declared.sited.Sited.{Sited}
use Rattle.serde_json.specs.Data.{Data}
use Rattle.gql_coerce.proofs.Firsts.{found_first}
use Rattle.gql_coerce.proofs.Found.{found_in}
use Rattle.gql_coerce.specs.Coercion.{Entry, defined_entry, Entries, unknown, unless_unknown, is_defined, given_as}
use Rattle.gql_coerce.specs.Inputs.{Field, Input, firsts, literal, literal_field}
use Rattle.gql_coerce.specs.LiteralEntries.{name_of, fields_in, first_unknown}

abbrev pub the_entry : List ℕ → InputValueDefinition → Option Input → Entry
the_entry n d x = record { name = n; definition = Some d; given = x }

-- of fields of one name, the first counts
pub given_first : (n : List ℕ) (fs : List Field) → given_as n (firsts fs) ≡ given_as n fs
given_first n fs = ap (option_map (λ (f : Field). f.value)) (found_first (λ (f : Field). f.name) (λ m. bytes_eq n m) fs)

pub entry_first : (fs : List Field) (d : Sited InputValueDefinition) → defined_entry (firsts fs) d ≡ defined_entry fs d
entry_first fs d = ap (the_entry d.node.name.text d.node) (given_first d.node.name.text fs)

unknown_first : (ds : List (Sited InputValueDefinition)) (fs : List Field) → find (λ (f : Field). not (is_defined ds f)) (firsts fs) ≡ find (λ (f : Field). not (is_defined ds f)) fs
unknown_first ds fs = found_first (λ (f : Field). f.name) (λ n. not (is_some (find (λ (d : Sited InputValueDefinition). bytes_eq n d.node.name.text) ds))) fs

module _ (vs : Data) where
  borrowed : (o : Option (Bor Literal)) → option_map (λ x. literal vs x.now) o ≡ option_map (literal vs) (option_map (λ x. x.now) o)
  borrowed (Some x) = refl
  borrowed None = refl

  value_in : (o : Option ObjectField) → option_map (literal vs) (option_map (λ f. f.value) o) ≡ option_map (λ (f : Field). f.value) (option_map (literal_field vs) o)
  value_in (Some f) = refl
  value_in None = refl

  -- the value that is given for a name
  pub given_is : (n : List ℕ) (fs : List ObjectField) (o : Option (Bor Literal)) → option_map (λ x. x.now) o ≡ option_map (λ f. f.value) (find (λ f. bytes_eq n f.name.text) fs)
      → option_map (λ x. literal vs x.now) o ≡ given_as n (map (literal_field vs) fs)
  given_is n fs o is = borrowed o ∙ ap (option_map (literal vs)) is ∙ value_in (find (λ f. bytes_eq n f.name.text) fs)
      ∙ ap (option_map (λ (f : Field). f.value)) (found_in (literal_field vs) (λ (f : Field). bytes_eq n f.name) fs)

  -- the entry of a field that is defined
  pub entry_is : (d : Sited InputValueDefinition) (n : List ℕ) (fs : List ObjectField) (o : Option (Bor Literal)) → n ≡ d.node.name.text
      → option_map (λ x. x.now) o ≡ option_map (λ f. f.value) (find (λ f. bytes_eq n f.name.text) fs)
      → the_entry n d.node (option_map (λ x. literal vs x.now) o) ≡ defined_entry (map (literal_field vs) fs) d
  entry_is d n fs o is found = ap (λ g. the_entry n d.node g) (given_is n fs o found) ∙ ap (λ m. the_entry m d.node (given_as m (map (literal_field vs) fs))) is

  module _ (ds : List (Sited InputValueDefinition)) (es : Entries) where
    by_first : (o : Option ObjectField) (n : List ℕ) → Some n ≡ option_map name_of o → unless_unknown (option_map (literal_field vs) o) es ≡ unknown n
    by_first (Some f) n is = grind (arith, is)
    by_first None n is = grind (arith, is)

    by_none : (o : Option ObjectField) → None ≡ option_map name_of o → unless_unknown (option_map (literal_field vs) o) es ≡ es
    by_none (Some f) is = grind (arith, is)
    by_none None is = refl

    unknown_in : (fs : List ObjectField) → option_map (literal_field vs) (first_unknown ds fs) ≡ find (λ (f : Field). not (is_defined ds f)) (fields_in vs fs)
    unknown_in fs = found_in (literal_field vs) (λ (f : Field). not (is_defined ds f)) fs ∙ sym (unknown_first ds (map (literal_field vs) fs))

    pub is_unknown : (fs : List ObjectField) (n : List ℕ) → Some n ≡ option_map name_of (first_unknown ds fs)
        → unknown n ≡ unless_unknown (find (λ (f : Field). not (is_defined ds f)) (fields_in vs fs)) es
    is_unknown fs n is = sym (ap (λ o. unless_unknown o es) (sym (unknown_in fs)) ∙ by_first (first_unknown ds fs) n is)

    pub none_is_unknown : (fs : List ObjectField) → None ≡ option_map name_of (first_unknown ds fs)
        → es ≡ unless_unknown (find (λ (f : Field). not (is_defined ds f)) (fields_in vs fs)) es
    none_is_unknown fs is = sym (ap (λ o. unless_unknown o es) (sym (unknown_in fs)) ∙ by_none (first_unknown ds fs) is)
