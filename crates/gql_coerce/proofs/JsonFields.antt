-- What the members of an object of JSON are as fields of an input.
use Rattle.std.proofs.Common.{◌≡◌, ℕ, List, Bool, true, false, true≢false, if◌then◌else◌, Bor, Option, Some, None, Ordering, Less, Equal, Greater, find, bytes_eq, is_eq, option_map, refl, ap, sym, ◌∙◌, arith}
use Rattle.std.proofs.lemmas.Map.Text.{is_eq-slice_cmp}
use Rattle.std.specs.Cmp.Lexicographic.{slice_cmp}
use Rattle.std.specs.Ordering.{nat_cmp, match_ordering}
use Rattle.gql_ast.specs.declared.type_system.InputValueDefinition.{InputValueDefinition}
use Rattle.gql_built_in.specs.declared.sited.Sited.{Sited}
use Rattle.serde_json.specs.Data as json
use Rattle.serde_json.specs.Data.{Data, Members}
use Rattle.serde_json.specs.Find.{get_member}
use Rattle.serde_json.specs.View.{view}
use Rattle.serde_json.specs.declared.value.Value.{Value}
use Rattle.gql_coerce.specs.Coercion.{Entry, Entries, unknown, unless_unknown, given_as, defined_entry}
use Rattle.gql_coerce.specs.Inputs.{Field, Input, all_fields, json_input, json_fields}

by_order : (o : Ordering) (b : Bool) (x : Input) (d : Data) (rest : Option Data) (fs : Option Field) (f : Field) → is_eq o ≡ b → f.value ≡ json_input d
    → option_map json_input rest ≡ option_map (λ (g : Field). g.value) fs
    → option_map json_input (match_ordering o rest (Some d) rest) ≡ option_map (λ (g : Field). g.value) (if b then Some f else fs)
by_order Less true x d rest fs f is at more = absurd (true≢false (sym is))
by_order Less false x d rest fs f is at more = more
by_order Equal true x d rest fs f is at more = ap Some (sym at)
by_order Equal false x d rest fs f is at more = absurd (true≢false is)
by_order Greater true x d rest fs f is at more = absurd (true≢false (sym is))
by_order Greater false x d rest fs f is at more = more

-- the value that is given for a name
pub given_is : (n : List ℕ) (ms : Members) → option_map json_input (get_member n ms) ≡ given_as n (all_fields (json_fields ms))
given_is n json.no_members = refl
given_is n (json.member k d ms) = by_order (slice_cmp nat_cmp n k) (bytes_eq n k) (json_input d) d (get_member n ms) (find (λ (f : Field). bytes_eq n f.name) (all_fields (json_fields ms)))
    record { name = k; value = json_input d } (is_eq-slice_cmp n k) refl (given_is n ms)

borrowed : (o : Option (Bor Value)) → option_map (λ v. json_input (view v.now)) o ≡ option_map json_input (option_map (λ v. view v.now) o)
borrowed (Some v) = refl
borrowed None = refl

abbrev pub the_entry : List ℕ → InputValueDefinition → Option Input → Entry
the_entry n d x = record { name = n; definition = Some d; given = x }

-- the entry of a field that is defined
pub entry_is : (d : Sited InputValueDefinition) (n : List ℕ) (ms : Members) (o : Option (Bor Value)) → n ≡ d.node.name.text
    → option_map (λ v. view v.now) o ≡ get_member n ms
    → the_entry n d.node (option_map (λ v. json_input (view v.now)) o) ≡ defined_entry (all_fields (json_fields ms)) d
entry_is d n ms o is found = ap (λ g. the_entry n d.node g) (borrowed o ∙ ap (option_map json_input) found ∙ given_is n ms)
    ∙ ap (λ m. the_entry m d.node (given_as m (all_fields (json_fields ms)))) is

module _ (es : Entries) where
  pub is_unknown : (o : Option Field) (n : List ℕ) → Some n ≡ option_map (λ (f : Field). f.name) o → unknown n ≡ unless_unknown o es
  is_unknown (Some f) n is = grind (arith, is)
  is_unknown None n is = grind (arith, is)

  pub none_is_unknown : (o : Option Field) → None ≡ option_map (λ (f : Field). f.name) o → es ≡ unless_unknown o es
  none_is_unknown (Some f) is = grind (arith, is)
  none_is_unknown None is = refl
