-- The changes of a batch, one after the other.
use Rattle.std.proofs.Common.{◌≡◌, ◌∙◌, [], ◌∷◌, ◌++◌, ℕ, List, Option, Some, None, String, append_assoc, option_map, refl, string_bytes, sym, ap, false, is_some, inl, inr}
use Rattle.std.specs.Str.{IsUtf8}
use Rattle.std.specs.declared.alloc.Global.{Global}
use Rattle.std.proofs.lemmas.List.{map-append}
use Rattle.gql_ast.specs.declared.fault.FileSide.{FileSide}
use Rattle.gql_registry.specs.Changes.{change_of, edit_of}
use Rattle.gql_registry.specs.Edits.{Change, Edit, set_data}
use Rattle.gql_registry.specs.declared.change.Change.{Change as GivenChange}
use Rattle.serde_json.specs.Data.{Data, null, boolean, number, string, array, object}
use Rattle.serde_json.specs.Find.{as_null}
use Rattle.serde_json.specs.View.{members_view, view}
use Rattle.serde_json.specs.declared.value.Value.{Value}
use Rattle.gql_http.specs.Batches.{IsNoValue, Says, before, data_change, file_changes, named_change, not_json, twice}

-- these changes before others, if those are there
abbrev pub after : Edit → Option Edit → Option Edit
after done others = option_map (λ (rest : Edit). done ++ rest) others

-- one more change that is there
pub after_more : (done : Edit) (c : Change) (first : Option Change) (others : Option Edit) → first ≡ Some c → after (done ++ c ∷ []) others ≡ after done (before first others)
after_more done c first None is = sym (ap (λ f. after done (before f None)) is)
after_more done c first (Some rest) is = ap (λ r. Some r) (append_assoc done (c ∷ []) rest) ∙ sym (ap (λ f. after done (before f (Some rest))) is)

-- one that is not there
pub after_none : (done : Edit) (first : Option Change) (others : Option Edit) → first ≡ None → after done (before first others) ≡ None
after_none done first others is = ap (λ f. after done (before f others)) is

-- others that are not there
pub none_after : (done : Edit) (others : Option Edit) → after done others ≡ None → others ≡ None
none_after done None is = refl
none_after done (Some rest) is = let clash : Some (done ++ rest) ≡ None = is in absurd (cc clash)

-- the changes are added
pub all_after : (done all : Edit) (others : Option Edit) → after done others ≡ Some all → (e : Edit) × (others ≡ Some e) × (all ≡ done ++ e)
all_after done all None is = let clash : ◌≡◌ {A = Option Edit} None (Some all) = is in absurd (cc clash)
all_after done all (Some rest) is = (rest, refl, let same : Some (done ++ rest) ≡ Some all = is in cc same)

-- a change of a file
pub of_name : (most : ℕ) (side : FileSide) (entries rest : List (String Global × Value)) (name : String Global) (value : Value) → entries ≡ (name, value) ∷ rest
    → file_changes most side (members_view entries) ≡ before (named_change most side (string_bytes name) (view value)) (file_changes most side (members_view rest))
of_name most side entries rest name value is = ap (λ es. file_changes most side (members_view es)) is

-- one more change of a file
pub change_more : (most : ℕ) (side : FileSide) (entries rest : List (String Global × Value)) (name : String Global) (value : Value) (done new : List GivenChange) (c : GivenChange) (all : Option Edit)
    → entries ≡ (name, value) ∷ rest → named_change most side (string_bytes name) (view value) ≡ Some (change_of c) → new ≡ done ++ c ∷ []
    → after (edit_of done) (file_changes most side (members_view entries)) ≡ all → after (edit_of new) (file_changes most side (members_view rest)) ≡ all
change_more most side entries rest name value done new c all is first added old =
    ap (λ cs. after (edit_of cs) (file_changes most side (members_view rest))) added
    ∙ ap (λ e. after e (file_changes most side (members_view rest))) (map-append change_of done (c ∷ []))
    ∙ after_more (edit_of done) (change_of c) (named_change most side (string_bytes name) (view value)) (file_changes most side (members_view rest)) first
    ∙ ap (after (edit_of done)) (sym (of_name most side entries rest name value is))
    ∙ old

-- data that are not null
pub some_data : (d : Data) → is_some (as_null d) ≡ false → data_change (Some d) ≡ Some (set_data d ∷ [])
some_data null e = cc
some_data (boolean b) e = refl
some_data (number n) e = refl
some_data (string s) e = refl
some_data (array ds) e = refl
some_data (object ms) e = refl

-- a text that is no value
pub no_value_said : (most : ℕ) (body : List ℕ) → IsUtf8 body → IsNoValue body → Says most body None
no_value_said most body text (inl more) = twice text more
no_value_said most body text (inr none) = not_json text none
