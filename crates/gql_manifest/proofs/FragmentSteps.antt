-- A fragment that is added to those that are kept.
use Rattle.std.proofs.Common.{◌≡◌, ◌≢◌, ◌∙◌, inl, inr, [], ◌∷◌, ◌++◌, ℕ, List, Some, None, refl, ap, string_bytes, bytes_eq}
use Rattle.std.specs.Map.{lookup}
use Rattle.std.proofs.lemmas.List.{map-append}
use Rattle.gql_manifest.proofs.Kept.{found, not_found}
use Rattle.gql_manifest.specs.Fragments.{Fragment, IsAddFault, IsAdded, SaysDiffer, fragment_from, fragment_of, fragments_of}
use Rattle.gql_manifest.specs.Origins.{Place, place_of}
use Rattle.gql_manifest.specs.declared.fault.ManifestFault.{ManifestFault}
use Rattle.gql_manifest.specs.declared.fragments.KeptFragment.{KeptFragment}

abbrev pub Entries : Type 0
Entries = List (List ℕ × KeptFragment)

-- none of its name was kept
pub added : (es new : Entries) (name : List ℕ) (k : KeptFragment) (tokens bytes : List ℕ) (place : Place) → lookup (bytes_eq name) es ≡ None → new ≡ es ++ (name, k) ∷ []
    → string_bytes k.tokens ≡ tokens → k.bytes.items ≡ bytes ++ 10 ∷ [] → place_of k.first ≡ place → IsAdded (fragments_of es) (fragments_of new) (fragment_from name tokens bytes place)
added es new name k tokens bytes place none is its_tokens its_bytes its_place =
    let same : fragment_of (name, k) ≡ fragment_from name tokens bytes place = λ i. record { name = name; tokens = its_tokens i; bytes = its_bytes i; first = its_place i } in
    inl (
      not_found fragment_of (λ (f : Fragment). f.name) (λ e. refl) name es none,
      ap fragments_of is ∙ map-append fragment_of es ((name, k) ∷ []) ∙ ap (λ f. fragments_of es ++ f ∷ []) same,
    )

-- one of its name and with the same tokens was kept
pub there : (es : Entries) (name : List ℕ) (k : KeptFragment) (tokens bytes : List ℕ) (place : Place) → lookup (bytes_eq name) es ≡ Some k → string_bytes k.tokens ≡ tokens
    → IsAdded (fragments_of es) (fragments_of es) (fragment_from name tokens bytes place)
there es name k tokens bytes place is same = inr (refl, fragment_of (name, k), (found fragment_of name k es is, refl), same)

-- one of its name and with other tokens was kept
pub differs : (es : Entries) (name : List ℕ) (k : KeptFragment) (tokens bytes : List ℕ) (place : Place) (fault : ManifestFault) → lookup (bytes_eq name) es ≡ Some k
    → string_bytes k.tokens ≢ tokens → SaysDiffer name (place_of k.first) place fault → IsAddFault (fragments_of es) (fragment_from name tokens bytes place) fault
differs es name k tokens bytes place fault is other says = inr (fragment_of (name, k), (found fragment_of name k es is, refl), other, says)
