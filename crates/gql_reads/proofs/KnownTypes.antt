-- What is known of types, each under its name.
use Rattle.std.proofs.Common.{◌≡◌, inl, inr, ℕ, List, None, Some, ap, bytes_eq, subst, sym, ◌∙◌, Contains}
use Rattle.std.specs.Map.{lookup}
use Rattle.std.proofs.lemmas.List.Elements.{Contains-push_cases}
use Rattle.std.proofs.lemmas.Map.Views.{Contains-from_lookup}
use Rattle.std.proofs.lemmas.Slice.Eq.{bytes_eq-Decides}
use Rattle.indexmap.specs.IndexMap.{IndexMap, get, insert_entry}
use Rattle.indexmap.proofs.CallerLemmas.{insert_entry-new}
use Rattle.gql_facts.specs.declared.key.Key.TheVariants as key
use Rattle.gql_facts.specs.Worlds.{Facts}
use Rattle.gql_reads.specs.Leading.{AreTypes}
use Rattle.gql_reads.specs.Observations.{Hold, about}
use Rattle.gql_reads.specs.declared.observation.TypeAnswers.{TypeAnswers}
use Rattle.gql_reads.proofs.Held.{type_held}
use Rattle.gql_reads.proofs.Led.{input_about, input_of}

-- what is asked about a type holds
pub type_asked : (F : Facts) (n : List ℕ) (t : TypeAnswers) → t.name ≡ n → t.kind ≡ F (key.KindOf n) → t.possible ≡ F (key.PossibleOf n) → t.input ≡ F (key.InputOf n) → t.values ≡ F (key.EnumOf n) → Hold F (about t)
type_asked F n t name kind possible input values = type_held F t (ap (λ m. F (key.KindOf m)) name ∙ sym kind) (ap (λ m. F (key.PossibleOf m)) name ∙ sym possible) (ap (λ m. F (key.InputOf m)) name ∙ sym input)
    (ap (λ m. F (key.EnumOf m)) name ∙ sym values)

-- what is known of a type
pub type_found : (F : Facts) (n : List ℕ) (t : TypeAnswers) (types : List (List ℕ × TypeAnswers)) → lookup (bytes_eq n) types ≡ Some t → AreTypes F types → (t.name ≡ n) × Hold F (about t)
type_found F n t types found are = are.each (n, t) (Contains-from_lookup (λ x y. (bytes_eq-Decides x y).0) n t types found)

pub type_input : (F : Facts) (n : List ℕ) (t : TypeAnswers) → (t.name ≡ n) × Hold F (about t) → t.input ≡ F (key.InputOf n)
type_input F n t is = sym (is.1 (input_of t) (input_about t)) ∙ ap (λ m. F (key.InputOf m)) is.0

-- one type more is known
pub type_added : {S : Type 0} (F : Facts) (known : IndexMap (List ℕ) TypeAnswers S) (n : List ℕ) (t : TypeAnswers) (new : List (List ℕ × TypeAnswers)) → get bytes_eq known n ≡ None
    → new ≡ insert_entry bytes_eq known.entries n t → t.name ≡ n → Hold F (about t) → AreTypes F known.entries → AreTypes F new
type_added F known n t new absent is name hold are = record {
  each = λ e m. elim (Contains-push_cases known.entries (n, t) e (subst (λ (l : List (List ℕ × TypeAnswers)). Contains l e) (is ∙ insert_entry-new bytes_eq known n t absent) m)) [
    | inl o ↦ are.each e o
    | inr s ↦ subst (λ (p : List ℕ × TypeAnswers). (p.1.name ≡ p.0) × Hold F (about p.1)) s (name, hold)
  ];
}
