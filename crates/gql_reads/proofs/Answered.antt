-- Answers that are kept, each once.
use Rattle.std.proofs.Common.{◌≡◌, inl, inr, List, [], ◌∷◌, ◌++◌, true, false, Some, None, is_some, ap, sym, subst, ◌∙◌, refl, Contains, if◌then◌else◌}
use Rattle.std.specs.List.{list_any}
use Rattle.std.specs.Map.{keys_of, lookup}
use Rattle.std.proofs.lemmas.List.Elements.{Contains-push_cases}
use Rattle.std.proofs.lemmas.Map.Made.{is_some-lookup}
use Rattle.std.proofs.lemmas.Map.Views.{Contains-from_lookup}
use Rattle.indexmap.specs.IndexMap.{IndexMap, get, insert_entry}
use Rattle.indexmap.specs.IndexSet.{insert_key}
use Rattle.indexmap.proofs.CallerLemmas.{insert_entry-new}
use Rattle.gql_facts.specs.declared.fact.Fact.{Fact}
use Rattle.gql_facts.specs.declared.key.Key.{Key}
use Rattle.gql_facts.specs.Keys.{is_key, is_key_decides}
use Rattle.gql_facts.specs.Scans.{add_keys}
use Rattle.gql_facts.specs.Worlds.{Facts}
use Rattle.gql_reads.specs.Closings.{AreRight}

-- a list of keys that has a key
kept_key : (ks : List Key) (k : Key) → list_any (is_key k) ks ≡ true → insert_key is_key ks k ≡ ks
kept_key ks k e = ap (λ b. if b then ks else ks ++ k ∷ []) e

new_key : (ks : List Key) (k : Key) → list_any (is_key k) ks ≡ false → insert_key is_key ks k ≡ ks ++ k ∷ []
new_key ks k e = ap (λ b. if b then ks else ks ++ k ∷ []) e

keys_push : (es : List (Key × Fact)) (e : Key × Fact) → keys_of (es ++ e ∷ []) ≡ keys_of es ++ e.0 ∷ []
keys_push [] e = refl
keys_push (f ∷ es) e = ap (λ l. f.0 ∷ l) (keys_push es e)

-- an answer that was kept
module _ (F : Facts) (k : Key) (f : Fact) (es : List (Key × Fact)) (found : lookup (is_key k) es ≡ Some f) where
  pub found_right : AreRight F es → f ≡ F k
  found_right right = right (k, f) (Contains-from_lookup (λ x y. (is_key_decides x y).0) k f es found)

  pub found_keys : keys_of es ≡ add_keys (keys_of es) (k ∷ [])
  found_keys = sym (kept_key (keys_of es) k (sym (is_some-lookup (is_key k) es) ∙ ap is_some found))

-- an answer that is kept now
module _ {S : Type 0} (F : Facts) (m : IndexMap Key Fact S) (k : Key) (f : Fact) (new : List (Key × Fact)) (absent : get is_key m k ≡ None)
    (is : new ≡ insert_entry is_key m.entries k f) where
  added : new ≡ m.entries ++ (k, f) ∷ []
  added = is ∙ insert_entry-new is_key m k f absent

  pub added_keys : keys_of new ≡ add_keys (keys_of m.entries) (k ∷ [])
  added_keys = ap keys_of added ∙ keys_push m.entries (k, f)
      ∙ sym (new_key (keys_of m.entries) k (sym (is_some-lookup (is_key k) m.entries) ∙ ap is_some absent))

  pub added_right : f ≡ F k → AreRight F m.entries → AreRight F new
  added_right answer right e c = elim (Contains-push_cases m.entries (k, f) e (subst (λ l. Contains l e) added c)) [
    | inl o ↦ right e o
    | inr s ↦ subst (λ (p : Key × Fact). p.1 ≡ F p.0) s answer
  ]
