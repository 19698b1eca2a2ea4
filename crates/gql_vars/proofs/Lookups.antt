-- Look-ups of variables and of used names.
use Rattle.std.specs.Prelude.{◌≡◌, ◌<◌, ℕ, List, [], ◌∷◌, ◌++◌, ◌+◌, refl, bytes_eq, cond, is_some, length, map, take, Bool, true, false, Option, Some, None, option_map, ◌||◌, if◌then◌else◌}
use Rattle.std.specs.Option.{option_or}
use Rattle.std.proofs.Common.{ap, sym, ◌∙◌, subst, inl, inr, get_or, true≢false, Bor}
use Rattle.std.specs.Map.{update}
use Rattle.std.proofs.lemmas.Slice.Eq.{bytes_eq-Decides}
use Rattle.gql_facts.specs.ListMembers.{either}
use Rattle.std.proofs.lemmas.List.{take_more}
use Rattle.std.proofs.lemmas.List.Folds.{find-append, list_any-append}
use Rattle.gql_ast.specs.declared.executable.VariableDefinition.{VariableDefinition}
use Rattle.gql_vars.specs.declared.uses.VariableUse.{VariableUse}
use Rattle.gql_vars.specs.Lists.{is_used, or_this, use_of}
use Rattle.gql_vars.specs.Variables.{variable_named, variable_name}

pub is_there : {A B : Type 0} (f : A → B) (o : Option A) → is_some o ≡ is_some (option_map f o)
is_there f None = refl
is_there f (Some x) = refl

-- one variable more
pub named_more : (xs : List VariableDefinition) (i : ℕ) (x : VariableDefinition) (q : List ℕ) → i < length xs → get_or xs i x ≡ x
    → variable_named (take (i + 1) xs) q ≡ or_this (variable_named (take i xs) q) x q
named_more xs i x q within item =
    ap (λ l. variable_named l q) (take_more xs i x within ∙ ap (λ y. take i xs ++ y ∷ []) item)
    ∙ find-append (λ (v : VariableDefinition). bytes_eq q (variable_name v)) (take i xs) (x ∷ [])

-- one use more
map_append : {A B : Type 0} (f : A → B) (xs ys : List A) → map f (xs ++ ys) ≡ map f xs ++ map f ys
map_append f [] ys = refl
map_append f (x ∷ xs) ys = ap (λ l. f x ∷ l) (map_append f xs ys)

or_false : (b : Bool) → b || false ≡ b
or_false true = refl
or_false false = refl

pub used_more : (xs : List VariableUse) (i : ℕ) (x : VariableUse) (q : List ℕ) → i < length xs → get_or xs i x ≡ x
    → is_used (map use_of (take (i + 1) xs)) q ≡ (is_used (map use_of (take i xs)) q || bytes_eq q x.name.now)
used_more xs i x q within item =
    ap (λ l. is_used (map use_of l) q) (take_more xs i x within ∙ ap (λ y. take i xs ++ y ∷ []) item)
    ∙ ap (λ l. is_used l q) (map_append use_of (take i xs) (x ∷ []))
    ∙ list_any-append (λ u. bytes_eq q u.name) (map use_of (take i xs)) (use_of x ∷ [])
    ∙ ap (λ b. is_used (map use_of (take i xs)) q || b) (or_false (bytes_eq q x.name.now))

-- a variable is kept under its name, where none was there
or_none : {A : Type 0} (o : Option A) → option_or o None ≡ o
or_none None = refl
or_none (Some x) = refl

pub kept : (f g : List ℕ → Option (Bor VariableDefinition)) (bs : List ℕ) (x : Bor VariableDefinition) → ((q : List ℕ) → g q ≡ update bytes_eq f bs (Some x) q)
    → f bs ≡ None → bs ≡ x.now.name.text → (q : List ℕ)
    → option_map (λ v. v.now) (g q) ≡ or_this (option_map (λ v. v.now) (f q)) x.now q
kept f g bs x is none name q = elim (either (bytes_eq bs q)) [
  | inl t ↦ let same : bs ≡ q = (bytes_eq-Decides bs q).0 t in
      ap (option_map (λ v. v.now)) (is q ∙ ap (λ b. cond b (Some x) (f q)) t)
      ∙ sym (ap (λ o. or_this (option_map (λ v. v.now) o) x.now q) (subst (λ b. f b ≡ None) same none)
      ∙ ap (λ b. if b then Some x.now else None) ((bytes_eq-Decides q x.now.name.text).1 (sym same ∙ name)))
  | inr n ↦ ap (option_map (λ v. v.now)) (is q ∙ ap (λ b. cond b (Some x) (f q)) n)
      ∙ sym (ap (λ b. option_or (option_map (λ v. v.now) (f q)) (if b then Some x.now else None)) (apart n) ∙ or_none (option_map (λ v. v.now) (f q)))
] where
  apart : bytes_eq bs q ≡ false → bytes_eq q x.now.name.text ≡ false
  apart n = elim (either (bytes_eq q x.now.name.text)) [
    | inl t ↦ absurd (true≢false (sym ((bytes_eq-Decides bs q).1 (name ∙ sym ((bytes_eq-Decides q x.now.name.text).0 t))) ∙ n))
    | inr m ↦ m
  ]
