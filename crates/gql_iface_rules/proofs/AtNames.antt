-- Names with `@`, and the directives of these names.
use Rattle.std.proofs.Common.{◌≡◌, ℕ, List, [], ◌∷◌, Bool, Bor, Option, Some, None, true, false, cond, refl, arith, nat_eq}
use Rattle.std.specs.Prelude.{Contains}
use Rattle.std.specs.Option.{option_copied, MatchOption}
use Rattle.std.proofs.lemmas.Bool.Decides.{Decides-eqb}
use Rattle.gql_ast.specs.declared.fault.Fault.{Fault}
use Rattle.gql_faults.specs.Faults.{where_known}
use Rattle.gql_iface_rules.specs.S26DirectiveCycles.{at_sign, fault_at_name, fault_at_directive, without_sign}
use Rattle.gql_types.specs.declared.schema.Schema.{Schema}

behind_sign : (s : Schema) (c : ℕ) (name : List ℕ) (f : Fault) (b : Bool) → nat_eq c 64 ≡ b → Contains (where_known (cond b (Some name) None) (fault_at_directive s)) f
    → (m : List ℕ) × (c ∷ name ≡ at_sign m) × Contains (fault_at_directive s m) f
behind_sign s c name f true is h = let same : c ≡ 64 = (Decides-eqb c 64).0 is in (name, (λ k. same k ∷ name), h)
behind_sign s c name f false is h = absurd (omega (arith, h.1))

-- a fault at a name is one at the directive whose name has `@` there
pub fault_at_sign : (s : Schema) (n : List ℕ) (f : Fault) → Contains (fault_at_name s n) f → (m : List ℕ) × (n ≡ at_sign m) × Contains (fault_at_directive s m) f
fault_at_sign s [] f h = absurd (omega (arith, h.1))
fault_at_sign s (c ∷ name) f h = behind_sign s c name f (nat_eq c 64) refl h

no_sign : (c : ℕ) (name : List ℕ) (b : Bool) → nat_eq c 64 ≡ b → ((rest : List ℕ) → c ∷ name ≡ 64 ∷ rest → ⊥) → None ≡ cond b (Some name) None
no_sign c name true is h = let same : c ≡ 64 = (Decides-eqb c 64).0 is in absurd (h name (λ k. same k ∷ name))
no_sign c name false is h = refl

-- what is after `@`, as `strip_prefix` says it
pub behind : (name : List ℕ) (r : Option (Bor (List ℕ))) → MatchOption r ((rest : List ℕ) → name ≡ 64 ∷ rest → ⊥) (λ x. name ≡ 64 ∷ x.now) → option_copied r ≡ without_sign name
behind name (Some x) h = rw h refl
behind [] None h = refl
behind (c ∷ name) None h = no_sign c name (nat_eq c 64) refl h
