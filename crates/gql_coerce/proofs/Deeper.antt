-- With more levels the recursion reaches what it reached, or something where it reached nothing.
use Rattle.std.proofs.Common.{◌≡◌, ◌+◌, ◌⊎◌, ◌&&◌, true≢false, inl, inr, ℕ, zero, suc, List, [], ◌∷◌, Bool, true, false, not, if◌then◌else◌, map, Option, Some, None, option_map, refl, ap, sym, subst, ◌∙◌, arith}
use Rattle.std.proofs.Math.Nat.{add-suc, add_comm}
use Rattle.gql_ast.specs.declared.literal.Literal.{Literal}
use Rattle.gql_ast.specs.declared.type_system.InputValueDefinition.{InputValueDefinition}
use Rattle.gql_types.specs.Written.{Written, written}
use Rattle.gql_types.specs.declared.schema.Schema.{Schema}
use Rattle.serde_json.specs.Data as json
use Rattle.serde_json.specs.Data.{Data, Members}
use Rattle.serde_json.specs.View.{items_of}
use Rattle.gql_coerce.specs.Coercion.{coerced, at_level, Expected, nothing, anything, this, Entry, Entries, are, unknown, no_object, once, item_at, items_from, array_of, list_by, or_null, default_of, or_default, if_given, entry_at, member_at, object_at, put_all, under, items_expected, entries_for, is_list_expected}
use Rattle.gql_coerce.specs.Comes.{Outcome, reached, Eventually}
use Rattle.gql_coerce.specs.Comes as comes
use Rattle.gql_coerce.specs.Frames.{Inner}
use Rattle.gql_coerce.specs.Inputs.{Input, absent, given, null, single, list, object, all_inputs, all_fields, may_be_list, literal}
use Rattle.gql_coerce.specs.Outcomes.{Reached, value, refused, too_deep, after, within, all, some}
use Rattle.gql_coerce.specs.Scalars.{wrong_kind}
use Rattle.gql_coerce.specs.declared.refusal.Segment.{Segment}
use Rattle.gql_coerce.specs.declared.refusal.Segment.TheVariants.{Index, Key}
use Rattle.gql_coerce.proofs.Reading.{level, no_level}

-- nothing was reached, or the same
abbrev pub Upto : {A : Type 0} → Reached A → Reached A → Type 0
Upto a b = (a ≡ too_deep) ⊎ (a ≡ b)

same : {A : Type 0} (a : Reached A) → Upto a a
same a = inr refl

-- a function that reaches nothing of nothing
by_strict : {A B : Type 0} (f : Reached A → Reached B) → f too_deep ≡ too_deep → (a b : Reached A) → Upto a b → Upto (f a) (f b)
by_strict f strict a b (inl e) = inl (ap f e ∙ strict)
by_strict f strict a b (inr e) = inr (ap f e)

module _ {A B : Type 0} (f g : A → Reached B) (each : (x : A) → Upto (f x) (g x)) where
  after_both : (a : Reached A) → Upto (after a f) (after a g)
  after_both (value x) = each x
  after_both (refused r path) = inr refl
  after_both too_deep = inl refl

  after_upto : (a b : Reached A) → Upto a b → Upto (after a f) (after b g)
  after_upto a b (inl e) = inl (ap (λ o. after o f) e)
  after_upto a b (inr e) = subst (λ o. Upto (after a f) (after o g)) e (after_both a)

within_upto : {A : Type 0} (g : Segment) (a b : Reached A) → Upto a b → Upto (within g a) (within g b)
within_upto g a b is = by_strict (within g) refl a b is

some_upto : {A : Type 0} (a b : Reached A) → Upto a b → Upto (some a) (some b)
some_upto a b is = by_strict some refl a b is

once_upto : (e : Option Written) (a b : Reached (Option Data)) → Upto a b → Upto (once e a) (once e b)
once_upto None a b is = is
once_upto (Some t) a b is = by_strict (once (Some t)) refl a b is

unless_upto : {A : Type 0} (b : Bool) (o x y : Reached A) → Upto x y → Upto (if b then o else x) (if b then o else y)
unless_upto true o x y is = inr refl
unless_upto false o x y is = is

module _ (f g : Inner) (each : (x : Input) (e : Option Written) → Upto (f x e) (g x e)) where
  item_upto : (e : Option Written) (x : Input) → Upto (item_at f e x) (item_at g e x)
  item_upto e x = unless_upto (is_list_expected e && not (may_be_list x)) wrong_kind (after (f x e) (or_null e)) (after (g x e) (or_null e))
      (after_upto (or_null e) (or_null e) (λ v. inr refl) (f x e) (g x e) (each x e))

  items_upto : (e : Option Written) (n : ℕ) (xs : List Input) → Upto (all (items_from (item_at f e) n xs)) (all (items_from (item_at g e) n xs))
  items_upto e n [] = inr refl
  items_upto e n (x ∷ xs) = after_upto (λ d. after (all (items_from (item_at f e) (suc n) xs)) (λ ds. value (d ∷ ds))) (λ d. after (all (items_from (item_at g e) (suc n) xs)) (λ ds. value (d ∷ ds)))
      (λ d. after_upto (λ ds. value (d ∷ ds)) (λ ds. value (d ∷ ds)) (λ ds. inr refl) (all (items_from (item_at f e) (suc n) xs)) (all (items_from (item_at g e) (suc n) xs)) (items_upto e (suc n) xs))
      (within (Index n) (item_at f e x)) (within (Index n) (item_at g e x)) (within_upto (Index n) (item_at f e x) (item_at g e x) (item_upto e x))

  array_upto : (e : Option Written) (xs : List Input) → Upto (array_of (item_at f e) xs) (array_of (item_at g e) xs)
  array_upto e xs = after_upto (λ ds. value (json.array (items_of ds))) (λ ds. value (json.array (items_of ds))) (λ ds. inr refl)
      (all (items_from (item_at f e) 0 xs)) (all (items_from (item_at g e) 0 xs)) (items_upto e 0 xs)

  list_upto : (xs : List Input) (e : Expected) → Upto (list_by f xs e) (list_by g xs e)
  list_upto xs nothing = inr refl
  list_upto xs anything = array_upto None xs
  list_upto xs (this t) = array_upto (Some t) xs

  default_upto : (n : List ℕ) (t : Written) (d : Option Literal) → Upto (default_of f n t d) (default_of g n t d)
  default_upto n t None = inr refl
  default_upto n t (Some x) = within_upto (Key n) (f (literal json.null x) (Some t)) (g (literal json.null x) (Some t)) (each (literal json.null x) (Some t))

  or_default_upto : (n : List ℕ) (d : Option InputValueDefinition) (v : Option Data) → Upto (or_default f n d v) (or_default g n d v)
  or_default_upto n None v = inr refl
  or_default_upto n (Some d) (Some v) = inr refl
  or_default_upto n (Some d) None = default_upto n (written d.of_type) d.default

  given_upto : (n : List ℕ) (d : Option InputValueDefinition) (x : Option Input) → Upto (if_given f n d x) (if_given g n d x)
  given_upto n d None = inr refl
  given_upto n d (Some x) = within_upto (Key n) (f x (option_map (λ (v : InputValueDefinition). written v.of_type) d)) (g x (option_map (λ (v : InputValueDefinition). written v.of_type) d))
      (each x (option_map (λ (v : InputValueDefinition). written v.of_type) d))

  entry_upto : (e : Entry) → Upto (entry_at f e) (entry_at g e)
  entry_upto e = after_upto (or_default f e.name e.definition) (or_default g e.name e.definition) (or_default_upto e.name e.definition)
      (if_given f e.name e.definition e.given) (if_given g e.name e.definition e.given) (given_upto e.name e.definition e.given)

  member_upto : (e : Entry) → Upto (member_at f e) (member_at g e)
  member_upto e = after_upto (λ v. value (under e.name v)) (λ v. value (under e.name v)) (λ v. inr refl) (entry_at f e) (entry_at g e) (entry_upto e)

  members_upto : (es : List Entry) → Upto (all (map (member_at f) es)) (all (map (member_at g) es))
  members_upto [] = inr refl
  members_upto (e ∷ es) = after_upto (λ m. after (all (map (member_at f) es)) (λ ms. value (m ∷ ms))) (λ m. after (all (map (member_at g) es)) (λ ms. value (m ∷ ms)))
      (λ m. after_upto (λ ms. value (m ∷ ms)) (λ ms. value (m ∷ ms)) (λ ms. inr refl) (all (map (member_at f) es)) (all (map (member_at g) es)) (members_upto es))
      (member_at f e) (member_at g e) (member_upto e)

  object_upto : (es : Entries) → Upto (object_at f es) (object_at g es)
  object_upto (are es) = after_upto (λ more. value (json.object (put_all more json.no_members))) (λ more. value (json.object (put_all more json.no_members))) (λ more. inr refl)
      (all (map (member_at f) es)) (all (map (member_at g) es)) (members_upto es)
  object_upto (unknown n) = inr refl
  object_upto no_object = inr refl

  level_upto : (s : Schema) (x : Input) (e : Option Written) → Upto (at_level f s x e) (at_level g s x e)
  level_upto s absent e = inr refl
  level_upto s (given d) e = inr refl
  level_upto s null e = inr refl
  level_upto s (single x) e = inr refl
  level_upto s (list xs) e = some_upto (list_by f (all_inputs xs) (items_expected s e)) (list_by g (all_inputs xs) (items_expected s e)) (list_upto (all_inputs xs) (items_expected s e))
  level_upto s (object fs) e = once_upto e (some (object_at f (entries_for s (all_fields fs) e))) (some (object_at g (entries_for s (all_fields fs) e)))
      (some_upto (object_at f (entries_for s (all_fields fs) e)) (object_at g (entries_for s (all_fields fs) e)) (object_upto (entries_for s (all_fields fs) e)))

module _ (s : Schema) where
  -- one level more
  pub deeper : (n : ℕ) (x : Input) (e : Option Written) → Upto (coerced n s x e) (coerced (suc n) s x e)
  deeper zero x e = inl (no_level s x e)
  deeper (suc n) x e = subst (λ o. Upto o (coerced (suc (suc n)) s x e)) (sym (level n s x e))
      (subst (λ o. Upto (at_level (coerced n s) s x e) o) (sym (level (suc n) s x e)) (level_upto (coerced n s) (coerced (suc n) s) (deeper n) s x e))

-- ---- outcomes

-- an outcome that is reached, or another
abbrev pub outcome_or : {A : Type 0} → Outcome A → Reached A → Outcome A
outcome_or o (value x) = comes.value x
outcome_or o (refused r path) = comes.refused r path
outcome_or o too_deep = o

is_outcome : {A : Type 0} (o p : Outcome A) → outcome_or o (reached p) ≡ p
is_outcome o (comes.value x) = refl
is_outcome o (comes.refused r path) = refl

-- outcomes that are reached alike are one
pub one_reached : {A : Type 0} (o p : Outcome A) → reached o ≡ reached p → o ≡ p
one_reached o p is = sym (is_outcome o o) ∙ ap (outcome_or o) is ∙ is_outcome o p

-- nothing was reached
abbrev pub is_too_deep : {A : Type 0} → Reached A → Bool
is_too_deep (value x) = false
is_too_deep (refused r path) = false
is_too_deep too_deep = true

not_too_deep : {A : Type 0} (o : Outcome A) → is_too_deep (reached o) ≡ false
not_too_deep (comes.value x) = refl
not_too_deep (comes.refused r path) = refl

kept_by : {A : Type 0} (o : Outcome A) (a b : Reached A) → Upto a b → a ≡ reached o → b ≡ reached o
kept_by o a b (inl e) is = absurd (true≢false (ap is_too_deep (sym e ∙ is) ∙ not_too_deep o))
kept_by o a b (inr e) is = sym e ∙ is

no_more : (k : ℕ) → k + 0 ≡ k
no_more k = omega arith

-- what is reached with some number of levels is reached with more
pub stays : (s : Schema) (x : Input) (e : Option Written) (o : Outcome (Option Data)) (k : ℕ) → coerced k s x e ≡ reached o → (n : ℕ) → coerced (k + n) s x e ≡ reached o
stays s x e o k is zero = ap (λ m. coerced m s x e) (no_more k) ∙ is
stays s x e o k is (suc n) = ap (λ m. coerced m s x e) (add-suc k n)
    ∙ kept_by o (coerced (k + n) s x e) (coerced (suc (k + n)) s x e) (deeper s (k + n) x e) (stays s x e o k is n)

-- two that hold from some number of levels on are one
pub one_in_time : {A : Type 0} (f : ℕ → Reached A) (o p : Outcome A) → Eventually (λ n. f n ≡ reached o) → Eventually (λ n. f n ≡ reached p) → o ≡ p
one_in_time f o p a b = one_reached o p (sym (a.1 b.0) ∙ ap f (add_comm a.0 b.0) ∙ b.1 a.0)
