-- Resources that are found by their targets.
use Rattle.std.proofs.Common.{◌≡◌, ◌∙◌, ◌<◌, ℕ, length, get_or, List, [], ◌∷◌, ◌||◌, Bool, true, false, cond, Option, Some, None, refl, sym, ap, map, bytes_eq, string_bytes, Bor}
use Rattle.std.specs.Prelude.{find, is_some, not, option_map, unwrap_or}
use Rattle.std.specs.List.{list_any}
use Rattle.std.specs.Option.{option_copied}
use Rattle.std.proofs.lemmas.List.Folds.{list_any_at}
use Rattle.gql_push.specs.Plans.{Change, change_of, changes_of, is_changed, is_gone, is_of, is_pushed, target_of}
use Rattle.gql_push.specs.Resources.{Entry, entries_of, entry_of}
use Rattle.gql_push.specs.declared.edits.Edit.{Edit}
use Rattle.gql_push.specs.declared.edits.Resource.{Resource}

-- the first that passes, among the values of a function
find-map : {A B : Type 0} (f : A → B) (p : B → Bool) (xs : List A) → find p (map f xs) ≡ option_map f (find (λ x. p (f x)) xs)
find-map f p [] = refl
find-map {A} {B} f p (x ∷ xs) = ap (λ (o : Option B). cond (p (f x)) (Some (f x)) o) (find-map f p xs) ∙ either (p (f x))
  where
    either : (b : Bool) → cond b (Some (f x)) (option_map f (find (λ y. p (f y)) xs)) ≡ option_map f (cond b (Some x) (find (λ y. p (f y)) xs))
    either true = refl
    either false = refl

-- whether one passes, among the values of a function
list_any-map : {A B : Type 0} (f : A → B) (p : B → Bool) (xs : List A) → list_any p (map f xs) ≡ list_any (λ x. p (f x)) xs
list_any-map f p [] = refl
list_any-map f p (x ∷ xs) = ap (λ b. p (f x) || b) (list_any-map f p xs)

some_or_rest : {A : Type 0} (x : A) (o : Option A) (c b : Bool) → is_some o ≡ c → is_some (cond b (Some x) o) ≡ b || c
some_or_rest x o c true is = refl
some_or_rest x o c false is = is

-- one is found where one passes
find_some : {A : Type 0} (p : A → Bool) (xs : List A) → is_some (find p xs) ≡ list_any p xs
find_some p [] = refl
find_some p (x ∷ xs) = some_or_rest x (find p xs) (list_any p xs) (p x) (find_some p xs)

some_copied : {A : Type 0} (o : Option (Bor A)) → is_some o ≡ is_some (option_copied o)
some_copied None = refl
some_copied (Some x) = refl

twice : (b : Bool) → b ≡ not (not b)
twice true = refl
twice false = refl

-- whether a resource is gone, from what is found
pub gone : (resources : List Resource) (before : Resource) (text : List ℕ) (o : Option (Bor Resource)) (b : Bool) → text ≡ string_bytes before.target → option_copied o ≡ find (λ r. bytes_eq (string_bytes r.target) text) resources
    → is_some o ≡ not b → b ≡ is_gone (entries_of resources) (entry_of before)
gone resources before text o b same is none =
    twice b
    ∙ ap not
    (sym none ∙ some_copied o ∙ ap is_some is ∙ ap (λ t. is_some (find (λ (r : Resource). bytes_eq (string_bytes r.target) t) resources)) same
    ∙ find_some (λ (r : Resource). bytes_eq (string_bytes r.target) (string_bytes before.target)) resources
    ∙ sym (list_any-map entry_of (is_of (string_bytes before.target)) resources))

-- whether a resource that is found has a sum
abbrev pub has_sum : List ℕ → Option Resource → Bool
has_sum s o = unwrap_or (option_map (λ (r : Resource). bytes_eq (string_bytes r.sum) s) o) false

abbrev entry_has_sum : List ℕ → Option Entry → Bool
entry_has_sum s o = unwrap_or (option_map (λ (e : Entry). bytes_eq e.sum s) o) false

same_test : (s : List ℕ) (o : Option Resource) → has_sum s o ≡ entry_has_sum s (option_map entry_of o)
same_test s None = refl
same_test s (Some r) = refl

-- whether a resource was pushed as it is, from what is found
pub pushed_as_found : (pushed : List Resource) (resource : Resource) (text : List ℕ) (o : Option Resource) → text ≡ string_bytes resource.target → o ≡ find (λ r. bytes_eq (string_bytes r.target) text) pushed
    → has_sum (string_bytes resource.sum) o ≡ is_pushed (entries_of pushed) (entry_of resource)
pushed_as_found pushed resource text o same is =
    same_test (string_bytes resource.sum) o
    ∙ ap (λ (found : Option Resource). entry_has_sum (string_bytes resource.sum) (option_map entry_of found))
    (is ∙ ap (λ t. find (λ (r : Resource). bytes_eq (string_bytes r.target) t) pushed) same)
    ∙ ap (entry_has_sum (string_bytes resource.sum)) (sym (find-map entry_of (is_of (string_bytes resource.target)) pushed))

-- a change of a target, at its place
pub changed_at : (rs : List Entry) (edits : List Edit) (i : ℕ) (m : Edit) (text target : List ℕ) (b : Bool) → i < length edits → m ≡ get_or edits i m → text ≡ target_of rs (change_of m) → b ≡ bytes_eq text target → b ≡ true
    → true ≡ is_changed rs (changes_of edits) target
changed_at rs edits i m text target b within is its same holds =
    sym
    (list_any-map change_of (λ (x : Change). bytes_eq (target_of rs x) target) edits
    ∙ list_any_at (λ (x : Edit). bytes_eq (target_of rs (change_of x)) target) edits i m within
    (ap (λ (x : Edit). bytes_eq (target_of rs (change_of x)) target) (sym is) ∙ ap (λ t. bytes_eq t target) (sym its) ∙ sym same ∙ holds))
