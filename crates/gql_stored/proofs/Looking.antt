-- Lists and members of values, with their capacity and as data.
use Rattle.std.proofs.Common.{◌≡◌, ℕ, List, [], ◌∷◌, Bool, true, false, cond, Option, Some, None, is_some, option_map, option_and_then, String, Vec, Bor, Global, codes, string_bytes, bytes_eq, refl, ap, sym, subst, ◌∙◌}
use Rattle.std.proofs.lemmas.Map.Text.{is_eq-slice_cmp}
use Rattle.std.proofs.lemmas.Slice.Eq.{bytes_eq-Decides}
use Rattle.std.specs.BTreeMap.{is_at}
use Rattle.std.specs.Cmp.Lexicographic.{slice_cmp}
use Rattle.std.specs.Map.{lookup, set_value}
use Rattle.std.specs.Ordering.{nat_cmp}
use Rattle.std.specs.Option.{MatchOption}
use Rattle.serde_json.specs.Data.{Data, Members, member, object}
use Rattle.serde_json.specs.Find.{as_array, get}
use Rattle.serde_json.specs.View.{view, view_step, items_view, members_view}
use Rattle.serde_json.specs.declared.value.Value.{Value, fold_out-Value, out-Value, map-Value}
use Rattle.serde_json.specs.declared.value.Value.TheOpen.{Value-F}
use Rattle.serde_json.proofs.Views.{view-lookup}
use Rattle.gql_stored.specs.Effects.{changed, with_changed, list_named}
use Rattle.gql_stored.specs.Changes.{Entries, list_at, list_in, members_at, members_in, member_of, list_of}

-- the test for the key of this name
abbrev pub is_name : List ℕ → String Global → Bool
is_name k = is_at (λ q. slice_cmp nat_cmp k (string_bytes q))

pub view_out : (v : Value) → view v ≡ view_step (map-Value Value Data view (out-Value v))
view_out v = fold_out-Value Data view_step v

-- ---- members

pub member_as_data : (k : List ℕ) (v : Value) → get k (view v) ≡ option_map view (member_of k v)
member_as_data k v = ap (get k) (view_out v) ∙ by (out-Value v) where
  by : (x : Value-F Value) → get k (view_step (map-Value Value Data view x)) ≡ option_map view (option_and_then (λ (m : Entries). lookup (is_name k) m.entries) (members_at x))
  by Value-F.Null = refl
  by (Value-F.Bool b) = refl
  by (Value-F.Number x) = refl
  by (Value-F.String s) = refl
  by (Value-F.Array v) = refl
  by (Value-F.Object m) = sym (view-lookup k m.entries)

pub list_as_data : (v : Value) → as_array (view v) ≡ option_map (λ (l : Vec Value Global). items_view l.items) (list_in v)
list_as_data v = ap as_array (view_out v) ∙ by (out-Value v) where
  by : (x : Value-F Value) → as_array (view_step (map-Value Value Data view x)) ≡ option_map (λ (l : Vec Value Global). items_view l.items) (list_at x)
  by Value-F.Null = refl
  by (Value-F.Bool b) = refl
  by (Value-F.Number x) = refl
  by (Value-F.String s) = refl
  by (Value-F.Array v) = refl
  by (Value-F.Object m) = refl

-- an object, or another value, in which no member is changed
pub object_as_data : (v : Value) → MatchOption (members_in v) ((k : List ℕ) (f : Data → Data) → with_changed k f (view v) ≡ view v) (λ m. view v ≡ object (members_view m.entries))
object_as_data v = subst (λ (d : Data). MatchOption (members_in v) ((k : List ℕ) (f : Data → Data) → with_changed k f d ≡ d) (λ m. d ≡ object (members_view m.entries))) (sym (view_out v)) (by (out-Value v)) where
  by : (x : Value-F Value) → MatchOption (members_at x) ((k : List ℕ) (f : Data → Data) → with_changed k f (view_step (map-Value Value Data view x)) ≡ view_step (map-Value Value Data view x))
      (λ m. view_step (map-Value Value Data view x) ≡ object (members_view m.entries))
  by Value-F.Null = λ k f. refl
  by (Value-F.Bool b) = λ k f. refl
  by (Value-F.Number x) = λ k f. refl
  by (Value-F.String s) = λ k f. refl
  by (Value-F.Array v) = λ k f. refl
  by (Value-F.Object m) = refl

-- ---- lists

then_as_data : {A B : Type 0} {C D : Type 0} (f : A → B) (g : C → D) (h : A → Option C) (j : B → Option D) → ((x : A) → j (f x) ≡ option_map g (h x))
    → (o : Option A) → option_and_then j (option_map f o) ≡ option_map g (option_and_then h o)
then_as_data f g h j each None = refl
then_as_data f g h j each (Some x) = each x

pub list_named_as_data : (to : List ℕ) (v : Value) → list_named to (view v) ≡ option_map (λ (l : Vec Value Global). items_view l.items) (list_of to v)
list_named_as_data to v =
    ap (λ (o : Option Data). option_and_then as_array (option_and_then (get to) o)) (member_as_data (codes "query") v)
    ∙ ap (option_and_then as_array) (then_as_data view view (member_of to) (get to) (member_as_data to) (member_of (codes "query") v))
    ∙ then_as_data view (λ (l : Vec Value Global). items_view l.items) list_in as_array list_as_data (option_and_then (member_of to) (member_of (codes "query") v))

-- ---- entries with another value for a key

set_here : (b : Bool) (k : List ℕ) (f : Data → Data) (e : String Global × Value) (es : List (String Global × Value)) (v w : Value)
    → cond b (Some e.1) (lookup (is_name k) es) ≡ Some v → view w ≡ f (view v)
    → (lookup (is_name k) es ≡ Some v → members_view (set_value (is_name k) es w) ≡ changed k f (members_view es))
    → members_view (cond b ((e.0, w) ∷ es) (e ∷ set_value (is_name k) es w)) ≡ cond b (member (string_bytes e.0) (f (view e.1)) (members_view es)) (member (string_bytes e.0) (view e.1) (changed k f (members_view es)))
set_here true k f e es v w found is later =
    let same : e.1 ≡ v = cc in
    ap (λ d. member (string_bytes e.0) d (members_view es)) (is ∙ ap (λ x. f (view x)) (sym same))
set_here false k f e es v w found is later = ap (member (string_bytes e.0) (view e.1)) (later found)

pub set_as_data : (k : List ℕ) (f : Data → Data) (es : List (String Global × Value)) (v w : Value) → lookup (is_name k) es ≡ Some v → view w ≡ f (view v)
    → members_view (set_value (is_name k) es w) ≡ changed k f (members_view es)
set_as_data k f [] v w found is = refl
set_as_data k f (e ∷ es) v w found is = subst
    (λ (b : Bool). members_view (set_value (is_name k) (e ∷ es) w) ≡ cond b (member (string_bytes e.0) (f (view e.1)) (members_view es)) (member (string_bytes e.0) (view e.1) (changed k f (members_view es))))
    (is_eq-slice_cmp k (string_bytes e.0)) (set_here (is_name k e.0) k f e es v w found is (λ h. set_as_data k f es v w h is))

absent_here : (b : Bool) (x : Value) (rest : Option Value) (l : List ℕ) (d : Data) (here ms ns : Members) → cond b (Some x) rest ≡ None → (rest ≡ None → ms ≡ ns)
    → cond b here (member l d ms) ≡ member l d ns
absent_here true x rest l d here ms ns none later = cc
absent_here false x rest l d here ms ns none later = ap (member l d) (later none)

pub absent_as_data : (k : List ℕ) (f : Data → Data) (es : List (String Global × Value)) → lookup (is_name k) es ≡ None → changed k f (members_view es) ≡ members_view es
absent_as_data k f [] none = refl
absent_as_data k f (e ∷ es) none = absent_here (bytes_eq k (string_bytes e.0)) e.1 (lookup (is_name k) es) (string_bytes e.0) (view e.1) (member (string_bytes e.0) (f (view e.1)) (members_view es)) (changed k f (members_view es)) (members_view es)
    (subst (λ (b : Bool). cond b (Some e.1) (lookup (is_name k) es) ≡ None) (is_eq-slice_cmp k (string_bytes e.0)) none) (absent_as_data k f es)

set_found_at : (b : Bool) (test : String Global → Bool) (e : String Global × Value) (es : List (String Global × Value)) (v w : Value) → test e.0 ≡ b
    → cond b (Some e.1) (lookup test es) ≡ Some v → (lookup test es ≡ Some v → lookup test (set_value test es w) ≡ Some w)
    → lookup test (cond b ((e.0, w) ∷ es) (e ∷ set_value test es w)) ≡ Some w
set_found_at true test e es v w is found later = ap (λ (c : Bool). cond c (Some w) (lookup test es)) is
set_found_at false test e es v w is found later = ap (λ (c : Bool). cond c (Some e.1) (lookup test (set_value test es w))) is ∙ later found

-- the value that was set is found
pub set_found : (test : String Global → Bool) (es : List (String Global × Value)) (v w : Value) → lookup test es ≡ Some v → lookup test (set_value test es w) ≡ Some w
set_found test [] v w found = absurd (let none : ⊥ = cc in none)
set_found test (e ∷ es) v w found = set_found_at (test e.0) test e es v w refl found (set_found test es v w)

set_others_at : (b : Bool) (test other : String Global → Bool) (e : String Global × Value) (es : List (String Global × Value)) (w : Value) → (b ≡ true → other e.0 ≡ false)
    → lookup other (set_value test es w) ≡ lookup other es
    → lookup other (cond b ((e.0, w) ∷ es) (e ∷ set_value test es w)) ≡ lookup other (e ∷ es)
set_others_at true test other e es w apart later =
    ap (λ (c : Bool). cond c (Some w) (lookup other es)) (apart refl) ∙ sym (ap (λ (c : Bool). cond c (Some e.1) (lookup other es)) (apart refl))
set_others_at false test other e es w apart later = ap (λ (r : Option Value). cond (other e.0) (Some e.1) r) later

-- other keys keep their values
pub set_others : (test other : String Global → Bool) → ((q : String Global) → test q ≡ true → other q ≡ false) → (es : List (String Global × Value)) (w : Value)
    → lookup other (set_value test es w) ≡ lookup other es
set_others test other apart [] w = refl
set_others test other apart (e ∷ es) w = set_others_at (test e.0) test other e es w (apart e.0) (set_others test other apart es w)

is_named : (k : List ℕ) (x : String Global) → is_name k x ≡ true → k ≡ string_bytes x
is_named k x h = (bytes_eq-Decides k (string_bytes x)).0 (sym (is_eq-slice_cmp k (string_bytes x)) ∙ h)

-- no key has two names
pub names_apart : (k q : List ℕ) → (k ≡ q → ⊥) → (x : String Global) → is_name k x ≡ true → is_name q x ≡ false
names_apart k q differ x h = by (is_name q x) refl where
  by : (b : Bool) → is_name q x ≡ b → b ≡ false
  by true e = absurd (differ (is_named k x h ∙ sym (is_named q x e)))
  by false e = refl

-- a list is there, with its capacity and as data
pub list_is_there : (r : Option (Bor (Vec Value Global))) (to : List ℕ) (v : Value) → option_map (λ l. l.now) r ≡ list_of to v → is_some r ≡ is_some (list_named to (view v))
list_is_there r to v found = by r ∙ ap is_some (ap (option_map (λ (l : Vec Value Global). items_view l.items)) found ∙ sym (list_named_as_data to v)) where
  by : (r : Option (Bor (Vec Value Global))) → is_some r ≡ is_some (option_map (λ (l : Vec Value Global). items_view l.items) (option_map (λ (l : Bor (Vec Value Global)). l.now) r))
  by None = refl
  by (Some l) = refl
