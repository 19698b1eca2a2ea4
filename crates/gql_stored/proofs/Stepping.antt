-- Data before and after a change to one of their lists.
use Rattle.std.proofs.Common.{◌≡◌, ◌+◌, ◌-◌, ◌≤◌, inl, inr, ℕ, List, Bool, true, false, cond, Option, Some, None, option_map, option_and_then, Vec, vec_len, vec_capacity, Global, IfSome, codes, bytes_eq, true≢false, refl, ap, sym, subst, ◌∙◌, arith}
use Rattle.std.proofs.lemmas.Slice.Eq.{bytes_eq-Decides}
use Rattle.std.specs.BTreeMap.{get_by_text}
use Rattle.std.specs.Map.{lookup, set_value}
use Rattle.std.specs.Option.{MatchOption}
use Rattle.serde_json.specs.Data.{Data, null, boolean, number, string, array, object, Items, Members, no_members, member}
use Rattle.serde_json.specs.Events.{items_len}
use Rattle.serde_json.specs.Find.{as_array, get}
use Rattle.serde_json.specs.View.{view, members_view}
use Rattle.serde_json.specs.declared.value.Value.{Value}
use Rattle.gql_stored.specs.Effects.{changed, with_changed, list_named}
use Rattle.gql_stored.specs.Changes.{Entries, list_in, members_in, member_of, HasRoom, IfMember, IfList, Takes, LeavesRoom, change_of, IsChanged, AreChangedAt, IsChangedAt}
use Rattle.gql_stored.specs.declared.change.Change.{Change}
use Rattle.gql_stored.specs.declared.change.Change.TheVariants as change
use Rattle.gql_stored.proofs.Looking.{is_name, member_as_data, object_as_data, set_as_data, absent_as_data, set_found, set_others, names_apart}

-- ---- the member that is changed

entries_changed : (k : List ℕ) (holds : Value → Value → Type 0) (m n : Entries) (p : Option Value) → get_by_text m k ≡ p
    → MatchOption p (n.entries ≡ m.entries) (λ v. (w : Value) × holds v w × (n.entries ≡ set_value (is_name k) m.entries w))
    → MatchOption p (get_by_text n k ≡ None) (λ v. (w : Value) × holds v w × (get_by_text n k ≡ Some w))
entries_changed k holds m n None found same = ap (lookup (is_name k)) same ∙ found
entries_changed k holds m n (Some v) found (w, r, is) = (w, r, ap (lookup (is_name k)) is ∙ set_found (is_name k) m.entries v w found)

pub member_changed : (k : List ℕ) (holds : Value → Value → Type 0) (old new : Value) → IsChangedAt k holds old new
    → MatchOption (member_of k old) (member_of k new ≡ None) (λ v. (w : Value) × holds v w × (member_of k new ≡ Some w))
member_changed k holds old new h = by (members_in old) refl h where
  by : (o : Option Entries) → members_in old ≡ o → MatchOption o (new ≡ old) (λ m. (n : Entries) × AreChangedAt k holds m n × (members_in new ≡ Some n))
      → MatchOption (option_and_then (λ (m : Entries). get_by_text m k) o) (member_of k new ≡ None) (λ v. (w : Value) × holds v w × (member_of k new ≡ Some w))
  by None is same = ap (member_of k) same ∙ ap (option_and_then (λ (m : Entries). get_by_text m k)) is
  by (Some m) is (n, c, new_is) = subst
      (λ (o : Option Entries). MatchOption (get_by_text m k) (option_and_then (λ (m : Entries). get_by_text m k) o ≡ None) (λ v. (w : Value) × holds v w × (option_and_then (λ (m : Entries). get_by_text m k) o ≡ Some w)))
      (sym new_is) (entries_changed k holds m n (get_by_text m k) refl c)

entries_kept : (k q : List ℕ) → (k ≡ q → ⊥) → (holds : Value → Value → Type 0) (m n : Entries) (p : Option Value)
    → MatchOption p (n.entries ≡ m.entries) (λ v. (w : Value) × holds v w × (n.entries ≡ set_value (is_name k) m.entries w))
    → get_by_text n q ≡ get_by_text m q
entries_kept k q differ holds m n None same = ap (lookup (is_name q)) same
entries_kept k q differ holds m n (Some v) (w, r, is) = ap (lookup (is_name q)) is ∙ set_others (is_name k) (is_name q) (names_apart k q differ) m.entries w

-- other members stay
pub member_kept : (k q : List ℕ) → (k ≡ q → ⊥) → (holds : Value → Value → Type 0) (old new : Value) → IsChangedAt k holds old new → member_of q new ≡ member_of q old
member_kept k q differ holds old new h = by (members_in old) refl h where
  by : (o : Option Entries) → members_in old ≡ o → MatchOption o (new ≡ old) (λ m. (n : Entries) × AreChangedAt k holds m n × (members_in new ≡ Some n))
      → member_of q new ≡ option_and_then (λ (m : Entries). get_by_text m q) o
  by None is same = ap (member_of q) same ∙ ap (option_and_then (λ (m : Entries). get_by_text m q)) is
  by (Some m) is (n, c, new_is) = ap (option_and_then (λ (m : Entries). get_by_text m q)) new_is ∙ entries_kept k q differ holds m n (get_by_text m k) c

-- ---- the data

entries_as_data : (k : List ℕ) (holds : Value → Value → Type 0) (f : Data → Data) → ((v w : Value) → holds v w → view w ≡ f (view v)) → (m n : Entries) (p : Option Value) → get_by_text m k ≡ p
    → MatchOption p (n.entries ≡ m.entries) (λ v. (w : Value) × holds v w × (n.entries ≡ set_value (is_name k) m.entries w))
    → members_view n.entries ≡ changed k f (members_view m.entries)
entries_as_data k holds f each m n None found same = ap members_view same ∙ sym (absent_as_data k f m.entries found)
entries_as_data k holds f each m n (Some v) found (w, r, is) = ap members_view is ∙ set_as_data k f m.entries v w found (each v w r)

object_is : (v : Value) (m : Entries) → members_in v ≡ Some m → view v ≡ object (members_view m.entries)
object_is v m is = subst (λ (o : Option Entries). MatchOption o ((k : List ℕ) (f : Data → Data) → with_changed k f (view v) ≡ view v) (λ m. view v ≡ object (members_view m.entries))) is (object_as_data v)

pub changed_as_data : (k : List ℕ) (holds : Value → Value → Type 0) (f : Data → Data) → ((v w : Value) → holds v w → view w ≡ f (view v)) → (old new : Value) → IsChangedAt k holds old new
    → view new ≡ with_changed k f (view old)
changed_as_data k holds f each old new h = by (members_in old) h (object_as_data old) where
  by : (o : Option Entries) → MatchOption o (new ≡ old) (λ m. (n : Entries) × AreChangedAt k holds m n × (members_in new ≡ Some n))
      → MatchOption o ((k : List ℕ) (f : Data → Data) → with_changed k f (view old) ≡ view old) (λ m. view old ≡ object (members_view m.entries)) → view new ≡ with_changed k f (view old)
  by None same kept = ap view same ∙ sym (kept k f)
  by (Some m) (n, c, new_is) old_is = object_is new n new_is ∙ ap object (entries_as_data k holds f each m n (get_by_text m k) refl c) ∙ ap (with_changed k f) (sym old_is)

pub list_as_changed : (to : List ℕ) (c : Change) (old new : Value) → IsChangedAt (codes "query") (IsChangedAt to (IsChanged c)) old new
    → view new ≡ with_changed (codes "query") (with_changed to (change_of c)) (view old)
list_as_changed to c old new h = changed_as_data (codes "query") (IsChangedAt to (IsChanged c)) (with_changed to (change_of c))
    (λ v w r. changed_as_data to (IsChanged c) (change_of c) (λ a b s. s.0) v w r) old new h

-- nothing is changed
none_changed : (b : Bool) (l : List ℕ) (d e : Data) (ms ns : Members) → e ≡ d → ns ≡ ms → cond b (member l e ms) (member l d ns) ≡ member l d ms
none_changed true l d e ms ns is later = ap (λ x. member l x ms) is
none_changed false l d e ms ns is later = ap (member l d) later

members_same : (k : List ℕ) (f : Data → Data) → ((d : Data) → f d ≡ d) → (ms : Members) → changed k f ms ≡ ms
members_same k f each no_members = refl
members_same k f each (member l d ms) = none_changed (bytes_eq k l) l d (f d) ms (changed k f ms) (each d) (members_same k f each ms)

pub same : (k : List ℕ) (f : Data → Data) → ((d : Data) → f d ≡ d) → (d : Data) → with_changed k f d ≡ d
same k f each null = refl
same k f each (boolean b) = refl
same k f each (number n) = refl
same k f each (string s) = refl
same k f each (array ds) = refl
same k f each (object ms) = ap object (members_same k f each ms)

-- a list that moves stays the same list
pub moved_as_data : (to : List ℕ) (b : Vec Value Global) (old new : Value) → IsChangedAt (codes "query") (IsChangedAt to (IsChanged (change.Move b))) old new → view new ≡ view old
moved_as_data to b old new h = list_as_changed to (change.Move b) old new h
    ∙ same (codes "query") (with_changed to (λ d. d)) (same to (λ d. d) (λ d. refl)) (view old)

-- ---- room

pub weaker : {A : Type 0} (o : Option A) (P Q : A → Type 0) → ((x : A) → P x → Q x) → IfSome o P → IfSome o Q
weaker None P Q each h = tt
weaker (Some x) P Q each h = each x h

if_member : (k : List ℕ) (holds : Value → Value → Type 0) (P Q : Value → Type 0) → ((v w : Value) → holds v w → P v → Q w)
    → (old new : Value) → IsChangedAt k holds old new → IfMember k P old → IfMember k Q new
if_member k holds P Q each old new h p = by (member_of k old) (member_changed k holds old new h) p where
  by : (o : Option Value) → MatchOption o (member_of k new ≡ None) (λ v. (w : Value) × holds v w × (member_of k new ≡ Some w)) → IfSome o P → IfMember k Q new
  by None none p = subst (λ (o : Option Value). IfSome o Q) (sym none) tt
  by (Some v) (w, r, is) p = subst (λ (o : Option Value). IfSome o Q) (sym is) (each v w r p)

pub this_list : (c : Change) (to : List ℕ) (n : ℕ) (P : Value → Type 0) → ((v : Value) → P v → LeavesRoom c n v)
    → (old new : Value) → IsChangedAt (codes "query") (IsChangedAt to (IsChanged c)) old new → IfList to P old → IfList to (HasRoom n) new
this_list c to n P leaves = if_member (codes "query") (IsChangedAt to (IsChanged c)) (IfMember to P) (IfMember to (HasRoom n))
    (if_member to (IsChanged c) P (HasRoom n) (λ v w r p. r.1 n (leaves v p)))

pub other_list : (c : Change) (to q : List ℕ) → (to ≡ q → ⊥) → (P : Value → Type 0)
    → (old new : Value) → IsChangedAt (codes "query") (IsChangedAt to (IsChanged c)) old new → IfList q P old → IfList q P new
other_list c to q differ P = if_member (codes "query") (IsChangedAt to (IsChanged c)) (IfMember q P) (IfMember q P)
    (λ v w r p. subst (λ (o : Option Value). IfSome o P) (sym (member_kept to q differ (IsChanged c) v w r)) p)

less_room : (n m : ℕ) → n ≤ m → (v : Value) → HasRoom m v → HasRoom n v
less_room n m le v h = weaker (list_in v) (λ l. m ≤ vec_capacity l - vec_len l) (λ l. n ≤ vec_capacity l - vec_len l) (λ l fits. omega (arith, le, fits)) h

pub less_in_list : (n m : ℕ) → n ≤ m → (to : List ℕ) (v : Value) → IfList to (HasRoom m) v → IfList to (HasRoom n) v
less_in_list n m le to v h = weaker (member_of (codes "query") v) (IfMember to (HasRoom m)) (IfMember to (HasRoom n))
    (λ q i. weaker (member_of to q) (HasRoom m) (HasRoom n) (less_room n m le) i) h

-- what is added takes the place of one item in its list
pub added_step : (x : Value) (to q : List ℕ) (n : ℕ) (old new : Value) → IsChangedAt (codes "query") (IsChangedAt to (IsChanged (change.Add x))) old new
    → IfList q (HasRoom (cond (bytes_eq q to) 1 0 + n)) old → IfList q (HasRoom n) new
added_step x to q n old new h p = by (bytes_eq q to) refl p where
  by : (b : Bool) → bytes_eq q to ≡ b → IfList q (HasRoom (cond b 1 0 + n)) old → IfList q (HasRoom n) new
  by true is p =
      let it : q ≡ to = (bytes_eq-Decides q to).0 is in
      subst (λ (k : List ℕ). IfList k (HasRoom n) new) (sym it)
      (this_list (change.Add x) to n (HasRoom (n + 1)) (λ v i. i) old new h
      (less_in_list (n + 1) (1 + n) (omega arith) to old (subst (λ (k : List ℕ). IfList k (HasRoom (1 + n)) old) it p)))
  by false is p = other_list (change.Add x) to q (λ same. true≢false (sym ((bytes_eq-Decides q to).1 (sym same)) ∙ is)) (HasRoom n) old new h (less_in_list n (0 + n) (omega arith) q old p)

-- a list that moves keeps its room
pub moved_step : (b : Vec Value Global) (to q : List ℕ) (n : ℕ) (old new : Value) → IsChangedAt (codes "query") (IsChangedAt to (IsChanged (change.Move b))) old new
    → IfList q (HasRoom n) old → IfList q (HasRoom n) new
moved_step b to q n old new h p = by (bytes_eq q to) refl where
  by : (e : Bool) → bytes_eq q to ≡ e → IfList q (HasRoom n) new
  by true is =
      let it : q ≡ to = (bytes_eq-Decides q to).0 is in
      subst (λ (k : List ℕ). IfList k (HasRoom n) new) (sym it)
      (this_list (change.Move b) to n (HasRoom n) (λ v i. inl i) old new h (subst (λ (k : List ℕ). IfList k (HasRoom n) old) it p))
  by false is = other_list (change.Move b) to q (λ same. true≢false (sym ((bytes_eq-Decides q to).1 (sym same)) ∙ is)) (HasRoom n) old new h p

-- ---- the room of a buffer

unnest : {A B : Type 0} (g : A → Option B) (P : B → Type 0) (o : Option A) → IfSome (option_and_then g o) P → IfSome o (λ x. IfSome (g x) P)
unnest g P None h = tt
unnest g P (Some x) h = h

unmapped : {A B : Type 0} (g : A → B) (P : B → Type 0) (o : Option A) → IfSome (option_map g o) P → IfSome o (λ x. P (g x))
unmapped g P None h = tt
unmapped g P (Some x) h = h

in_member : (k : List ℕ) (P : Data → Type 0) (v : Value) → IfSome (get k (view v)) P → IfMember k (λ w. P (view w)) v
in_member k P v h = unmapped view P (member_of k v) (subst (λ (o : Option Data). IfSome o P) (member_as_data k v) h)

pub in_list : (to : List ℕ) (P : Items → Type 0) (v : Value) → IfSome (list_named to (view v)) P → IfList to (λ w. IfSome (as_array (view w)) P) v
in_list to P v h =
    let in_query = unnest (get to) (λ d. IfSome (as_array d) P) (get (codes "query") (view v)) (unnest as_array P (option_and_then (get to) (get (codes "query") (view v))) h) in
    weaker (member_of (codes "query") v) (λ w. IfSome (get to (view w)) (λ d. IfSome (as_array d) P)) (IfMember to (λ w. IfSome (as_array (view w)) P))
    (λ w i. in_member to (λ d. IfSome (as_array d) P) w i)
    (in_member (codes "query") (λ d. IfSome (get to d) (λ e. IfSome (as_array e) P)) v in_query)

-- a list that moves has the room of the buffer
pub moved_in : (b : Vec Value Global) (to : List ℕ) (n : ℕ) (old new : Value) → IsChangedAt (codes "query") (IsChangedAt to (IsChanged (change.Move b))) old new
    → IfSome (list_named to (view old)) (λ ds. items_len ds + n ≤ vec_capacity b) → IfList to (HasRoom n) new
moved_in b to n old new h p = this_list (change.Move b) to n (λ w. Takes b n (view w)) (λ v i. inr i) old new h (in_list to (λ ds. items_len ds + n ≤ vec_capacity b) old p)
