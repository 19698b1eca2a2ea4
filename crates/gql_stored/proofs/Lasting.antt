-- Lists and members of data after effects.
use Rattle.std.proofs.Common.{◌≡◌, ℕ, List, [], ◌∷◌, Bool, true, false, true≢false, cond, Option, Some, None, is_some, option_map, option_and_then, Ordering, Less, Equal, Greater, codes, bytes_eq, is_eq, refl, ap, sym, subst, ◌∙◌}
use Rattle.std.proofs.lemmas.Map.Text.{is_eq-slice_cmp}
use Rattle.std.proofs.lemmas.Slice.Eq.{bytes_eq-Decides}
use Rattle.std.specs.Cmp.Lexicographic.{slice_cmp}
use Rattle.std.specs.Ordering.{nat_cmp, match_ordering}
use Rattle.serde_json.specs.Data.{Data, null, boolean, number, string, array, object, Members, no_members, member}
use Rattle.serde_json.specs.Find.{as_array, get, get_member}
use Rattle.gql_stored.specs.Effects.{Effect, list_named, with_end, with_last, changed, with_changed, appended}
use Rattle.gql_stored.specs.Laws.{OneList, ListsStay, OtherMembers, InSequence}

-- ---- the member that is changed

this_at : (o : Ordering) (k l : List ℕ) (f : Data → Data) (d : Data) (ms : Members) → slice_cmp nat_cmp k l ≡ o → get_member k (changed k f ms) ≡ option_map f (get_member k ms)
    → get_member k (cond (is_eq o) (member l (f d) ms) (member l d (changed k f ms))) ≡ option_map f (match_ordering o (get_member k ms) (Some d) (get_member k ms))
this_at Less k l f d ms is later = ap (λ o. match_ordering o (get_member k (changed k f ms)) (Some d) (get_member k (changed k f ms))) is ∙ later
this_at Equal k l f d ms is later = ap (λ o. match_ordering o (get_member k ms) (Some (f d)) (get_member k ms)) is
this_at Greater k l f d ms is later = ap (λ o. match_ordering o (get_member k (changed k f ms)) (Some d) (get_member k (changed k f ms))) is ∙ later

this_member : (k : List ℕ) (f : Data → Data) (ms : Members) → get_member k (changed k f ms) ≡ option_map f (get_member k ms)
this_member k f no_members = refl
this_member k f (member l d ms) = subst
    (λ (b : Bool). get_member k (cond b (member l (f d) ms) (member l d (changed k f ms))) ≡ option_map f (get_member k (member l d ms)))
    (is_eq-slice_cmp k l) (this_at (slice_cmp nat_cmp k l) k l f d ms refl (this_member k f ms))

this_value : (k : List ℕ) (f : Data → Data) (d : Data) → get k (with_changed k f d) ≡ option_map f (get k d)
this_value k f null = refl
this_value k f (boolean b) = refl
this_value k f (number n) = refl
this_value k f (string s) = refl
this_value k f (array ds) = refl
this_value k f (object ms) = this_member k f ms

-- ---- other members

passed_at : (o : Ordering) (a : Option Data) (d : Data) → is_eq o ≡ false → match_ordering o a (Some d) a ≡ a
passed_at Less a d e = refl
passed_at Equal a d e = absurd (true≢false e)
passed_at Greater a d e = refl

no_name : (xs ys : List ℕ) → (xs ≡ ys → ⊥) → bytes_eq xs ys ≡ false
no_name xs ys differ = by (bytes_eq xs ys) refl where
  by : (b : Bool) → bytes_eq xs ys ≡ b → b ≡ false
  by true e = absurd (differ ((bytes_eq-Decides xs ys).0 e))
  by false e = refl

passed : (q l : List ℕ) (d : Data) (ms : Members) → (q ≡ l → ⊥) → get_member q (member l d ms) ≡ get_member q ms
passed q l d ms differ = passed_at (slice_cmp nat_cmp q l) (get_member q ms) d (is_eq-slice_cmp q l ∙ no_name q l differ)

others_at : (b : Bool) (q k l : List ℕ) (f : Data → Data) (d : Data) (ms : Members) → bytes_eq k l ≡ b → (q ≡ k → ⊥) → get_member q (changed k f ms) ≡ get_member q ms
    → get_member q (cond b (member l (f d) ms) (member l d (changed k f ms))) ≡ get_member q (member l d ms)
others_at true q k l f d ms is differ later =
    let apart = λ (h : q ≡ l). differ (h ∙ sym ((bytes_eq-Decides k l).0 is)) in
    passed q l (f d) ms apart ∙ sym (passed q l d ms apart)
others_at false q k l f d ms is differ later = ap (λ (r : Option Data). match_ordering (slice_cmp nat_cmp q l) r (Some d) r) later

other_members : (q k : List ℕ) (f : Data → Data) → (q ≡ k → ⊥) → (ms : Members) → get_member q (changed k f ms) ≡ get_member q ms
other_members q k f differ no_members = refl
other_members q k f differ (member l d ms) = others_at (bytes_eq k l) q k l f d ms refl differ (other_members q k f differ ms)

other_value : (q k : List ℕ) (f : Data → Data) → (q ≡ k → ⊥) → (d : Data) → get q (with_changed k f d) ≡ get q d
other_value q k f differ null = refl
other_value q k f differ (boolean b) = refl
other_value q k f differ (number n) = refl
other_value q k f differ (string s) = refl
other_value q k f differ (array ds) = refl
other_value q k f differ (object ms) = other_members q k f differ ms

-- ---- lists

last_added : (v d : Data) → as_array (with_last v d) ≡ option_map (with_end v) (as_array d)
last_added v null = refl
last_added v (boolean b) = refl
last_added v (number n) = refl
last_added v (string s) = refl
last_added v (array ds) = refl
last_added v (object ms) = refl

then_changed : {A B C D : Type 0} (f : A → B) (g : C → D) (h : A → Option C) (j : B → Option D) → ((x : A) → j (f x) ≡ option_map g (h x))
    → (o : Option A) → option_and_then j (option_map f o) ≡ option_map g (option_and_then h o)
then_changed f g h j each None = refl
then_changed f g h j each (Some x) = each x

then_same : {A B C : Type 0} (f : A → B) (h : A → Option C) (j : B → Option C) → ((x : A) → j (f x) ≡ h x)
    → (o : Option A) → option_and_then j (option_map f o) ≡ option_and_then h o
then_same f h j each None = refl
then_same f h j each (Some x) = each x

own_list : (e : Effect) (d : Data) → list_named e.to (appended e d) ≡ option_map (with_end e.value) (list_named e.to d)
own_list e d =
    ap (λ (o : Option Data). option_and_then as_array (option_and_then (get e.to) o)) (this_value (codes "query") (with_changed e.to (with_last e.value)) d)
    ∙ ap (option_and_then as_array) (then_changed (with_changed e.to (with_last e.value)) (with_last e.value) (get e.to) (get e.to) (this_value e.to (with_last e.value)) (get (codes "query") d))
    ∙ then_changed (with_last e.value) (with_end e.value) as_array as_array (last_added e.value) (option_and_then (get e.to) (get (codes "query") d))

other_list : (e : Effect) (d : Data) (to : List ℕ) → (to ≡ e.to → ⊥) → list_named to (appended e d) ≡ list_named to d
other_list e d to differ =
    ap (λ (o : Option Data). option_and_then as_array (option_and_then (get to) o)) (this_value (codes "query") (with_changed e.to (with_last e.value)) d)
    ∙ ap (option_and_then as_array) (then_same (with_changed e.to (with_last e.value)) (get to) (get to) (other_value to e.to (with_last e.value) differ) (get (codes "query") d))

pub one_list : OneList
one_list e d to = by (bytes_eq to e.to) refl where
  by : (b : Bool) → bytes_eq to e.to ≡ b → list_named to (appended e d) ≡ cond b (option_map (with_end e.value) (list_named to d)) (list_named to d)
  by true is = subst (λ (k : List ℕ). list_named k (appended e d) ≡ option_map (with_end e.value) (list_named k d)) (sym ((bytes_eq-Decides to e.to).0 is)) (own_list e d)
  by false is = other_list e d to (λ same. true≢false (sym ((bytes_eq-Decides to e.to).1 same) ∙ is))

still_there : {A : Type 0} (b : Bool) (f : A → A) (o : Option A) → is_some (cond b (option_map f o) o) ≡ is_some o
still_there true f None = refl
still_there true f (Some x) = refl
still_there false f o = refl

pub lists_stay : ListsStay
lists_stay [] d to = refl
lists_stay (e ∷ es) d to = lists_stay es (appended e d) to ∙ ap is_some (one_list e d to) ∙ still_there (bytes_eq to e.to) (with_end e.value) (list_named to d)

pub members_last : OtherMembers
members_last [] d k differ = refl
members_last (e ∷ es) d k differ = members_last es (appended e d) k differ ∙ other_value k (codes "query") (with_changed e.to (with_last e.value)) differ d

pub in_sequence : InSequence
in_sequence [] fs d = refl
in_sequence (e ∷ es) fs d = in_sequence es fs (appended e d)
