-- What prints say of values, and of items.
use Rattle.std.proofs.Common.{◌≡◌, ◌&&◌, ◌<◌, ◌⊎◌, inl, inr, ℕ, List, [], ◌∷◌, ◌++◌, Bool, true, false, length, map, get_or, string_bytes, All, Option, Some, None, refl, sym, ap, subst, suc, take, drop, filter, find, ◌+◌, add-one, append-nil, Bor, ◌∙◌}
use Rattle.std.specs.Prelude.{ℤ, pos, ◌^◌, nat_lt, if◌then◌else◌}
use Rattle.std.specs.Bool.{beq}
use Rattle.std.specs.Float.{binary64}
use Rattle.std.specs.Float.Ieee.{of_int}
use Rattle.std.proofs.lemmas.Bool.Decides.{Decides-int_eq}
use Rattle.std.proofs.lemmas.Slice.Eq.{bytes_eq-Decides}
use Rattle.std.proofs.lemmas.List.{get_or-map, length-map, map-append, take_more}
use Rattle.std.proofs.lemmas.List.Elements.{All-push, filter-append}
use Rattle.std.proofs.Math.Seq.{drop-cons}
use Rattle.serde_json.specs.Data as json
use Rattle.serde_json.specs.Data.{Data, Num, Items, Members}
use Rattle.serde_json.specs.Find.{as_i64, to_float}
use Rattle.serde_json.specs.View.{items_view, view}
use Rattle.serde_json.specs.declared.value.Value.{Value}
use Rattle.gql_steps.specs.Resolution.{has_members, meets, member_or_null, same_by, same_data, same_number}
use Rattle.gql_steps.specs.Columns.{IsColumnOf, IsTestOf, items_in, print_of, print_of_real, print_of_text, prints_in}
use Rattle.gql_steps.specs.declared.columns.Column.{Column}
use Rattle.gql_steps.specs.declared.filter.Test.{Test}
use Rattle.gql_steps.proofs.Doubles.{same_reals}
use Rattle.gql_steps.proofs.Resolving.{listed}

-- the double of an integer of 64 bits
small_real : (n : ℕ) (z : ℤ) (b : Bool) → (if b then Some (pos n) else None) ≡ Some z → of_int binary64 (pos n) ≡ of_int binary64 z
small_real n z true is = let same : pos n ≡ z = cc is in ap (of_int binary64) same
small_real n z false is = absurd (cc is)

whole_real : (n : Num) (z : ℤ) → as_i64 n ≡ Some z → to_float n ≡ of_int binary64 z
whole_real (json.unsigned n) z e = small_real n z (nat_lt n (2 ^ 63)) e
whole_real (json.negative y) z e = let same : y ≡ z = cc e in ap (of_int binary64) same
whole_real (json.float x) z e = absurd (cc e)

-- numbers that are the same have the same print
same_numbers : (a b : Num) → same_number a b ≡ true → print_of_real (to_float a) ≡ print_of_real (to_float b)
same_numbers a b e = by (as_i64 a) (as_i64 b) refl refl e where
  by : (o p : Option ℤ) → as_i64 a ≡ o → as_i64 b ≡ p → same_by a b o p ≡ true → print_of_real (to_float a) ≡ print_of_real (to_float b)
  by (Some x) (Some y) is also same =
      ap print_of_real (whole_real a x is ∙ ap (of_int binary64) ((Decides-int_eq x y).0 same) ∙ sym (whole_real b y also))
  by (Some x) None is also same = same_reals (to_float a) (to_float b) same
  by None p is also same = same_reals (to_float a) (to_float b) same

same_truths : (a b : Bool) → beq a b ≡ true → print_of (json.boolean a) ≡ print_of (json.boolean b)
same_truths true true e = refl
same_truths true false e = cc
same_truths false true e = cc
same_truths false false e = refl

-- values that are the same have the same print
pub same_prints : (a b : Data) → same_data a b ≡ true → print_of a ≡ print_of b
same_prints json.null json.null e = refl
same_prints json.null (json.boolean y) e = cc
same_prints json.null (json.number y) e = cc
same_prints json.null (json.string y) e = cc
same_prints json.null (json.array y) e = cc
same_prints json.null (json.object y) e = cc
same_prints (json.boolean x) json.null e = cc
same_prints (json.boolean x) (json.boolean y) e = same_truths x y e
same_prints (json.boolean x) (json.number y) e = cc
same_prints (json.boolean x) (json.string y) e = cc
same_prints (json.boolean x) (json.array y) e = cc
same_prints (json.boolean x) (json.object y) e = cc
same_prints (json.number x) json.null e = cc
same_prints (json.number x) (json.boolean y) e = cc
same_prints (json.number x) (json.number y) e = same_numbers x y e
same_prints (json.number x) (json.string y) e = cc
same_prints (json.number x) (json.array y) e = cc
same_prints (json.number x) (json.object y) e = cc
same_prints (json.string x) json.null e = cc
same_prints (json.string x) (json.boolean y) e = cc
same_prints (json.string x) (json.number y) e = cc
same_prints (json.string x) (json.string y) e = ap print_of_text ((bytes_eq-Decides x y).0 e)
same_prints (json.string x) (json.array y) e = cc
same_prints (json.string x) (json.object y) e = cc
same_prints (json.array x) json.null e = cc
same_prints (json.array x) (json.boolean y) e = cc
same_prints (json.array x) (json.number y) e = cc
same_prints (json.array x) (json.string y) e = cc
same_prints (json.array x) (json.array y) e = refl
same_prints (json.array x) (json.object y) e = refl
same_prints (json.object x) json.null e = cc
same_prints (json.object x) (json.boolean y) e = cc
same_prints (json.object x) (json.number y) e = cc
same_prints (json.object x) (json.string y) e = cc
same_prints (json.object x) (json.array y) e = refl
same_prints (json.object x) (json.object y) e = refl

tells : (b : Bool) → (b ≡ true) ⊎ (b ≡ false)
tells true = inl refl
tells false = inr refl

and_first : (a b : Bool) → a && b ≡ true → a ≡ true
and_first true b e = refl
and_first false b e = cc

and_second : (a b : Bool) → a && b ≡ true → b ≡ true
and_second true b e = e
and_second false b e = cc

-- what meets arguments has each as a member
meets_has : (arguments : Members) (d : Data) → meets arguments d ≡ true → has_members arguments d ≡ true
meets_has arguments json.null e = cc
meets_has arguments (json.boolean x) e = cc
meets_has arguments (json.number x) e = cc
meets_has arguments (json.string x) e = cc
meets_has arguments (json.array x) e = cc
meets_has arguments (json.object x) e = e

-- an whole that has all of these members has also those
abbrev pub AreAmong : Members → Members → Type 0
AreAmong rest arguments = (d : Data) → has_members arguments d ≡ true → has_members rest d ≡ true

pub all_among : (arguments : Members) → AreAmong arguments arguments
all_among arguments d e = e

pub rest_among : (name : List ℕ) (v : Data) (rest arguments : Members) → AreAmong (json.member name v rest) arguments → AreAmong rest arguments
rest_among name v rest arguments among d e = and_second (same_data v (member_or_null name d)) (has_members rest d) (among d e)

-- a test of a column and of the print of an argument
pub is_test : (name : List ℕ) (v : Data) (rest arguments : Members) (items : List Data) (t : Test) → AreAmong (json.member name v rest) arguments
    → t.prints.now ≡ prints_in name items → t.print ≡ print_of v → IsTestOf arguments items t
is_test name v rest arguments items t among column print i below differ = elim (tells (meets arguments (get_or items i json.null))) [
  | inr h ↦ h
  | inl h ↦ absurd (differ (print_there h))
] where
  within : i < length items
  within = subst (λ n. i < n) (ap (λ (ps : List ℕ). length ps) column ∙ length-map items (λ (item : Data). print_of (member_or_null name item))) below

  there : get_or t.prints.now i 0 ≡ print_of (member_or_null name (get_or items i json.null))
  there = ap (λ (ps : List ℕ). get_or ps i 0) column ∙ get_or-map (λ (item : Data). print_of (member_or_null name item)) items i json.null 0 within

  print_there : meets arguments (get_or items i json.null) ≡ true → get_or t.prints.now i 0 ≡ t.print
  print_there h = there ∙ sym (same_prints v (member_or_null name (get_or items i json.null))
      (and_first _ (has_members rest (get_or items i json.null)) (among _ (meets_has arguments (get_or items i json.null) h)))) ∙ sym print

-- one more test
pub tests_more : (name : List ℕ) (v : Data) (rest arguments : Members) (items : List Data) (ts : List Test) (t : Test) → AreAmong (json.member name v rest) arguments
    → t.prints.now ≡ prints_in name items → t.print ≡ print_of v → All (IsTestOf arguments items) ts → All (IsTestOf arguments items) (ts ++ t ∷ [])
tests_more name v rest arguments items ts t among column print all = All-push (IsTestOf arguments items) ts t all (is_test name v rest arguments items t among column print)

-- one more column
pub columns_more : (whole : Data) (cs : List Column) (c : Column) (list name : List ℕ) (items : List Data) → string_bytes c.list ≡ list → string_bytes c.name ≡ name
    → c.prints.items ≡ prints_in name items → items_in (member_or_null list whole) ≡ items
    → All (IsColumnOf whole) cs → All (IsColumnOf whole) (cs ++ c ∷ [])
columns_more whole cs c list name items of_list of_name column here all = All-push (IsColumnOf whole) cs c all
    (column ∙ ap (prints_in name) (sym here) ∙ ap (λ n. prints_in n (items_in (member_or_null list whole))) (sym of_name)
    ∙ ap (λ n. prints_in (string_bytes c.name) (items_in (member_or_null n whole))) (sym of_list))

-- the item of a number, as specifications see it
pub item_at : (items : List Value) (i : ℕ) (item : Value) → i < length items → item ≡ get_or items i item → get_or (map view items) i json.null ≡ view item
item_at items i item within is = get_or-map view items i item json.null within ∙ ap view (sym is)

-- the items up to one more
taken_more : (items : List Value) (i : ℕ) (item : Value) → i < length items → item ≡ get_or items i item → map view (take (i + 1) items) ≡ map view (take i items) ++ view item ∷ []
taken_more items i item within is = ap (λ xs. map view xs) (take_more items i item within) ∙ map-append view (take i items) (get_or items i item ∷ [])
    ∙ ap (λ (x : Value). map view (take i items) ++ view x ∷ []) (sym is)

one_kept : (p : Data → Bool) (d : Data) → p d ≡ true → filter p (d ∷ []) ≡ d ∷ []
one_kept p d e = rw e refl

none_kept : (p : Data → Bool) (d : Data) → p d ≡ false → filter p (d ∷ []) ≡ []
none_kept p d e = rw e refl

-- an item that meets the arguments is kept
pub kept_more : (p : Data → Bool) (items : List Value) (i : ℕ) (item : Value) (old new : List (Bor Value)) (b : Bor Value) → i < length items → item ≡ get_or items i item
    → p (view item) ≡ true → new ≡ old ++ b ∷ [] → b.now ≡ item → map (λ (v : Bor Value). view v.now) old ≡ filter p (map view (take i items))
    → map (λ (v : Bor Value). view v.now) new ≡ filter p (map view (take (i + 1) items))
kept_more p items i item old new b within is met pushed here kept = ap (λ (vs : List (Bor Value)). map (λ (v : Bor Value). view v.now) vs) pushed
    ∙ map-append (λ (v : Bor Value). view v.now) old (b ∷ []) ∙ ap (λ ds. ds ++ view b.now ∷ []) kept
    ∙ ap (λ (x : Value). filter p (map view (take i items)) ++ view x ∷ []) here
    ∙ ap (λ ds. filter p (map view (take i items)) ++ ds) (sym (one_kept p (view item) met))
    ∙ sym (filter-append p (map view (take i items)) (view item ∷ []))
    ∙ ap (filter p) (sym (taken_more items i item within is))

-- an item that does not meet them is not
pub kept_same : (p : Data → Bool) (items : List Value) (i : ℕ) (item : Value) (old : List (Bor Value)) → i < length items → item ≡ get_or items i item
    → p (view item) ≡ false → map (λ (v : Bor Value). view v.now) old ≡ filter p (map view (take i items))
    → map (λ (v : Bor Value). view v.now) old ≡ filter p (map view (take (i + 1) items))
kept_same p items i item old within is unmet kept = kept ∙ sym (append-nil (filter p (map view (take i items))))
    ∙ ap (λ ds. filter p (map view (take i items)) ++ ds) (sym (none_kept p (view item) unmet))
    ∙ sym (filter-append p (map view (take i items)) (view item ∷ []))
    ∙ ap (filter p) (sym (taken_more items i item within is))

dropped : (items : List Value) (i : ℕ) (item : Value) → i < length items → item ≡ get_or items i item → drop i items ≡ item ∷ drop (i + 1) items
dropped items i item within is = drop-cons items i item within ∙ ap (λ (x : Value). x ∷ drop (suc i) items) (sym is) ∙ ap (λ n. item ∷ drop n items) (sym (add-one i))

first_here : (p : Data → Bool) (d : Data) (ds : List Data) → p d ≡ true → find p (d ∷ ds) ≡ Some d
first_here p d ds e = rw e refl

first_later : (p : Data → Bool) (d : Data) (ds : List Data) → p d ≡ false → find p (d ∷ ds) ≡ find p ds
first_later p d ds e = rw e refl

-- the first item that meets the arguments is this one
pub found_here : (p : Data → Bool) (items : List Value) (i : ℕ) (item : Value) → i < length items → item ≡ get_or items i item
    → p (view item) ≡ true → find p (map view (drop i items)) ≡ Some (view item)
found_here p items i item within is met = ap (λ (xs : List Value). find p (map view xs)) (dropped items i item within is) ∙ first_here p (view item) (map view (drop (i + 1) items)) met

-- it comes after this one
pub found_later : (p : Data → Bool) (items : List Value) (i : ℕ) (item : Value) → i < length items → item ≡ get_or items i item
    → p (view item) ≡ false → find p (map view (drop i items)) ≡ find p (map view (drop (i + 1) items))
found_later p items i item within is unmet = ap (λ (xs : List Value). find p (map view xs)) (dropped items i item within is) ∙ first_later p (view item) (map view (drop (i + 1) items)) unmet

-- the items of a member that is a list
pub items_are : (name : List ℕ) (whole d : Data) (items : List Value) → member_or_null name whole ≡ d → d ≡ json.array (items_view items)
    → items_in (member_or_null name whole) ≡ map view items
items_are name whole d items here is = ap items_in (here ∙ is) ∙ listed (map view items)
