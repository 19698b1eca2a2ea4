-- The text of a value can be read back: what begins with the texts of two values, each with a comma
-- behind it, begins with the texts of the same value.
use Rattle.std.proofs.Common.{◌≡◌, ◌<◌, ◌^◌, ℕ, List, [], ◌∷◌, ◌++◌, length, Bool, true, false, map, refl, sym, ap, ◌∙◌, subst, arith, append_assoc}
use Rattle.std.specs.Prelude.{codes, decimal}
use Rattle.std.specs.List.{AllByRecursion}
use Rattle.std.proofs.lemmas.Fmt.{decimal_injective}
use Rattle.gql_text.specs.declared.place.Place.{Place}
use Rattle.gql_ast.specs.declared.literal.Literal.{Literal}
use Rattle.gql_ast.specs.declared.literal.Literal.TheVariants as l
use Rattle.gql_ast.specs.declared.literal.ObjectField.{ObjectField}
use Rattle.gql_merge.specs.Calls.{with_commas, in_order, boolean_text, value_text, member_text, object_field_text, text_string, text_list, text_object}
use Rattle.gql_cases.specs.SameCalls.{IsNumber, SameValue, variables, numbers, strings, booleans, nulls, enums, lists, objects, SameItems, no_items as same_none, item as same_item, SameFields, no_fields as same_no_fields, field as same_field}
use Rattle.gql_cases.proofs.TextsInOrder.{times, all_of, in_order_from, in_order_times}
use Rattle.gql_cases.proofs.Words.{IsClear, is_mark, words, fronts, same_tail, decimal_clear, Sort, a_variable, a_number, a_boolean, a_null, an_enum, sort_of}
use Rattle.gql_cases.proofs.ReadLists.{comma_first, IsRead, IsTextOf, texts_of_all, one_reading, AreSame, some_order}

-- ---- words

-- the value of this sort that a word stands for
abbrev pub Says : Sort → Literal → List ℕ → Type 0
Says a_variable x w = (p : Place) × (n : List ℕ) × (x ≡ l.Variable p n) × (w ≡ 36 ∷ n)
Says a_number x w = IsNumber x w
Says a_boolean x w = (p : Place) × (b : Bool) × (x ≡ l.Boolean p b) × (w ≡ boolean_text b)
Says a_null x w = (p : Place) × (x ≡ l.Null p)
Says an_enum x w = (p : Place) × (x ≡ l.Enum p w)

one_boolean : (b c : Bool) → boolean_text b ≡ boolean_text c → b ≡ c
one_boolean true true e = refl
one_boolean false false e = refl
one_boolean true false e = cc
one_boolean false true e = cc

same_word : (k : Sort) (x y : Literal) (w v : List ℕ) → w ≡ v → Says k x w → Says k y v
    → SameValue x y
same_word a_variable x y w v e f g =
    variables f.0 g.0 f.1 f.2 (g.2 ∙ ap (λ n. l.Variable g.0 n) (sym (same_tail 36 36 f.1 g.1 (sym f.3 ∙ e ∙ g.3))))
same_word a_number x y w v e f g = numbers v (subst (λ t. IsNumber x t) e f) g
same_word a_boolean x y w v e f g =
    booleans f.0 g.0 f.1 f.2 (g.2 ∙ ap (λ b. l.Boolean g.0 b) (sym (one_boolean f.1 g.1 (sym f.3 ∙ e ∙ g.3))))
same_word a_null x y w v e f g = nulls f.0 g.0 f.1 g.1
same_word an_enum x y w v e f g = enums f.0 g.0 w f.1 (g.1 ∙ ap (λ n. l.Enum g.0 n) (sym e))

-- a value whose text is a word
pub record IsWord (x : Literal) : Type 0 where
  pub text : List ℕ
  pub sort : Sort
  pub says : Says sort x text
  pub sorted : sort_of text ≡ sort
  pub clear : IsClear text
  pub is : value_text x ≡ text

-- ---- values

-- a value whose words have no marks, and whose strings fit in memory
mutual
  pub data IsPlain : Literal → Type 0 where
    word : {x : Literal} → IsWord x → IsPlain x
    string : {x : Literal} (p : Place) (value : List ℕ) → x ≡ l.String p value
        → length value < 2 ^ 64 → IsPlain x
    list : {x : Literal} (p : Place) (items : List Literal) → x ≡ l.List p items → ArePlain items
        → IsPlain x
    object : {x : Literal} (p : Place) (fields : List ObjectField) → x ≡ l.Object p fields
        → ArePlainFields fields → IsPlain x

  pub data ArePlain : List Literal → Type 0 where
    none : ArePlain []
    item : {x : Literal} {xs : List Literal} → IsPlain x → ArePlain xs → ArePlain (x ∷ xs)

  pub data ArePlainFields : List ObjectField → Type 0 where
    no_fields : ArePlainFields []
    field : {f : ObjectField} {fs : List ObjectField} → IsClear f.name.text → IsPlain f.value
        → ArePlainFields fs → ArePlainFields (f ∷ fs)

-- the word in front, the mark behind it, and what follows
word_of : {x : Literal} → IsPlain x → List ℕ
word_of (word w) = w.text
word_of (string p v is short) = decimal (length v)
word_of (list p xs is all) = []
word_of (object p fs is all) = []

mark_of : {x : Literal} → IsPlain x → ℕ
mark_of (word w) = 44
mark_of (string p v is short) = 34
mark_of (list p xs is all) = 91
mark_of (object p fs is all) = 123

rest_of : {x : Literal} → IsPlain x → List ℕ → List ℕ
rest_of (word w) r = r
rest_of (string p v is short) r = v ++ (44 ∷ r)
rest_of (list p xs is all) r = with_commas (map value_text xs) ++ (93 ∷ 44 ∷ r)
rest_of (object p fs is all) r = with_commas (in_order (map object_field_text fs)) ++ (125 ∷ 44 ∷ r)

string_rest : (d v r : List ℕ) → (d ++ (codes "\"" ++ v)) ++ (44 ∷ r) ≡ d ++ (34 ∷ (v ++ (44 ∷ r)))
string_rest d v r = simp append_assoc

closed : (a b : ℕ) (t r : List ℕ) → (a ∷ (t ++ (b ∷ []))) ++ (44 ∷ r) ≡ a ∷ (t ++ (b ∷ 44 ∷ r))
closed a b t r = simp append_assoc

opens : {x : Literal} (f : IsPlain x) (r : List ℕ)
    → value_text x ++ (44 ∷ r) ≡ word_of f ++ (mark_of f ∷ rest_of f r)
unfolding word_of mark_of rest_of
opens (word w) r = ap (λ t. t ++ (44 ∷ r)) w.is
opens (string p v is short) r =
    ap (λ x. value_text x ++ (44 ∷ r)) is ∙ ap (λ t. t ++ (44 ∷ r)) (text_string p v)
    ∙ string_rest (decimal (length v)) v r
opens (list p xs is all) r =
    ap (λ x. value_text x ++ (44 ∷ r)) is ∙ ap (λ t. t ++ (44 ∷ r)) (text_list p xs)
    ∙ closed 91 93 (with_commas (map value_text xs)) r
opens (object p fs is all) r =
    ap (λ x. value_text x ++ (44 ∷ r)) is ∙ ap (λ t. t ++ (44 ∷ r)) (text_object p fs)
    ∙ closed 123 125 (with_commas (in_order (map object_field_text fs))) r

word_clear : {x : Literal} (f : IsPlain x) → IsClear (word_of f)
unfolding word_of
word_clear (word w) = w.clear
word_clear (string p v is short) = decimal_clear (length v) short
word_clear (list p xs is all) = tt
word_clear (object p fs is all) = tt

mark_marks : {x : Literal} (f : IsPlain x) → is_mark (mark_of f) ≡ true
unfolding mark_of
mark_marks (word w) = refl
mark_marks (string p v is short) = refl
mark_marks (list p xs is all) = refl
mark_marks (object p fs is all) = refl

opened : {x y : Literal} (f : IsPlain x) (g : IsPlain y) (r s : List ℕ)
    → value_text x ++ (44 ∷ r) ≡ value_text y ++ (44 ∷ s)
    → (word_of f ≡ word_of g) × (mark_of f ≡ mark_of g) × (rest_of f r ≡ rest_of g s)
opened f g r s e =
    words (word_of f) (word_of g) (mark_of f) (mark_of g) (rest_of f r) (rest_of g s)
    (word_clear f) (word_clear g) (mark_marks f) (mark_marks g)
    (sym (opens f r) ∙ e ∙ opens g s)

-- no value begins with `]`
mark_no_end : {x : Literal} (f : IsPlain x) → mark_of f ≡ 93 → ⊥
unfolding mark_of
mark_no_end (word w) h = omega (arith, h)
mark_no_end (string p v is short) h = omega (arith, h)
mark_no_end (list p xs is all) h = omega (arith, h)
mark_no_end (object p fs is all) h = omega (arith, h)

no_end : {x : Literal} (f : IsPlain x) (r s : List ℕ) → value_text x ++ (44 ∷ r) ≡ 93 ∷ s → ⊥
no_end f r s e =
    let found = words (word_of f) [] (mark_of f) 93 (rest_of f r) s (word_clear f) tt (mark_marks f) refl
    (sym (opens f r) ∙ e) in
    mark_no_end f found.1

-- ---- by the form of the one

word_read : {x y : Literal} (w : IsWord x) (g : IsPlain y) (r s : List ℕ) → (w.text ≡ word_of g)
    × (44 ≡ mark_of g) × (r ≡ rest_of g s)
    → SameValue x y × (r ≡ s)
unfolding word_of mark_of rest_of
word_read {x} {y} w (word v) r s h =
    let k : w.sort ≡ v.sort = sym w.sorted ∙ ap sort_of h.0 ∙ v.sorted in
    (same_word v.sort x y w.text v.text h.0 (subst (λ k. Says k x w.text) k w.says) v.says, h.2)
word_read w (string p v is short) r s h = absurd (let e = h.1 in omega (arith, e))
word_read w (list p xs is all) r s h = absurd (let e = h.1 in omega (arith, e))
word_read w (object p fs is all) r s h = absurd (let e = h.1 in omega (arith, e))

string_read : {x y : Literal} (p : Place) (v : List ℕ) → x ≡ l.String p v → length v < 2 ^ 64
    → (g : IsPlain y) (r s : List ℕ)
    → (decimal (length v) ≡ word_of g) × (34 ≡ mark_of g) × (v ++ (44 ∷ r) ≡ rest_of g s)
    → SameValue x y × (r ≡ s)
unfolding word_of mark_of rest_of
string_read p v is short (word w) r s h = absurd (let e = h.1 in omega (arith, e))
string_read p v is short (string q u iz small) r s h =
    let k =
    fronts v u (44 ∷ r) (44 ∷ s) (decimal_injective (length v) (length u) short small h.0) h.2 in
    (strings p q v is (iz ∙ ap (λ t. l.String q t) (sym k.0)), same_tail 44 44 r s k.1)
string_read p v is short (list q xs iz all) r s h = absurd (let e = h.1 in omega (arith, e))
string_read p v is short (object q fs iz all) r s h = absurd (let e = h.1 in omega (arith, e))

-- the items of a list are read back
abbrev AreReadItems : List Literal → Type 0
AreReadItems xs = (ys : List Literal) → ArePlain ys → (r s : List ℕ)
    → with_commas (map value_text xs) ++ (93 ∷ r) ≡ with_commas (map value_text ys) ++ (93 ∷ s)
    → SameItems xs ys × (r ≡ s)

list_read : {x y : Literal} (p : Place) (xs : List Literal) → x ≡ l.List p xs → AreReadItems xs
    → (g : IsPlain y) (r s : List ℕ) → (91 ≡ mark_of g)
    × (with_commas (map value_text xs) ++ (93 ∷ 44 ∷ r) ≡ rest_of g s) → SameValue x y × (r ≡ s)
unfolding mark_of rest_of
list_read p xs is items (word w) r s h = absurd (let e = h.0 in omega (arith, e))
list_read p xs is items (string q u iz small) r s h = absurd (let e = h.0 in omega (arith, e))
list_read p xs is items (list q ys iz all) r s h =
    let k = items ys all (44 ∷ r) (44 ∷ s) h.1 in (lists p q xs ys is iz k.0, same_tail 44 44 r s k.1)
list_read p xs is items (object q fs iz all) r s h = absurd (let e = h.0 in omega (arith, e))

-- ---- members: arguments and fields

-- a name and a value, read back
pub member_read : (n m : List ℕ) (x y : Literal) → IsClear n → IsClear m
    → ((r s : List ℕ) → value_text x ++ (44 ∷ r) ≡ value_text y ++ (44 ∷ s) → SameValue x y × (r ≡ s))
    → (r s : List ℕ)
    → member_text n (value_text x) ++ (44 ∷ r) ≡ member_text m (value_text y) ++ (44 ∷ s)
    → ((n ≡ m) × SameValue x y) × (r ≡ s)
member_read n m x y p q value r s e =
    let k = words n m 58 58 (value_text x ++ (44 ∷ r)) (value_text y ++ (44 ∷ s)) p q refl refl
    (sym (parts n (value_text x) r) ∙ e ∙ parts m (value_text y) s) in
    let v = value r s k.2 in
    ((k.0, v.0), v.1)
  where
    parts : (n t r : List ℕ) → member_text n t ++ (44 ∷ r) ≡ n ++ (58 ∷ (t ++ (44 ∷ r)))
    parts n t r = simp append_assoc

-- no member begins with `}`
pub no_close : (n t r s : List ℕ) → IsClear n → member_text n t ++ r ≡ 125 ∷ s → ⊥
no_close n t r s p e =
    let h = (words n [] 58 125 (t ++ r) s p tt refl refl (sym (parts n t r) ∙ e)).1 in omega (arith, h)
  where
    parts : (n t r : List ℕ) → member_text n t ++ r ≡ n ++ (58 ∷ (t ++ r))
    parts n t r = simp append_assoc

abbrev IsPlainField : ObjectField → Type 0
IsPlainField f = IsClear f.name.text × IsPlain f.value

abbrev IsSameField : ObjectField → ObjectField → Type 0
IsSameField f g = (f.name.text ≡ g.name.text) × SameValue f.value g.value

abbrev IsReadField : ObjectField → Type 0
IsReadField = IsRead object_field_text IsPlainField IsSameField

same_fields : (fs gs : List ObjectField) → AreSame object_field_text IsPlainField IsSameField fs gs
    → SameFields fs gs
same_fields [] [] h = same_no_fields
same_fields [] (g ∷ gs) h = absurd h
same_fields (f ∷ fs) [] h = absurd h
same_fields (f ∷ fs) (g ∷ gs) h = same_field h.0.0 h.0.1 (same_fields fs gs h.1)

plain_fields : (fs : List ObjectField) → ArePlainFields fs → AllByRecursion IsPlainField fs
plain_fields _ no_fields = tt
plain_fields (f ∷ fs) (field n v more) = ((n, v), plain_fields fs more)

-- the texts of fields, in order, are texts of such fields
abbrev IsFieldText : (ObjectField → Type 0) → List ℕ → Type 0
IsFieldText = IsTextOf object_field_text IsPlainField IsSameField

field_texts : (P : ObjectField → Type 0) (fs : List ObjectField) → AllByRecursion P fs
    → AllByRecursion (IsFieldText P) (in_order (map object_field_text fs))
field_texts P fs all =
    let ts = map object_field_text fs in
    all_of (IsFieldText P) (in_order ts) (λ t h.
    texts_of_all object_field_text IsPlainField IsSameField P fs all t (in_order_from t ts h))

object_read : {x y : Literal} (p : Place) (fs : List ObjectField) → x ≡ l.Object p fs
    → AllByRecursion IsReadField fs
    → (g : IsPlain y) (r s : List ℕ) → (123 ≡ mark_of g)
    × (with_commas (in_order (map object_field_text fs)) ++ (125 ∷ 44 ∷ r) ≡ rest_of g s)
    → SameValue x y × (r ≡ s)
unfolding mark_of rest_of
object_read p fs is read (word w) r s h = absurd (let e = h.0 in omega (arith, e))
object_read p fs is read (string q u iz small) r s h = absurd (let e = h.0 in omega (arith, e))
object_read p fs is read (list q ys iz all) r s h = absurd (let e = h.0 in omega (arith, e))
object_read p fs is read (object q gs iz all) r s h =
    let ts = map object_field_text fs in
    let us = map object_field_text gs in
    let good = plain_fields gs all in
    let one = one_reading object_field_text IsPlainField IsSameField
    (λ a clear r s e. no_close a.name.text (value_text a.value) r s clear.0 e)
    (in_order ts) (in_order us) (field_texts IsReadField fs read)
    (field_texts IsPlainField gs good) (44 ∷ r) (44 ∷ s) h.1 in
    let k = some_order object_field_text IsPlainField IsSameField fs gs read good (λ q.
    sym (in_order_times q ts) ∙ ap (λ l. times q l) one.0 ∙ in_order_times q us) in
    (objects p q fs gs k.0 is iz k.1 (same_fields fs k.0 k.2), same_tail 44 44 r s one.1)

-- ---- all values

mutual
  unfolding word_of mark_of rest_of

  pub read : (x y : Literal) → IsPlain x → IsPlain y → (r s : List ℕ)
      → value_text x ++ (44 ∷ r) ≡ value_text y ++ (44 ∷ s) → SameValue x y × (r ≡ s)
  read x y (word w) g r s e = word_read w g r s (opened (word w) g r s e)
  read x y (string p v is short) g r s e =
      string_read p v is short g r s (opened (string p v is short) g r s e)
  read x y (list p xs is all) g r s e =
      list_read p xs is (λ ys h r s e. read_items xs ys all h r s e) g r s
      (let k = opened (list p xs is all) g r s e in (k.1, k.2))
  read x y (object p fs is all) g r s e = object_read p fs is (read_fields fs all) g r s
      (let k = opened (object p fs is all) g r s e in (k.1, k.2))

  read_items : (xs ys : List Literal) → ArePlain xs → ArePlain ys → (r s : List ℕ)
      → with_commas (map value_text xs) ++ (93 ∷ r) ≡ with_commas (map value_text ys) ++ (93 ∷ s)
      → SameItems xs ys × (r ≡ s)
  read_items _ _ none none r s e = (same_none, same_tail 93 93 r s e)
  read_items _ (y ∷ ys) none (item h hs) r s e =
      absurd (no_end h (with_commas (map value_text ys) ++ (93 ∷ s)) r
      (sym (comma_first (value_text y) (map value_text ys) (93 ∷ s)) ∙ sym e))
  read_items (x ∷ xs) _ (item g gs) none r s e =
      absurd (no_end g (with_commas (map value_text xs) ++ (93 ∷ r)) s
      (sym (comma_first (value_text x) (map value_text xs) (93 ∷ r)) ∙ e))
  read_items (x ∷ xs) (y ∷ ys) (item g gs) (item h hs) r s e =
      let ts = map value_text xs in
      let us = map value_text ys in
      let first = comma_first (value_text x) ts (93 ∷ r) in
      let other = comma_first (value_text y) us (93 ∷ s) in
      let k = read x y g h (with_commas ts ++ (93 ∷ r)) (with_commas us ++ (93 ∷ s)) (sym first ∙ e ∙ other) in
      let more = read_items xs ys gs hs r s k.1 in
      (same_item k.0 more.0, more.1)

  read_fields : (fs : List ObjectField) → ArePlainFields fs → AllByRecursion IsReadField fs
  read_fields _ no_fields = tt
  read_fields (f ∷ fs) (field n v more) = (
    record {
      good = (n, v);
      only = λ g good r s e.
          member_read f.name.text g.name.text f.value g.value n good.0
          (λ r s e. read f.value g.value v good.1 r s e) r s e;
    },
    read_fields fs more,
  )
