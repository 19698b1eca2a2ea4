-- What is written for a reply, part by part.
use Rattle.std.proofs.Common.{◌≡◌, ℕ, zero, suc, ◌+◌, ◌<◌, Bool, true, false, List, [], ◌∷◌, ◌++◌, map, codes, Option, Some, None, refl, sym, ap, ◌∙◌, arith, append_assoc, append-nil, if◌then◌else◌}
use Rattle.std.specs.List.{fold}
use Rattle.json.specs.Print.{quoted}
use Rattle.gql_inputs.specs.InputTypes.{is_non_null}
use Rattle.gql_types.specs.Written.{Written}
use Rattle.serde_json.specs.Data as json
use Rattle.serde_json.specs.Data.{Data}
use Rattle.serde_json.specs.View.{items_of}
use Rattle.gql_steps.specs.JsonText.{items_text, json_text, members_text}
use Rattle.gql_steps.specs.Execution.{Object, PlannedField, Types, Site, Below, members_of, executed, items_from, list_reply, placed, value_of}
use Rattle.gql_steps.specs.Parts.{Outcome, text, bubble, Part, joined, followed_by, plain, one, comma, after_comma, comma_list, all, numbered, within}
use Rattle.gql_steps.specs.Parts as part
use Rattle.gql_steps.specs.Replies.{Segment, key, index, Path, Note, Reply}
use Rattle.gql_steps.specs.Replies as reply
use Rattle.gql_steps.specs.ValueParts.{placed_part}
use Rattle.gql_steps.specs.Texts.{outcome_text, texted, value_part, member_text, comma_at, listed_text}

-- ---- parts, one after the other

pub same_part : (a b : Part) → a.outcome ≡ b.outcome → a.notes ≡ b.notes → a.weight ≡ b.weight → a ≡ b
same_part a b o n w = ap (λ x. let r : Part = record { outcome = x; notes = a.notes; weight = a.weight } in r) o
    ∙ ap (λ x. let r : Part = record { outcome = b.outcome; notes = x; weight = a.weight } in r) n
    ∙ ap (λ x. let r : Part = record { outcome = b.outcome; notes = b.notes; weight = x } in r) w

joined-assoc : (a b c : Outcome) → joined (joined a b) c ≡ joined a (joined b c)
joined-assoc (text a) (text b) (text c) = ap text (append_assoc a b c)
joined-assoc (text a) (text b) bubble = refl
joined-assoc (text a) bubble c = refl
joined-assoc bubble b c = refl

joined-nil : (a : Outcome) → joined a (text []) ≡ a
joined-nil (text a) = ap text (append-nil a)
joined-nil bubble = refl

nil-joined : (a : Outcome) → joined (text []) a ≡ a
nil-joined (text a) = refl
nil-joined bubble = refl

followed-assoc : (a b c : Part) → followed_by (followed_by a b) c ≡ followed_by a (followed_by b c)
followed-assoc a b c = same_part _ _ (joined-assoc a.outcome b.outcome c.outcome) (append_assoc a.notes b.notes c.notes) (omega arith)

followed-nil : (a : Part) → followed_by a (plain []) ≡ a
followed-nil a = same_part _ _ (joined-nil a.outcome) (append-nil a.notes) (omega arith)

nil-followed : (a : Part) → followed_by (plain []) a ≡ a
nil-followed a = same_part _ _ (nil-joined a.outcome) refl (omega arith)

fold-out : (a : Part) (rs : List Part) → fold followed_by a rs ≡ followed_by a (all rs)
fold-out a [] = sym (followed-nil a)
fold-out a (r ∷ rs) = fold-out (followed_by a r) rs ∙ followed-assoc a r (all rs)
    ∙ ap (followed_by a) (sym (fold-out (followed_by (plain []) r) rs ∙ ap (λ x. followed_by x (all rs)) (nil-followed r)))

pub all-first : (r : Part) (rs : List Part) → all (r ∷ rs) ≡ followed_by r (all rs)
all-first r rs = fold-out (followed_by (plain []) r) rs ∙ ap (λ x. followed_by x (all rs)) (nil-followed r)

-- ---- one value, and those after it

module _ {A : Type 0} (f : A → List ℕ) where
  outcomes : (i : ℕ) (x : Option A) (y : Option (List A))
      → outcome_text (listed_text f i) (reply.joined x y)
      ≡ joined (joined (comma i).outcome (joined (text []) (outcome_text f x))) (outcome_text (listed_text f (i + 1)) y)
  outcomes zero (Some a) (Some as') = refl
  outcomes zero (Some a) None = refl
  outcomes zero None y = refl
  outcomes (suc i) (Some a) (Some as') = refl
  outcomes (suc i) (Some a) None = refl
  outcomes (suc i) None y = refl

  no_notes : (i : ℕ) (ns : List Note) → (comma i).notes ++ ns ≡ ns
  no_notes zero ns = refl
  no_notes (suc i) ns = refl

  no_weight : (i n : ℕ) → (comma i).weight + n ≡ n
  no_weight zero n = omega arith
  no_weight (suc i) n = omega arith

  pub one_more : (i : ℕ) (r : Reply A) (rs : List (Reply A))
      → texted (listed_text f i) (reply.all (reply.counted r ∷ rs))
      ≡ followed_by (after_comma i (part.counted (texted f r))) (texted (listed_text f (i + 1)) (reply.all rs))
  one_more i r rs = same_part _ _ (outcomes i r.value (reply.all rs).value)
      (ap (λ ns. ns ++ (reply.all rs).notes) (sym (no_notes i r.notes)))
      (let w = no_weight i (1 + r.weight) in omega (arith, w))

-- ---- nulls and errors

settled_part : (r : Reply Data) → value_part (reply.settled r) ≡ part.settled (value_part r)
settled_part r = refl

caught_part : (r : Reply Data) → value_part (reply.caught r) ≡ part.caught (value_part r)
caught_part r = same_part _ _ (by r.value) refl refl where
  by : (o : Option Data) → outcome_text json_text (Some (reply.or_null o)) ≡ part.or_null (outcome_text json_text o)
  by (Some d) = refl
  by None = refl

pub placed_is : (t : Written) (r : Reply Data) → value_part (placed t r) ≡ placed_part t (value_part r)
placed_is t r = by (is_non_null t) where
  by : (b : Bool) → value_part (if b then r else reply.caught r) ≡ (if b then value_part r else part.caught (value_part r))
  by true = refl
  by false = caught_part r

-- ---- brackets

wrapped : {A : Type 0} (before after : List ℕ) (f : A → List ℕ) (m : A → Data) → ((a : A) → json_text (m a) ≡ (before ++ f a) ++ after)
    → (r : Reply A) → value_part (reply.mapped m r) ≡ within before (texted f r) after
wrapped {A} before after f m e r = same_part _ _ (held r.value) (sym (append-nil r.notes)) (omega arith) where
  held : (y : Option A) → outcome_text json_text (reply.in_option m y) ≡ joined (joined (text before) (outcome_text f y)) (text after)
  held (Some a) = ap text (e a)
  held None = refl

comma_later : (n : ℕ) → 0 < n → comma_at n ≡ codes ","
comma_later zero h = absurd (omega arith)
comma_later (suc n) h = refl

-- where items stand before
items_later : (n : ℕ) (ds : List Data) → 0 < n → items_text true (items_of ds) ≡ listed_text json_text n ds ++ codes "]"
items_later n [] h = refl
items_later n (d ∷ ds) h = ap (λ l. 44 ∷ (json_text d ++ l)) (items_later (n + 1) ds (omega arith))
    ∙ ap (λ l. 44 ∷ l) (sym (append_assoc (json_text d) (listed_text json_text (n + 1) ds) (codes "]")))
    ∙ ap (λ c. ((c ++ json_text d) ++ listed_text json_text (n + 1) ds) ++ codes "]") (sym (comma_later n h))

items_first : (ds : List Data) → items_text false (items_of ds) ≡ listed_text json_text 0 ds ++ codes "]"
items_first [] = refl
items_first (d ∷ ds) = ap (λ l. json_text d ++ l) (items_later 1 ds (omega arith))
    ∙ sym (append_assoc (json_text d) (listed_text json_text 1 ds) (codes "]"))

one_member : (k : List ℕ) (d : Data) (rest : List ℕ) → quoted k ++ 58 ∷ (json_text d ++ rest) ≡ member_text (k, d) ++ rest
one_member k d rest = sym (ap (λ l. l ++ rest) (append_assoc (quoted k) (codes ":") (json_text d))
    ∙ append_assoc (quoted k) (58 ∷ json_text d) rest)

members_later : (n : ℕ) (ms : List (List ℕ × Data)) → 0 < n → members_text true (members_of ms) ≡ listed_text member_text n ms ++ codes "}"
members_later n [] h = refl
members_later n (m ∷ ms) h = ap (λ l. 44 ∷ l) (one_member m.0 m.1 (members_text true (members_of ms)))
    ∙ ap (λ l. 44 ∷ (member_text m ++ l)) (members_later (n + 1) ms (omega arith))
    ∙ ap (λ l. 44 ∷ l) (sym (append_assoc (member_text m) (listed_text member_text (n + 1) ms) (codes "}")))
    ∙ ap (λ c. ((c ++ member_text m) ++ listed_text member_text (n + 1) ms) ++ codes "}") (sym (comma_later n h))

members_first : (ms : List (List ℕ × Data)) → members_text false (members_of ms) ≡ listed_text member_text 0 ms ++ codes "}"
members_first [] = refl
members_first (m ∷ ms) = one_member m.0 m.1 (members_text true (members_of ms))
    ∙ ap (λ l. member_text m ++ l) (members_later 1 ms (omega arith))
    ∙ sym (append_assoc (member_text m) (listed_text member_text 1 ms) (codes "}"))

-- ---- lists

items_part : {A : Type 0} (each : Path → A → Reply Data) (i : ℕ) (p : Path) (ds : List A)
    → texted (listed_text json_text i) (reply.all (items_from each i p ds))
    ≡ all (numbered (λ j x. after_comma j (part.counted (value_part (each (p ++ index j ∷ []) x)))) i ds)
items_part each i p [] = refl
items_part each i p (d ∷ ds) =
    one_more json_text i (each (p ++ index i ∷ []) d) (items_from each (i + 1) p ds)
    ∙ ap (followed_by (after_comma i (part.counted (value_part (each (p ++ index i ∷ []) d))))) (items_part each (i + 1) p ds)
    ∙ sym (all-first (after_comma i (part.counted (value_part (each (p ++ index i ∷ []) d))))
    (numbered (λ j x. after_comma j (part.counted (value_part (each (p ++ index j ∷ []) x)))) (i + 1) ds))

-- what is written for a list
pub list_part : {A : Type 0} (each : Path → A → Reply Data) (p : Path) (ds : List A)
    → value_part (list_reply each p ds)
    ≡ within (codes "[") (comma_list (λ i x. part.counted (value_part (each (p ++ index i ∷ []) x))) ds) (codes "]")
list_part each p ds =
    wrapped (codes "[") (codes "]") (listed_text json_text 0) (λ xs. json.array (items_of xs))
    (λ xs. ap (λ l. 91 ∷ l) (items_first xs)) (reply.all (items_from each 0 p ds))
    ∙ ap (λ r. within (codes "[") r (codes "]")) (items_part each 0 p ds)

-- ---- objects

-- what is written for the members of an object, of which each counts
pub members_part : (i : ℕ) (ms : List (Reply (List ℕ × Data)))
    → texted (listed_text member_text i) (reply.all (map reply.counted ms))
    ≡ all (numbered (λ j r. after_comma j (part.counted (texted member_text r))) i ms)
members_part i [] = refl
members_part i (m ∷ ms) = one_more member_text i m (map reply.counted ms)
    ∙ ap (followed_by (after_comma i (part.counted (texted member_text m)))) (members_part (i + 1) ms)
    ∙ sym (all-first (after_comma i (part.counted (texted member_text m)))
    (numbered (λ j r. after_comma j (part.counted (texted member_text r))) (i + 1) ms))

-- what is written for an object
pub object_part : (ms : List (Reply (List ℕ × Data)))
    → value_part (reply.mapped (λ xs. json.object (members_of xs)) (reply.all (map reply.counted ms)))
    ≡ within (codes "{") (comma_list (λ i r. part.counted (texted member_text r)) ms) (codes "}")
object_part ms =
    wrapped (codes "{") (codes "}") (listed_text member_text 0) (λ xs. json.object (members_of xs))
    (λ xs. ap (λ l. 123 ∷ l) (members_first xs)) (reply.all (map reply.counted ms))
    ∙ ap (λ r. within (codes "{") r (codes "}")) (members_part 0 ms)

-- a member: its name, and its value
pub labelled : (k : List ℕ) (r : Reply Data)
    → texted member_text (reply.mapped (λ v. (k, v)) r) ≡ followed_by (plain (quoted k ++ codes ":")) (value_part r)
labelled k r = same_part _ _ (held r.value) refl (omega arith) where
  held : (y : Option Data) → outcome_text member_text (reply.in_option (λ v. (k, v)) y)
      ≡ joined (text (quoted k ++ codes ":")) (outcome_text json_text y)
  held (Some d) = refl
  held None = refl

-- a field of an answer, but for its count
abbrev pub uncounted : Types → PlannedField → Below → Path → Object → Reply (List ℕ × Data)
uncounted types f below p d =
    let s : Site = record { types = types; place = f.place; below = below } in
    reply.mapped (λ v. (f.response_name, v)) (reply.settled
    (placed f.of_type (value_of s f f.arguments (p ++ key f.response_name ∷ []) d)))

pub executed_is : (types : Types) (f : PlannedField) (below : Below) (p : Path) (d : Object)
    → executed types f below p d ≡ reply.counted (uncounted types f below p d)
executed_is types f below p d = refl

-- what is written for it
pub field_part : (types : Types) (f : PlannedField) (below : Below) (p : Path) (d : Object)
    → texted member_text (uncounted types f below p d)
    ≡ followed_by (plain (quoted f.response_name ++ codes ":")) (part.settled (placed_part f.of_type
    (value_part (value_of (record { types = types; place = f.place; below = below }) f f.arguments
    (p ++ key f.response_name ∷ []) d))))
field_part types f below p d =
    let r = value_of (record { types = types; place = f.place; below = below }) f f.arguments (p ++ key f.response_name ∷ []) d in
    labelled f.response_name (reply.settled (placed f.of_type r))
    ∙ ap (λ x. followed_by (plain (quoted f.response_name ++ codes ":")) (part.settled x)) (placed_is f.of_type r)
