-- One element more: what a step of a loop adds.
use Rattle.std.proofs.Common.{ℕ, ◌+◌, ◌<◌, ◌≡◌, ◌∙◌, List, [], ◌∷◌, ◌++◌, Bool, true, false, cond, Option, Some, None, refl, sym, ap, length, map, take, get_or, arith}
use Rattle.std.specs.Prelude.{option_map}
use Rattle.std.proofs.lemmas.List.{append-nil, append_assoc, length-map, length-take-le, map-append, take_more}
use Rattle.std.proofs.lemmas.List.Elements.{filter-append, filter_map-append}
use Rattle.std.specs.List.{cons_option, enumerate_from, filter, filter_map}
use Rattle.gql_folder.specs.declared.folder.GivenFile.{GivenFile}
use Rattle.gql_push.specs.Plans.{Change, put, change_of, changes_of, is_to_put, puts, removal_of, put_by, put_among}
use Rattle.gql_push.specs.Resources.{Entry, entry_of, entries_of, entry_at, entries_at}
use Rattle.gql_push.specs.declared.edits.Edit.{Edit}
use Rattle.gql_push.specs.declared.edits.Resource.{Resource}

-- the last element has the last place
enumerate-push : {A : Type 0} (n m : ℕ) (xs : List A) (x : A) → n + length xs ≡ m → enumerate_from n (xs ++ x ∷ []) ≡ enumerate_from n xs ++ (m, x) ∷ []
enumerate-push n m [] x is = let e : n ≡ m = omega arith in ap (λ k. (k, x) ∷ []) e
enumerate-push n m (y ∷ xs) x is = ap (λ rest. (n, y) ∷ rest) (enumerate-push (n + 1) m xs x (omega arith))

-- one element more, which was read at its place
taken : {A : Type 0} (xs : List A) (i : ℕ) (x : A) → i < length xs → x ≡ get_or xs i x → take (i + 1) xs ≡ take i xs ++ x ∷ []
taken xs i x within is = take_more xs i x within ∙ ap (λ y. take i xs ++ y ∷ []) (sym is)

-- the same, as other values
pub map_taken : {A B : Type 0} (f : A → B) (xs : List A) (i : ℕ) (x : A) → i < length xs → x ≡ get_or xs i x → map f (take (i + 1) xs) ≡ map f (take i xs) ++ f x ∷ []
map_taken f xs i x within is = ap (map f) (taken xs i x within is) ∙ map-append f (take i xs) (x ∷ [])

length_taken : {A B : Type 0} (f : A → B) (xs : List A) (i : ℕ) → i < length xs → length (map f (take i xs)) ≡ i
length_taken f xs i within = length-map (take i xs) f ∙ length-take-le i xs (omega arith)

abbrev passes : Bool → List Entry → ℕ × Entry → Bool
passes all ps p = is_to_put all ps p.1

abbrev as_put : ℕ × Entry → Change
as_put p = put p.0

abbrev as_removal : Entry → Change
as_removal e = removal_of e.target

map_cond : {A B : Type 0} (f : A → B) (b : Bool) (x : A) → map f (cond b (x ∷ []) []) ≡ cond b (f x ∷ []) []
map_cond f true x = refl
map_cond f false x = refl

puts-push : (all : Bool) (es : List Entry) (e : Entry) (ps : List Entry) (n : ℕ) → length es ≡ n → puts all (es ++ e ∷ []) ps ≡ puts all es ps ++ cond (is_to_put all ps e) (put n ∷ []) []
puts-push all es e ps n long =
    let number : 0 + length es ≡ n = omega arith in
    ap (λ xs. map as_put (filter (passes all ps) xs)) (enumerate-push 0 n es e number)
    ∙ ap (map as_put) (filter-append (passes all ps) (enumerate_from 0 es) ((n, e) ∷ []))
    ∙ map-append as_put (filter (passes all ps) (enumerate_from 0 es)) (cond (is_to_put all ps e) ((n, e) ∷ []) [])
    ∙ ap (λ ys. puts all es ps ++ ys) (map_cond as_put (is_to_put all ps e) (n, e))

-- one resource more of the folder, and its put
pub puts_more : (all : Bool) (rs ps : List Resource) (i : ℕ) (r : Resource) (b : Bool) (extra old new : List Edit) → i < length rs → r ≡ get_or rs i r → b ≡ is_to_put all (entries_of ps) (entry_of r) → changes_of extra ≡ cond b (put i ∷ []) []
    → changes_of old ≡ puts all (entries_of (take i rs)) (entries_of ps) → new ≡ old ++ extra → changes_of new ≡ puts all (entries_of (take (i + 1) rs)) (entries_of ps)
puts_more all rs ps i r b extra old new within is test more before made =
    ap changes_of made ∙ map-append change_of old extra ∙ ap (λ ys. ys ++ changes_of extra) before
    ∙ ap (λ ys. puts all (entries_of (take i rs)) (entries_of ps) ++ ys) (more ∙ ap (λ t. cond t (put i ∷ []) []) test)
    ∙ sym (puts-push all (entries_of (take i rs)) (entry_of r) (entries_of ps) i (length_taken entry_of rs i within))
    ∙ ap (λ es. puts all es (entries_of ps)) (sym (map_taken entry_of rs i r within is))

-- one edit more, and what it puts
pub put_more : (rs : List Entry) (made : List Edit) (i : ℕ) (m : Edit) (front extra : List Entry) (old new : List Resource) → i < length made → m ≡ get_or made i m → extra ≡ cons_option (put_by rs (change_of m)) []
    → entries_of old ≡ front ++ put_among rs (changes_of (take i made)) → entries_of new ≡ entries_of old ++ extra → entries_of new ≡ front ++ put_among rs (changes_of (take (i + 1) made))
put_more rs made i m front extra old new within is more before joined =
    joined ∙ ap (λ ys. ys ++ extra) before
    ∙ append_assoc front (put_among rs (changes_of (take i made))) extra
    ∙ ap (λ ys. front ++ (put_among rs (changes_of (take i made)) ++ ys)) more
    ∙ ap (λ ys. front ++ ys) (sym (filter_map-append (put_by rs) (changes_of (take i made)) (change_of m ∷ [])) ∙ ap (put_among rs) (sym (map_taken change_of made i m within is)))

-- one file more, and its resource
pub files_more : (most : ℕ) (files : List GivenFile) (i : ℕ) (f : GivenFile) (extra old new : List Resource) → i < length files → f ≡ get_or files i f → entries_of extra ≡ cons_option (entry_at most (i, f)) []
    → entries_of old ≡ entries_at most (take i files) → new ≡ old ++ extra → entries_of new ≡ entries_at most (take (i + 1) files)
files_more most files i f extra old new within is more before joined =
    let long : length (take i files) ≡ i = length-take-le i files (omega arith) in
    let number : 0 + length (take i files) ≡ i = omega arith in
    ap entries_of joined ∙ map-append entry_of old extra ∙ ap (λ ys. ys ++ entries_of extra) before ∙ ap (λ ys. entries_at most (take i files) ++ ys) more
    ∙ sym (filter_map-append (entry_at most) (enumerate_from 0 (take i files)) ((i, f) ∷ []))
    ∙ ap (filter_map (entry_at most)) (sym (enumerate-push 0 i (take i files) f number)) ∙ ap (entries_at most) (sym (taken files i f within is))

-- what is pushed, from what is there
pub one_entry : (o : Option Entry) (p : Option Resource) (r : Resource) → option_map entry_of p ≡ o → p ≡ Some r → entries_of (r ∷ []) ≡ cons_option o []
one_entry o p r is some = ap (λ (x : Option Entry). cons_option x []) (sym (ap (option_map entry_of) some) ∙ is)

pub no_entry : (o : Option Entry) (p : Option Resource) → option_map entry_of p ≡ o → p ≡ None → entries_of [] ≡ cons_option o []
no_entry o p is none = ap (λ (x : Option Entry). cons_option x []) (sym (ap (option_map entry_of) none) ∙ is)

-- nothing is added
pub nothing_more : {A : Type 0} (old new : List A) → new ≡ old → new ≡ old ++ []
nothing_more old new is = is ∙ sym (append-nil old)

-- no entry is added
pub no_entry_more : (old new : List Resource) → new ≡ old → entries_of new ≡ entries_of old ++ []
no_entry_more old new is = nothing_more (entries_of old) (entries_of new) (ap entries_of is)
