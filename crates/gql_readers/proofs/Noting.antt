-- Notes of readers that come or go.
use Rattle.std.proofs.Common.{◌≡◌, ◌≢◌, ◌&&◌, ◌||◌, ◌-◌, inl, inr, suc, arith, List, [], ◌∷◌, ◌++◌, Bool, true, false, cond, length, Option, Some, None, refl, ap, sym, subst, ◌∙◌, Contains, append-nil, filter, map}
use Rattle.std.specs.Prelude.{slice_get}
use Rattle.std.specs.BTreeMap.{is_at}
use Rattle.std.specs.List.{list_any}
use Rattle.std.specs.Option.{option_map_or}
use Rattle.std.specs.Ordering.{is_eq}
use Rattle.std.specs.Cmp.{unsigned_Decides}
use Rattle.std.proofs.lemmas.Cmp.{tied_itself}
use Rattle.std.proofs.lemmas.List.{map-append}
use Rattle.std.proofs.lemmas.List.Elements.{filter-append}
use Rattle.std.proofs.lemmas.List.Folds.{list_any-append}
use Rattle.std.proofs.lemmas.List.Elements.{Contains-append_left, Contains-append_right}
use Rattle.std.proofs.lemmas.Slice.Eq.{bytes_eq-Decides}
use Rattle.gql_ast.specs.declared.definition.DefinitionId.{DefinitionId}
use Rattle.gql_facts.specs.Keys.{is_key, is_key_decides}
use Rattle.gql_facts.specs.ListMembers.{Contains-here, Contains-there, either}
use Rattle.gql_reads.specs.declared.observation.Answer.{Answer}
use Rattle.gql_facts.specs.declared.key.Key.{Key}
use Rattle.gql_readers.specs.Changes.{IsNew, Noted, Notes, WasTold, noted_of}
use Rattle.gql_readers.specs.Merged.{NotesAt, come_noted, answer_by, go_noted, is_last, noted_or, nothing_noted, with_last}
use Rattle.gql_readers.specs.OrderLaws.{key_exact, key_total}
use Rattle.gql_readers.specs.Orders.{is_id, key_order}
use Rattle.gql_readers.specs.Readers.{Reader, observes, readers_of}
use Rattle.gql_readers.proofs.Merging.{is_equal}
use Rattle.gql_readers.proofs.Reading.{reads_from}

-- ---- the last of a list

both : (x y : Bool) → x && y ≡ true → (x ≡ true) × (y ≡ true)
both true true e = (refl, refl)
both true false e = absurd (let t : false ≡ true = e in cc)
both false y e = absurd (let t : false ≡ true = e in cc)

joined : (x y : Bool) → x ≡ true → y ≡ true → x && y ≡ true
joined x y e f = rw (e, f) refl

id_parts : (a b : DefinitionId) → a.offset ≡ b.offset → a.file ≡ b.file → a ≡ b
id_parts a b e f = ap (λ n. record { file = n; offset = a.offset }) f ∙ ap (λ o. record { file = b.file; offset = o }) e

pub same_id : (a b : DefinitionId) → is_id a b ≡ true → a ≡ b
same_id a b e = let p = both _ _ e in id_parts a b ((unsigned_Decides a.offset b.offset).0 p.0) ((bytes_eq-Decides a.file b.file).0 p.1)

itself_id : (a : DefinitionId) → is_id a a ≡ true
itself_id a = joined _ _ ((unsigned_Decides a.offset a.offset).1 refl) ((bytes_eq-Decides a.file a.file).1 refl)

pub last_is : (ids : List DefinitionId) (id x : DefinitionId) → Some x ≡ slice_get ids (length ids - 1) → is_id x id ≡ is_last id ids
last_is [] id x e = absurd (let t : Some x ≡ None = e in cc)
last_is (y ∷ []) id x e = let s : x ≡ y = cc e in ap (λ z. is_id z id) s
last_is (y ∷ z ∷ ids) id x e =
    let q : length (y ∷ z ∷ ids) - 1 ≡ suc (length (z ∷ ids) - 1) = omega arith in
    last_is (z ∷ ids) id x (subst (λ n. Some x ≡ slice_get (y ∷ z ∷ ids) n) q e)

is_last_there : (ids : List DefinitionId) (id : DefinitionId) → is_last id (ids ++ id ∷ []) ≡ true
is_last_there [] id = itself_id id
is_last_there (x ∷ []) id = itself_id id
is_last_there (x ∷ y ∷ ids) id = is_last_there (y ∷ ids) id

is_last_not : (ids : List DefinitionId) (id : DefinitionId) → (Contains ids id → ⊥) → is_last id ids ≡ false
is_last_not [] id n = refl
is_last_not (x ∷ []) id n = elim (either (is_id x id)) [
  | inl e ↦ absurd (n (subst (λ z. Contains (x ∷ []) z) (same_id x id e) (Contains-here x [])))
  | inr e ↦ e
]
is_last_not (x ∷ y ∷ ids) id n = is_last_not (y ∷ ids) id (λ c. n (Contains-there id x (y ∷ ids) c))

-- a list of readers that was begun with others, and has this one if it read the key so far
abbrev pub begun : List DefinitionId → DefinitionId → Bool → List DefinitionId
begun ids id b = ids ++ cond b (id ∷ []) []

last_added : (ids : List DefinitionId) (id : DefinitionId) → (Contains ids id → ⊥) → (b : Bool) → with_last (begun ids id b) id ≡ begun ids id true
last_added ids id n true = ap (λ (t : Bool). cond t (ids ++ id ∷ []) ((ids ++ id ∷ []) ++ id ∷ [])) (is_last_there ids id)
last_added ids id n false =
    ap (λ zs. with_last zs id) (append-nil ids)
    ∙ ap (λ (t : Bool). cond t ids (ids ++ id ∷ [])) (is_last_not ids id n)

-- ---- keys

at_key : (j k : Key) → is_at (key_order j) k ≡ true → j ≡ k
at_key j k e = key_exact j k (is_equal (key_order j k) e)

not_at : (j k : Key) → is_at (key_order j) k ≡ false → is_key j k ≡ false
not_at j k e = elim (either (is_key j k)) [
  | inl t ↦ let s : j ≡ k = (is_key_decides j k).0 t in let u : true ≡ false = sym (ap is_eq (ap (λ z. key_order j z) (sym s) ∙ tied_itself key_total j)) ∙ e in cc u
  | inr f ↦ f
]

is_that : (j k : Key) → j ≡ k → is_key j k ≡ true
is_that j k e = (is_key_decides j k).1 e

pub any_more : (p : Answer → Bool) (os : List Answer) (o : Answer) → list_any p (os ++ o ∷ []) ≡ list_any p os || p o
any_more p os o = list_any-append p os (o ∷ []) ∙ ap (λ b. list_any p os || b) (or_none (p o)) where
  or_none : (b : Bool) → b || false ≡ b
  or_none true = refl
  or_none false = refl

or_true : (b : Bool) → b || true ≡ true
or_true true = refl
or_true false = refl

pub or_false : (b : Bool) → b || false ≡ b
or_false true = refl
or_false false = refl

-- the list of a key in what is noted, or none
abbrev list_in : (Noted → List DefinitionId) → Notes → Key → List DefinitionId
list_in f notes k = option_map_or f (noted_of notes k) []

or_list : (f : Noted → List DefinitionId) → ((x : Answer) → f (nothing_noted x) ≡ []) → (x : Answer) (o : Option Noted) → f (noted_or x o) ≡ option_map_or f o []
or_list f none x None = none x
or_list f none x (Some n) = refl

-- one observation more, in the list of those who come, or of those who go
pub list_more : (f : Noted → List DefinitionId) → ((x : Answer) → f (nothing_noted x) ≡ []) → (old new : Notes) (base : Key → List DefinitionId) (id : DefinitionId) → ((k : Key) → Contains (base k) id → ⊥)
    → (os : List Answer) (o : Answer)
    → ((k : Key) → list_in f old k ≡ begun (base k) id (list_any (λ (p : Answer). is_key p.observation.key k) os))
    → (n : Noted) → NotesAt old new o.observation.key n → f n ≡ with_last (f (noted_or o (noted_of old o.observation.key))) id
    → (k : Key) → list_in f new k ≡ begun (base k) id (list_any (λ (p : Answer). is_key p.observation.key k) (os ++ o ∷ []))
list_more f none old new base id fresh os o so_far n at made k =
    let p = λ (q : Answer). is_key q.observation.key k in
    elim (either (is_at (key_order o.observation.key) k)) [
      | inl t ↦
          let s : o.observation.key ≡ k = at_key o.observation.key k t in
          let here : list_in f new k ≡ f n = ap (λ (z : Option Noted). option_map_or f z []) (at k ∙ ap (λ (b : Bool). cond b (Some n) (noted_of old k)) t) in
          let before : f (noted_or o (noted_of old o.observation.key)) ≡ begun (base k) id (list_any p os) = or_list f none o (noted_of old o.observation.key) ∙ ap (λ z. list_in f old z) s ∙ so_far k in
          here ∙ made ∙ ap (λ zs. with_last zs id) before ∙ last_added (base k) id (fresh k) (list_any p os)
          ∙ ap (begun (base k) id) (sym (any_more p os o ∙ ap (λ b. list_any p os || b) (is_that o.observation.key k s) ∙ or_true (list_any p os)))
      | inr e ↦
          ap (λ (z : Option Noted). option_map_or f z []) (at k ∙ ap (λ (b : Bool). cond b (Some n) (noted_of old k)) e)
          ∙ so_far k
          ∙ ap (begun (base k) id) (sym (any_more p os o ∙ ap (λ b. list_any p os || b) (not_at o.observation.key k e) ∙ or_false (list_any p os)))
    ]

-- the other list stays
pub list_stays : (f : Noted → List DefinitionId) → ((x : Answer) → f (nothing_noted x) ≡ []) → (old new : Notes) (key : Key) (x : Answer) (n : Noted) → NotesAt old new key n → f n ≡ f (noted_or x (noted_of old key)) → (k : Key) → list_in f new k ≡ list_in f old k
list_stays f none old new key x n at same k = elim (either (is_at (key_order key) k)) [
  | inl t ↦
      let s : key ≡ k = at_key key k t in
      ap (λ (z : Option Noted). option_map_or f z []) (at k ∙ ap (λ (b : Bool). cond b (Some n) (noted_of old k)) t) ∙ same ∙ or_list f none x (noted_of old key) ∙ ap (λ z. list_in f old z) s
  | inr e ↦ ap (λ (z : Option Noted). option_map_or f z []) (at k ∙ ap (λ (b : Bool). cond b (Some n) (noted_of old k)) e)
]

-- ---- one reader more

one_reads : (k : Key) (r : Reader) → readers_of k (r ∷ []) ≡ cond (observes k r) (r.id ∷ []) []
one_reads k r = by_test (observes k r) where
  by_test : (b : Bool) → map (λ (x : Reader). x.id) (cond b (r ∷ []) []) ≡ cond b (r.id ∷ []) []
  by_test true = refl
  by_test false = refl

pub one_more : (k : Key) (rs : List Reader) (r : Reader) → readers_of k (rs ++ r ∷ []) ≡ begun (readers_of k rs) r.id (observes k r)
one_more k rs r = ap (map (λ (x : Reader). x.id)) (filter-append (observes k) rs (r ∷ [])) ∙ map-append (λ (x : Reader). x.id) (filter (observes k) rs) (filter (observes k) (r ∷ [])) ∙ ap (λ zs. readers_of k rs ++ zs) (one_reads k r)

pub fresh_of : (rs : List Reader) (id : DefinitionId) → IsNew id rs → (k : Key) → Contains (readers_of k rs) id → ⊥
fresh_of rs id new k c = let r = reads_from k rs id c in new r.0 r.1 r.2

-- ---- answers

told_more : (coming : List Reader) (r : Reader) (k : Key) (f : Answer) → WasTold coming k f → WasTold (coming ++ r ∷ []) k f
told_more coming r k f t = (t.0, t.1, Contains-append_left coming (r ∷ []) t.0 t.2, t.3, t.4, t.5)

told_here : (coming : List Reader) (r : Reader) (o : Answer) → Contains r.answers o → WasTold (coming ++ r ∷ []) o.observation.key o
told_here coming r o m = (r, o, Contains-append_right coming (r ∷ []) r (Contains-here r []), m, refl, refl)

-- those who come to a key have had the answer that is noted of it
abbrev pub AreTold : Notes → List Reader → Type 0
AreTold notes readers = (k : Key) (n : Noted) → noted_of notes k ≡ Some n → n.comes ≢ [] → WasTold readers k n.answer

pub told_all : (notes : Notes) (coming : List Reader) (r : Reader) → AreTold notes coming → AreTold notes (coming ++ r ∷ [])
told_all notes coming r all k n e some = told_more coming r k n.answer (all k n e some)

some_is : (x y : Noted) → Some x ≡ Some y → x ≡ y
some_is x y e = cc e

come_told_by : (cs : List DefinitionId) (readers : List Reader) (k : Key) (f g : Answer) → WasTold readers k g → (cs ≢ [] → WasTold readers k f) → WasTold readers k (answer_by cs f g)
come_told_by [] readers k f g here before = here
come_told_by (c ∷ cs) readers k f g here before = before (λ e. let t : c ∷ cs ≡ [] = e in cc t)

come_told : (readers : List Reader) (o : Answer) (n : Noted) → WasTold readers o.observation.key o → (n.comes ≢ [] → WasTold readers o.observation.key n.answer) → WasTold readers o.observation.key (answer_by n.comes n.answer o)
come_told readers o n here before = come_told_by n.comes readers o.observation.key n.answer o here before

noted_told : (readers : List Reader) (k : Key) (x : Answer) (o : Option Noted) → ((n : Noted) → o ≡ Some n → n.comes ≢ [] → WasTold readers k n.answer) → (noted_or x o).comes ≢ [] → WasTold readers k (noted_or x o).answer
noted_told readers k x None all some = absurd (some refl)
noted_told readers k x (Some n) all some = all n refl some

pub told_step : (old new : Notes) (readers : List Reader) (r : Reader) (o : Answer) (id : DefinitionId) → Contains readers r → Contains r.answers o
    → NotesAt old new o.observation.key (come_noted (noted_or o (noted_of old o.observation.key)) o id) → AreTold old readers → AreTold new readers
told_step old new readers r o id cr co at all k n e some = elim (either (is_at (key_order o.observation.key) k)) [
  | inl t ↦
      let s : o.observation.key ≡ k = at_key o.observation.key k t in
      let m = noted_or o (noted_of old o.observation.key) in
      let is : come_noted m o id ≡ n = some_is (come_noted m o id) n (sym (at k ∙ ap (λ (b : Bool). cond b (Some (come_noted m o id)) (noted_of old k)) t) ∙ e) in
      subst (λ (z : Key). WasTold readers z n.answer) s (subst (λ (z : Noted). WasTold readers o.observation.key z.answer) is
      (come_told readers o m (r, o, cr, co, refl, refl) (noted_told readers o.observation.key o (noted_of old o.observation.key) (all o.observation.key))))
  | inr f ↦ all k n (sym (at k ∙ ap (λ (b : Bool). cond b (Some (come_noted (noted_or o (noted_of old o.observation.key)) o id)) (noted_of old k)) f) ∙ e) some
]

pub told_gone : (old new : Notes) (readers : List Reader) (o : Answer) (id : DefinitionId)
    → NotesAt old new o.observation.key (go_noted (noted_or o (noted_of old o.observation.key)) id) → AreTold old readers → AreTold new readers
told_gone old new readers o id at all k n e some = elim (either (is_at (key_order o.observation.key) k)) [
  | inl t ↦
      let s : o.observation.key ≡ k = at_key o.observation.key k t in
      let m = noted_or o (noted_of old o.observation.key) in
      let is : go_noted m id ≡ n = some_is (go_noted m id) n (sym (at k ∙ ap (λ (b : Bool). cond b (Some (go_noted m id)) (noted_of old k)) t) ∙ e) in
      subst (λ (z : Key). WasTold readers z n.answer) s (subst (λ (z : Noted). WasTold readers o.observation.key z.answer) is
      (noted_told readers o.observation.key o (noted_of old o.observation.key) (all o.observation.key) (λ q. some (sym (ap (λ (z : Noted). z.comes) is) ∙ q))))
  | inr f ↦ all k n (sym (at k ∙ ap (λ (b : Bool). cond b (Some (go_noted (noted_or o (noted_of old o.observation.key)) id)) (noted_of old k)) f) ∙ e) some
]
