-- What the tests of numbered fields and selection sets show.
use Rattle.std.proofs.Common.{◌≡◌, inl, inr, ◌<◌, ℕ, zero, suc, List, [], ◌∷◌, Bool, true, false, ◌||◌, nat_eq, nat_lt, get_or, Option, Some, None, map, length, sym, ◌∙◌, ap, subst, refl, arith, Contains}
use Rattle.std.proofs.lemmas.Bool.{cases_lt, and_parts}
use Rattle.std.proofs.lemmas.Bool.Decides.{nat_tests}
use Rattle.std.proofs.lemmas.List.{get_or_past}
use Rattle.std.proofs.lemmas.List.Elements.{Contains-get_or}
use Rattle.std.specs.List.{list_all, list_any}
use Rattle.gql_clashes.specs.declared.sets.Body.{Body}
use Rattle.gql_clashes.specs.declared.sets.NumberedField.{NumberedField}
use Rattle.gql_clashes.specs.declared.sets.Sets.{Sets}
use Rattle.gql_clashes.specs.Numbered.{IsWhole, Lists, field_at, no_field, nodes_of}
use Rattle.gql_clashes.specs.Parts.{SpreadsTo, itself, more}
use Rattle.gql_clashes.proofs.Members.{Contains-nil, Contains-here, Contains-there, Contains-cases}
use Rattle.tables_text.specs.Tested.{are_in, is_body, is_below, is_whole, is_closed}

passes : {X : Type 0} (p : X → Bool) (xs : List X) (x : X) → list_all p xs ≡ true → Contains xs x → p x ≡ true
passes p [] x e c = absurd (Contains-nil x c)
passes p (y ∷ ys) x e c = elim (Contains-cases x y ys c) [
  | inl i ↦ subst (λ z. p z ≡ true) (sym i) ((and_parts _ _ e).0)
  | inr r ↦ passes p ys x ((and_parts _ _ e).1) r
]

less : (a b : ℕ) → nat_lt a b ≡ true → a < b
less a b e = grind (arith, nat_tests, e)

-- an element of the list of a body is one of the list of some body
pub picked : (g : Body → List ℕ) (bs : List Body) (s n : ℕ) → Contains (get_or (map g bs) s []) n → (b : Body) × Contains bs b × Contains (g b) n
picked g [] s n c = absurd (Contains-nil n c)
picked g (b ∷ bs) zero n c = (b, Contains-here b bs, c)
picked g (b ∷ bs) (suc s) n c = let r = picked g bs s n c in (r.0, Contains-there r.0 b bs r.1, r.2)

below_some : (limit s : ℕ) (o : Option ℕ) → is_below limit o ≡ true → o ≡ Some s → s < limit
below_some limit s None e i = absurd (let k : None ≡ Some s = i in cc)
below_some limit s (Some t) e i = less s limit (subst (λ (o : Option ℕ). is_below limit o ≡ true) i e)

module _ (z : Sets) (e : is_whole z ≡ true) where
  in_bodies : (b : Body) → Contains z.bodies.items b → is_body (length z.fields.items) (length z.bodies.items) b ≡ true
  in_bodies b c = passes _ z.bodies.items b (and_parts _ _ e).0 c

  in_fields : (f : NumberedField) → Contains z.fields.items f → is_below (length z.bodies.items) f.below ≡ true
  in_fields f c = passes (λ (f : NumberedField). is_below (length z.bodies.items) f.below) z.fields.items f (and_parts _ _ e).1 c

  pub whole : IsWhole z
  whole = record {
    fields = λ s f c. let r = picked (λ b. b.fields.items) z.bodies.items s f c in
        less f (length z.fields.items) (passes (λ n. nat_lt n (length z.fields.items)) r.0.fields.items f ((and_parts _ _ (in_bodies r.0 r.1)).0) r.2);
    spreads = λ s t c. let r = picked (λ b. b.spreads.items) z.bodies.items s t c in
        less t (length z.bodies.items) (passes (λ n. nat_lt n (length z.bodies.items)) r.0.spreads.items t ((and_parts _ _ (in_bodies r.0 r.1)).1) r.2);
    below = λ f s i. elim (cases_lt f (length z.fields.items)) [
      | inl h ↦ below_some (length z.bodies.items) s (field_at z f).below (in_fields (field_at z f) (Contains-get_or z.fields.items f no_field h)) i
      | inr h ↦ absurd (let n : (field_at z f).below ≡ None = ap (λ x. x.below) (get_or_past z.fields.items f no_field h) in let k : None ≡ Some s = sym n ∙ i in cc)
    ];
  }

among : (list : List ℕ) (n : ℕ) → list_any (λ m. nat_eq m n) list ≡ true → Contains list n
among [] n e = absurd (let k : false ≡ true = e in cc)
among (m ∷ list) n e = by (nat_eq m n) refl (among list n) e
  where
    by : (b : Bool) → nat_eq m n ≡ b → (list_any (λ m. nat_eq m n) list ≡ true → Contains list n) → b || list_any (λ m. nat_eq m n) list ≡ true → Contains (m ∷ list) n
    by true i rest e = let same : m ≡ n = grind (arith, nat_tests, i) in subst (λ x. Contains (m ∷ list) x) same (Contains-here m list)
    by false i rest e = Contains-there n m list (rest e)

module _ (z : Sets) (list : List ℕ) (e : is_closed z list ≡ true) where
  step : (s t : ℕ) → Contains list s → Contains ((nodes_of z).spreads s) t → Contains list t
  step s t c d = among list t (passes (λ n. list_any (λ m. nat_eq m n) list) ((nodes_of z).spreads s) t (passes (λ s. are_in list ((nodes_of z).spreads s)) list s e c) d)

  reached : {s t : ℕ} → Contains list s → SpreadsTo (nodes_of z) s t → Contains list t
  reached c itself = c
  reached c (more d r) = reached (step _ _ c d) r

-- a body and those that it spreads are all if what they spread is among them
pub all_spread : (z : Sets) (body : ℕ) → is_closed z (body ∷ (nodes_of z).spreads body) ≡ true
    → Lists (body ∷ (nodes_of z).spreads body) (SpreadsTo (nodes_of z) body)
all_spread z body e = record {
  sound = λ t c. elim (Contains-cases t body ((nodes_of z).spreads body) c) [
    | inl i ↦ subst (SpreadsTo (nodes_of z) body) (sym i) itself
    | inr d ↦ more d itself
  ];
  complete = λ t r. reached z (body ∷ (nodes_of z).spreads body) e (Contains-here body ((nodes_of z).spreads body)) r;
}

-- what a body spreads are bodies
pub inside : (z : Sets) → IsWhole z → {s u : ℕ} → s < length z.bodies.items → SpreadsTo (nodes_of z) s u → u < length z.bodies.items
inside z w h itself = h
inside z w h (more d r) = inside z w (w.spreads _ _ d) r
