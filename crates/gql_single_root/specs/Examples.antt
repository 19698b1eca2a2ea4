-- Worked examples of V30: those of the specification (GraphQL 5.2.3.1), and cases that only just
-- differ from them.
use Rattle.std.specs.Prelude.{◌⊎◌, ◌≡◌, ◌≢◌, ℕ, List, [], ◌∷◌, codes, true, false, bytes_eq, refl, Some, None, Contains}
use Rattle.std.proofs.Common.{sym, ◌∙◌, ap, subst, inl, inr, true≢false}
use Rattle.std.proofs.lemmas.Slice.Eq.{bytes_eq-Decides}
use Rattle.gql_text.specs.declared.place.Place.{Place}
use Rattle.gql_ast.specs.declared.executable.Field.{Field}
use Rattle.gql_ast.specs.declared.executable.InlineFragment.{InlineFragment}
use Rattle.gql_ast.specs.declared.executable.Operation.{Operation}
use Rattle.gql_ast.specs.declared.executable.OperationKind.TheVariants as operation
use Rattle.gql_ast.specs.declared.executable.Selection.{Selection, out-Selection}
use Rattle.gql_ast.specs.declared.executable.Selection.TheOpen.{Selection-F}
use Rattle.gql_ast.specs.declared.executable.Selection.TheVariants as s
use Rattle.gql_ast.specs.declared.executable.Spread.{Spread}
use Rattle.gql_ast.specs.declared.literal.Directive.{Directive}
use Rattle.gql_ast.specs.declared.literal.Literal.{Literal}
use Rattle.gql_ast.specs.declared.literal.Literal.TheVariants as literal
use Rattle.gql_ast.specs.declared.text.Name.{Name}
use Rattle.gql_facts.specs.ListMembers.{Contains-nil, Contains-here, Contains-there, Contains-cases}
use Rattle.gql_facts.specs.Worlds.{Facts}
use Rattle.gql_facts.specs.declared.fact.Fact.TheVariants as fact
use Rattle.gql_facts.specs.declared.fact.FragmentFact.{FragmentFact}
use Rattle.gql_facts.specs.declared.key.Key.TheVariants as key
use Rattle.gql_single_root.specs.V30SingleRootField.{AtRoot, here, inside, spread, IsFault, several, introspection, none, fault_of, stays, is_introspection, response_name}
use Rattle.gql_single_root.specs.declared.fault.RootFault.{RootFault}

-- a name at a place
abbrev name : Place → List ℕ → Name
name p n = record { place = p; text = n }

-- a field of this name with these directives
abbrev field : Place → List ℕ → List Directive → Field
field p n ds = record {
  alias = None;
  name = name p n;
  arguments = [];
  directives = ds;
  selections = [];
}

-- a field of this name with this alias
abbrev with_alias : Place → List ℕ → List ℕ → Field
with_alias p alias n = record {
  alias = Some (name p alias);
  name = name p n;
  arguments = [];
  directives = [];
  selections = [];
}

-- a directive of this name with this argument `if`
abbrev if_is : Place → List ℕ → Literal → Directive
if_is p n v = record {
  place = p;
  name = name p n;
  arguments = record { name = name p (codes "if"); value = v } ∷ [];
}

-- ---- `@skip` and `@include`

-- `@skip(if: true)` leaves out, and `@skip(if: false)` does not
skip_true : (p : Place) → stays (if_is p (codes "skip") (literal.Boolean p true) ∷ []) ≡ false
skip_true p = rw (literal.outs-Boolean p true) refl

skip_false : (p : Place) → stays (if_is p (codes "skip") (literal.Boolean p false) ∷ []) ≡ true
skip_false p = rw (literal.outs-Boolean p false) refl

-- `@include(if: false)` leaves out, and `@include(if: true)` does not
include_false : (p : Place)
    → stays (if_is p (codes "include") (literal.Boolean p false) ∷ []) ≡ false
include_false p = rw (literal.outs-Boolean p false) refl

include_true : (p : Place) → stays (if_is p (codes "include") (literal.Boolean p true) ∷ []) ≡ true
include_true p = rw (literal.outs-Boolean p true) refl

-- no variable has a value: `@include(if: $v)` leaves out, and `@skip(if: $v)` does not
include_variable : (p : Place)
    → stays (if_is p (codes "include") (literal.Variable p (codes "v")) ∷ []) ≡ false
include_variable p = rw (literal.outs-Variable p (codes "v")) refl

skip_variable : (p : Place)
    → stays (if_is p (codes "skip") (literal.Variable p (codes "v")) ∷ []) ≡ true
skip_variable p = rw (literal.outs-Variable p (codes "v")) refl

-- another directive does nothing
other_directive : (p : Place) → stays (if_is p (codes "d") (literal.Boolean p true) ∷ []) ≡ true
other_directive p = refl

-- ---- names

alias : (p : Place) → (response_name (with_alias p (codes "c") (codes "a"))).text ≡ codes "c"
alias p = refl

-- `x: __typename` is an introspection field, and `__typename: a` is not
typename : (p : Place) → is_introspection (with_alias p (codes "x") (codes "__typename")) ≡ true
typename p = refl

not_by_alias : (p : Place)
    → is_introspection (with_alias p (codes "__typename") (codes "a")) ≡ false
not_by_alias p = refl

-- ---- operations

-- the subscription root
abbrev root : List ℕ
root = codes "Subscription"

-- `... F`
abbrev of_f : Place → Spread
of_f p = record { place = p; name = name p (codes "F"); directives = [] }

-- `fragment F on Subscription { a ...F }`, which spreads itself
abbrev cycle : Place → FragmentFact
cycle p = record {
  file = codes "f";
  fragment = record {
    place = p;
    name = name p (codes "F");
    condition = name p root;
    directives = [];
    selections = s.Field (field p (codes "a") []) ∷ s.Spread (of_f p) ∷ [];
  };
}

-- every type is its only possible type, and every fragment is F
abbrev answers : Place → Facts
answers p (key.RootOf operation.Subscription) = fact.Root root
answers p (key.PossibleOf t) = fact.Possible (t ∷ [])
answers p (key.FragmentOf n) = fact.Fragment (cycle p)
answers p _ = fact.Absent

-- `subscription S` with these selections
abbrev selects : Place → List Selection → Operation
selects p set = record {
  place = p;
  kind = operation.Subscription;
  name = Some (name p (codes "S"));
  variables = [];
  directives = [];
  selections = set;
}

-- a fault of that operation in a file `d`
abbrev IsFaultIn : Place → List Selection → RootFault → Type 0
IsFaultIn p set = IsFault (answers p) root (codes "d") (selects p set)

apart : (a b : List ℕ) → bytes_eq a b ≡ false → a ≢ b
apart a b off e = true≢false (sym ((bytes_eq-Decides a b).1 e) ∙ off)

-- the fields `a` and `b`
abbrev a : Place → Field
a p = field p (codes "a") []

abbrev b : Place → Field
b p = field p (codes "b") []

-- `{ a b }`: both are at fault
abbrev two : Place → List Selection
two p = s.Field (a p) ∷ s.Field (b p) ∷ []

a_of_two : (p : Place) → AtRoot (answers p) root (codes "d") (two p) (codes "d") (a p)
a_of_two p = here (Contains-here (s.Field (a p)) (s.Field (b p) ∷ [])) refl

b_of_two : (p : Place) → AtRoot (answers p) root (codes "d") (two p) (codes "d") (b p)
b_of_two p = here (Contains-there (s.Field (b p)) (s.Field (a p)) (s.Field (b p) ∷ [])
    (Contains-here (s.Field (b p)) [])) refl

first_of_two : (p : Place) → IsFaultIn p (two p) (fault_of (codes "d") (a p))
first_of_two p =
    several {f = a p} {g = b p} (a_of_two p) (b_of_two p) (apart (codes "a") (codes "b") refl)

second_of_two : (p : Place) → IsFaultIn p (two p) (fault_of (codes "d") (b p))
second_of_two p =
    several {f = b p} {g = a p} (b_of_two p) (a_of_two p) (apart (codes "b") (codes "a") refl)

-- `{ ...F b }`: the field of the fragment is at fault, in the fragment's file
abbrev with_f : Place → List Selection
with_f p = s.Spread (of_f p) ∷ s.Field (b p) ∷ []

a_of_f : (p : Place) → AtRoot (answers p) root (codes "d") (with_f p) (codes "f") (a p)
a_of_f p = spread {x = of_f p} {g = cycle p}
    (Contains-here (s.Spread (of_f p)) (s.Field (b p) ∷ []))
    refl refl refl (here (Contains-here (s.Field (a p)) (s.Spread (of_f p) ∷ [])) refl)

b_beside_f : (p : Place) → AtRoot (answers p) root (codes "d") (with_f p) (codes "d") (b p)
b_beside_f p = here (Contains-there (s.Field (b p)) (s.Spread (of_f p)) (s.Field (b p) ∷ [])
    (Contains-here (s.Field (b p)) [])) refl

in_a_fragment : (p : Place) → IsFaultIn p (with_f p) (fault_of (codes "f") (a p))
in_a_fragment p =
    several {f = a p} {g = b p} (a_of_f p) (b_beside_f p) (apart (codes "a") (codes "b") refl)

-- `{ x: __typename }`
abbrev x : Place → Field
x p = with_alias p (codes "x") (codes "__typename")

only_introspection : (p : Place) → IsFaultIn p (s.Field (x p) ∷ []) (fault_of (codes "d") (x p))
only_introspection p = introspection {f = x p} (here (Contains-here (s.Field (x p)) []) refl) refl

-- ---- what is not at the root

one : {A : Type 0} (x y : A) → Contains (x ∷ []) y → y ≡ x
one x y h = elim (Contains-cases y x [] h) [ inl e ↦ e | inr t ↦ absurd (Contains-nil y t) ]

field_is : (f g : Field) → s.Field f ≡ s.Field g → f ≡ g
field_is f g e =
    let h : Selection-F.Field f ≡ Selection-F.Field g =
    sym (s.outs-Field f) ∙ ap out-Selection e ∙ s.outs-Field g in cc h

no_inline : (f : Field) (i : InlineFragment) → s.Field f ≡ s.InlineFragment i → ⊥
no_inline f i e =
    let h : Selection-F.Field f ≡ Selection-F.InlineFragment i =
    sym (s.outs-Field f) ∙ ap out-Selection e ∙ s.outs-InlineFragment i in cc h

no_spread : (f : Field) (x : Spread) → s.Field f ≡ s.Spread x → ⊥
no_spread f x e =
    let h : Selection-F.Field f ≡ Selection-F.Spread x =
    sym (s.outs-Field f) ∙ ap out-Selection e ∙ s.outs-Spread x in cc h

-- a field that is left out is not at the root, nor is anything else
left_out : (facts : Facts) (g : Field) (file at : List ℕ) (set : List Selection) (f : Field)
    → set ≡ s.Field g ∷ [] → stays g.directives ≡ false → AtRoot facts root file set at f → ⊥
left_out facts g file at set f is off (here c k) =
    let same : f ≡ g =
    field_is f g (one (s.Field g) (s.Field f) (subst (λ l. Contains l (s.Field f)) is c)) in
    true≢false (sym (subst (λ (h : Field). stays h.directives ≡ true) same k) ∙ off)
left_out facts g file at set f is off (inside {i = i} c k q r) =
    no_inline g i (sym (one (s.Field g) (s.InlineFragment i)
    (subst (λ l. Contains l (s.InlineFragment i)) is c)))
left_out facts g file at set f is off (spread {x = y} c k e q r) =
    no_spread g y (sym (one (s.Field g) (s.Spread y) (subst (λ l. Contains l (s.Spread y)) is c)))

-- `a @include(if: false)`
abbrev gone : Place → Field
gone p = field p (codes "a") (if_is p (codes "include") (literal.Boolean p false) ∷ [])

-- `{ a @include(if: false) }` has no root field, which is reported at the operation
no_field : (p : Place)
    → IsFaultIn p (s.Field (gone p) ∷ [])
    (record { file = codes "d"; place = p; about = codes "S" })
no_field p = none (λ at f r. left_out (answers p) (gone p) (codes "d") at (s.Field (gone p) ∷ []) f
    refl (include_false p) r)

-- ---- fragments that spread each other

no_inline_spread : (x : Spread) (i : InlineFragment) → s.Spread x ≡ s.InlineFragment i → ⊥
no_inline_spread x i e =
    let h : Selection-F.Spread x ≡ Selection-F.InlineFragment i =
    sym (s.outs-Spread x) ∙ ap out-Selection e ∙ s.outs-InlineFragment i in cc h

-- the selection is `a` or `... F`
abbrev IsOfCircle : Place → Selection → Type 0
IsOfCircle p y = (y ≡ s.Field (a p)) ⊎ (y ≡ s.Spread (of_f p))

of_cycle : (p : Place) (y : Selection)
    → Contains (s.Field (a p) ∷ s.Spread (of_f p) ∷ []) y → IsOfCircle p y
of_cycle p y c = elim (Contains-cases y (s.Field (a p)) (s.Spread (of_f p) ∷ []) c) [
  | inl e ↦ inl e
  | inr t ↦ inr (one (s.Spread (of_f p)) y t)
]

-- however often F spreads itself, `a` is the only root field
in_cycle : (p : Place) (file at : List ℕ) (set : List Selection) (f : Field)
    → ((y : Selection) → Contains set y → IsOfCircle p y)
    → AtRoot (answers p) root file set at f → f ≡ a p
in_cycle p file at set f only (here c k) = elim (only (s.Field f) c) [
  | inl e ↦ field_is f (a p) e
  | inr e ↦ absurd (no_spread f (of_f p) e)
]
in_cycle p file at set f only (inside {i = i} c k q r) =
    absurd (elim (only (s.InlineFragment i) c) [
      | inl e ↦ no_inline (a p) i (sym e)
      | inr e ↦ no_inline_spread (of_f p) i (sym e)
    ])
in_cycle p file at set f only (spread {x = y} {g = g} c k e q r) =
    let same : cycle p ≡ g = cc e in
    in_cycle p g.file at g.fragment.selections f
    (subst (λ (h : FragmentFact). (z : Selection) → Contains h.fragment.selections z → IsOfCircle p z)
    same (of_cycle p)) r

-- `{ ...F }`
abbrev only_f : Place → List Selection
only_f p = s.Spread (of_f p) ∷ []

a_of_only_f : (p : Place) → AtRoot (answers p) root (codes "d") (only_f p) (codes "f") (a p)
a_of_only_f p = spread {x = of_f p} {g = cycle p} (Contains-here (s.Spread (of_f p)) [])
    refl refl refl (here (Contains-here (s.Field (a p)) (s.Spread (of_f p) ∷ [])) refl)

only_a : (p : Place) (at : List ℕ) (f : Field)
    → AtRoot (answers p) root (codes "d") (only_f p) at f → f ≡ a p
only_a p at f r = in_cycle p (codes "d") at (only_f p) f
    (λ y c. inr (one (s.Spread (of_f p)) y c)) r

-- so `{ ...F }` has no fault
no_fault : (p : Place) (y : RootFault) → IsFaultIn p (only_f p) y → ⊥
no_fault p y (several {at = at} {other = other} {f = f} {g = g} q r differ) =
    differ (ap (λ h. (response_name h).text) (only_a p at f q ∙ sym (only_a p other g r)))
no_fault p y (introspection {at = at} {f = f} q i) =
    true≢false (sym i ∙ ap is_introspection (only_a p at f q))
no_fault p y (none absent) = absent (codes "f") (a p) (a_of_only_f p)
