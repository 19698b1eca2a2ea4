-- Names in their order: a name that is put in twice stands there once.
use Rattle.std.proofs.Common.{◌≡◌, ◌++◌, ℕ, List, [], ◌∷◌, Bool, true, false, cond, map, filter, fold, bytes_eq, refl, ap, ◌∙◌, arith}
use Rattle.std.specs.List.{list_any}
use Rattle.std.specs.BTreeMap.{insert_entry}
use Rattle.std.specs.declared.cmp.Ordering.{Ordering}
use Rattle.std.specs.declared.cmp.Ordering.TheVariants.{Less, Equal, Greater}
use Rattle.std.specs.Cmp.{tied_itself}
use Rattle.std.proofs.lemmas.Cmp.{nat_list_cmp_total}
use Rattle.std.proofs.lemmas.Grind.{common_steps}
use Rattle.std.proofs.lemmas.List.Sums.{fold-append}
use Rattle.gql_ast.specs.FileMaps.{name_order}
use Rattle.gql_ast.specs.declared.text.Name.{Name}
use Rattle.gql_built_in.specs.declared.sited.Sited.{Sited}
use Rattle.gql_types.specs.Declarations.{declared_by, declarations}
use Rattle.gql_types.specs.Possible.{declares, objects_of, in_order, name_of}
use Rattle.gql_types.specs.declared.kind.TypeKind.{TypeKind}
use Rattle.gql_types.specs.declared.kind.TypeKind.TheVariants as kind
use Rattle.gql_types.specs.declared.schema_type.SchemaType.{SchemaType}

abbrev pub Entries : Type 0
Entries = List (List ℕ × Unit {0})

-- with this name
abbrev pub put : Entries → List ℕ → Entries
put entries n = insert_entry name_order entries n tt

at_itself : (n : List ℕ) → name_order n n ≡ Equal
at_itself n = tied_itself nat_list_cmp_total n

put_twice : (n : List ℕ) (entries : Entries) → put (put entries n) n ≡ put entries n
put_twice n [] = rw (at_itself n) refl
put_twice n (e ∷ entries) = by (name_order n e.0) refl (put_twice n entries)
  where
    by : (o : Ordering) → name_order n e.0 ≡ o → put (put entries n) n ≡ put entries n → put (put (e ∷ entries) n) n ≡ put (e ∷ entries) n
    by Less is rest = rw (is, at_itself n) refl
    by Equal is rest = rw (is, is) refl
    by Greater is rest = rw (is, is) (ap (λ es. e ∷ es) rest)

-- the names of an object, one for each time that it declares the interface
abbrev pub named : List ℕ → List (List ℕ × List ℕ) → List (List ℕ)
named q pairs = map (λ (p : List ℕ × List ℕ). p.1) (filter (λ (p : List ℕ × List ℕ). bytes_eq q p.0) pairs)

once_more : (b : Bool) (n : List ℕ) (entries : Entries) → cond b (put (put entries n) n) (put entries n) ≡ put entries n
once_more true n entries = put_twice n entries
once_more false n entries = refl

put_step : (q n : List ℕ) (i : Sited Name) (interfaces : List (Sited Name)) (entries : Entries) (b : Bool) → bytes_eq q i.node.text ≡ b
    → ((es : Entries) → fold put es (named q (map (λ (j : Sited Name). (j.node.text, n)) interfaces)) ≡ cond (list_any (λ (j : Sited Name). bytes_eq q j.node.text) interfaces) (put es n) es)
    → fold put entries (named q (map (λ (j : Sited Name). (j.node.text, n)) (i ∷ interfaces))) ≡ cond (list_any (λ (j : Sited Name). bytes_eq q j.node.text) (i ∷ interfaces)) (put entries n) entries
put_step q n i interfaces entries true is rest = rw is (rest (put entries n) ∙ once_more (list_any (λ (j : Sited Name). bytes_eq q j.node.text) interfaces) n entries)
put_step q n i interfaces entries false is rest = rw is (rest entries)

-- however often it declares the interface, its name stands once
put_all : (q n : List ℕ) (interfaces : List (Sited Name)) (entries : Entries)
    → fold put entries (named q (map (λ (i : Sited Name). (i.node.text, n)) interfaces)) ≡ cond (list_any (λ (i : Sited Name). bytes_eq q i.node.text) interfaces) (put entries n) entries
put_all q n [] entries = refl
put_all q n (i ∷ interfaces) entries = put_step q n i interfaces entries (bytes_eq q i.node.text) refl (put_all q n interfaces)

put_object : (q n : List ℕ) (k : TypeKind) (interfaces : List (Sited Name)) (entries : Entries)
    → fold put entries (named q (declared_by k n interfaces)) ≡ cond (declares k interfaces q) (put entries n) entries
put_object q n kind.Object interfaces entries = put_all q n interfaces entries
put_object q n kind.Scalar interfaces entries = refl
put_object q n kind.Interface interfaces entries = refl
put_object q n kind.Union interfaces entries = refl
put_object q n kind.Enum interfaces entries = refl
put_object q n kind.InputObject interfaces entries = refl

named_append : (q : List ℕ) (xs ys : List (List ℕ × List ℕ)) → named q (xs ++ ys) ≡ named q xs ++ named q ys
named_append q [] ys = refl
named_append q (x ∷ xs) ys = grind (arith, common_steps, named_append q xs ys)

types_step : (q : List ℕ) (t : SchemaType) (types : List SchemaType) (entries : Entries) (b : Bool) → declares t.kind t.interfaces q ≡ b
    → ((es : Entries) → fold put es (named q (declarations types)) ≡ fold put es (objects_of types q))
    → fold put (cond b (put entries (name_of t)) entries) (named q (declarations types)) ≡ fold put entries (objects_of (t ∷ types) q)
types_step q t types entries true is rest = rw is (rest (put entries (name_of t)))
types_step q t types entries false is rest = rw is (rest entries)

all_put : (q : List ℕ) (types : List SchemaType) (entries : Entries) → fold put entries (named q (declarations types)) ≡ fold put entries (objects_of types q)
all_put q [] entries = refl
all_put q (t ∷ types) entries =
    ap (fold put entries) (named_append q (declared_by t.kind (name_of t) t.interfaces) (declarations types))
    ∙ fold-append put entries (named q (declared_by t.kind (name_of t) t.interfaces)) (named q (declarations types))
    ∙ ap (λ es. fold put es (named q (declarations types))) (put_object q (name_of t) t.kind t.interfaces entries)
    ∙ types_step q t types entries (declares t.kind t.interfaces q) refl (all_put q types)

-- the declarations of an interface are those of its objects, in their order
pub same_order : (q : List ℕ) (types : List SchemaType) → in_order (named q (declarations types)) ≡ in_order (objects_of types q)
same_order q types = ap (map (λ (e : List ℕ × Unit {0}). e.0)) (all_put q types [])
