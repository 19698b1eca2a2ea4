-- Where a schema has as many types as its files define, and as are built in, no two definitions have one name.
use Rattle.std.proofs.Common.{◌≡◌, ◌∙◌, ◌++◌, ◌+◌, ◌≤◌, ◌||◌, ℕ, suc, List, [], ◌∷◌, Bool, true, false, not, codes, Option, Some, None, filter, flat_map, map, length, bytes_eq, is_some, refl, sym, ap, ap₂, subst, arith}
use Rattle.std.specs.List.{AllByRecursion}
use Rattle.std.proofs.lemmas.List.{length-append, length-map}
use Rattle.std.proofs.lemmas.List.Concat.{flat_map-append}
use Rattle.std.proofs.lemmas.List.Elements.{filter-append}
use Rattle.std.proofs.lemmas.List.Filters.{length-filter_both}
use Rattle.std.proofs.lemmas.List.Sums.{count_by-le-length, length-filter}
use Rattle.std.proofs.lemmas.Slice.Eq.{bytes_eq-Decides}
use Rattle.gql_ast.specs.declared.definition.Definition.{Definition}
use Rattle.gql_ast.specs.declared.definition.Document.{Document}
use Rattle.gql_ast.specs.declared.definition.Tree.{Tree}
use Rattle.gql_ast.specs.declared.definition.Tree.TheVariants as tree
use Rattle.gql_ast.specs.declared.text.Name.{Name}
use Rattle.gql_ast.specs.declared.type_system.TypeDefinition.{TypeDefinition}
use Rattle.gql_built_in.specs.BuiltIn.{built_in, scalars, introspection, type_kinds, directive_locations, directives, skip, include, deprecated, specified_by, append}
use Rattle.gql_built_in.specs.BuiltInWords.{directive, of_no_file, type_of as type_in_words, word}
use Rattle.gql_built_in.specs.declared.sited.Sited.{Sited}
use Rattle.gql_faults.specs.Names.{count_of}
use Rattle.gql_types.specs.Definitions.{in_order_of, names_a_type, of_files, type_definitions, type_extensions, type_in}
use Rattle.gql_types.specs.Parts.{sited}
use Rattle.gql_types.specs.Schemas.{types_in}
use Rattle.gql_types.specs.Types.{assembled, extensions_of, first_definitions}
use Rattle.gql_node_rules.specs.Nodes.{each, type_of, types}
use Rattle.gql_schema_rules.specs.S04BuiltInNames.{fault_of_type, is_scalar_name}

-- ---- lists

module _ {A : Type 0} (p : A → Bool) where
  pub filter_short : (xs : List A) → length (filter p xs) ≤ length xs
  filter_short xs = omega (arith, length-filter p xs, count_by-le-length p xs)

  pub filter_whole : (xs : List A) → length (filter p xs) ≡ length xs → filter p xs ≡ xs
  filter_whole [] e = refl
  filter_whole (x ∷ xs) e = by (p x) refl (filter_whole xs)
    where
      by : (b : Bool) → p x ≡ b → (length (filter p xs) ≡ length xs → filter p xs ≡ xs) → filter p (x ∷ xs) ≡ x ∷ xs
      by true is rest =
          let longer : length (x ∷ filter p xs) ≡ length (x ∷ xs) = rw is at e in
          rw is (ap (λ ys. x ∷ ys) (rest (omega (arith, longer))))
      by false is rest =
          let longer : length (filter p xs) ≡ length (x ∷ xs) = rw is at e in
          absurd (omega (arith, longer, filter_short xs))

  -- if nothing that does not pass is left out, nothing passes
  pub none_pass : (xs : List A) → length (filter (λ x. not (p x)) xs) ≡ length xs → length (filter p xs) ≡ 0
  none_pass xs e = omega (arith, e, length-filter_both p (λ x. not (p x)) (λ x. refl) xs)

-- ---- definitions

abbrev is_named : List ℕ → Sited TypeDefinition → Bool
is_named q d = bytes_eq q d.node.name.text

abbrev is_other : Sited TypeDefinition → Sited TypeDefinition → Bool
is_other d e = not (bytes_eq d.node.name.text e.node.name.text)

first_short : (ds : List (Sited TypeDefinition)) → length (first_definitions ds) ≤ length ds
first_short [] = omega arith
first_short (d ∷ ds) = omega (arith, first_short ds, filter_short (is_other d) (first_definitions ds))

first_whole : (ds : List (Sited TypeDefinition)) → length (first_definitions ds) ≡ length ds → first_definitions ds ≡ ds
first_whole [] e = refl
first_whole (d ∷ ds) e =
    let shorter = filter_short (is_other d) (first_definitions ds) in
    let short = first_short ds in
    let all : length (first_definitions ds) ≡ length ds = omega (arith, e, shorter, short) in
    let kept : length (filter (is_other d) (first_definitions ds)) ≡ length (first_definitions ds) = omega (arith, e, shorter, short) in
    ap (λ xs. d ∷ xs) (filter_whole (is_other d) (first_definitions ds) kept ∙ first_whole ds all)

one_by : (q : List ℕ) (d : Sited TypeDefinition) (ds : List (Sited TypeDefinition)) (b : Bool) → bytes_eq q d.node.name.text ≡ b
    → length (filter (is_named d.node.name.text) ds) ≡ 0 → length (filter (is_named q) ds) ≤ 1 → length (filter (is_named q) (d ∷ ds)) ≤ 1
one_by q d ds true is none rest =
    let same : q ≡ d.node.name.text = (bytes_eq-Decides q d.node.name.text).0 is in
    let zero : length (filter (is_named q) ds) ≡ 0 = subst (λ z. length (filter (is_named z) ds) ≡ 0) (sym same) none in
    rw is (omega (arith, zero))
one_by q d ds false is none rest = rw is rest

once : (q : List ℕ) (ds : List (Sited TypeDefinition)) → length (first_definitions ds) ≡ length ds → length (filter (is_named q) ds) ≤ 1
once q [] e = omega arith
once q (d ∷ ds) e =
    let shorter = filter_short (is_other d) (first_definitions ds) in
    let short = first_short ds in
    let all : length (first_definitions ds) ≡ length ds = omega (arith, e, shorter, short) in
    let kept : length (filter (is_other d) (first_definitions ds)) ≡ length (first_definitions ds) = omega (arith, e, shorter, short) in
    let whole = first_whole ds all in
    let none = none_pass (is_named d.node.name.text) ds (subst (λ xs. length (filter (is_other d) xs) ≡ length xs) whole kept) in
    one_by q d ds (bytes_eq q d.node.name.text) refl none (once q ds all)

-- ---- definitions of files

abbrev names_one : Sited TypeDefinition → Bool
names_one d = names_a_type d.file d.node.name.text

by_name : (file : Option (List ℕ)) (definition : TypeDefinition) (ds : List (Sited Tree)) (b : Bool) → names_a_type file definition.name.text ≡ b → type_definitions ds ≡ filter names_one (types ds)
    → type_in file (tree.Type definition) ++ type_definitions ds ≡ filter names_one (sited file (type_of (tree.Type definition)) ++ types ds)
by_name file definition ds true is rest = rw is (ap (λ xs. record { file = file; node = definition } ∷ xs) rest)
by_name file definition ds false is rest = rw is rest

one_tree : (file : Option (List ℕ)) (t : Tree) (ds : List (Sited Tree)) → type_definitions ds ≡ filter names_one (types ds)
    → type_in file t ++ type_definitions ds ≡ filter names_one (sited file (type_of t) ++ types ds)
one_tree file (tree.Type definition) ds rest = by_name file definition ds (names_a_type file definition.name.text) refl rest
one_tree file (tree.Operation operation) ds rest = rest
one_tree file (tree.Fragment fragment) ds rest = rest
one_tree file (tree.Schema definition) ds rest = rest
one_tree file (tree.Directive definition) ds rest = rest
one_tree file (tree.SchemaExtension extension) ds rest = rest
one_tree file (tree.TypeExtension extension) ds rest = rest

in_files : (ds : List (Sited Tree)) → type_definitions ds ≡ filter names_one (types ds)
in_files [] = refl
in_files (d ∷ ds) = one_tree d.file d.node ds (in_files ds)

-- each of these definitions is in a file, where that of Float names no type
abbrev AreInFiles : List (Sited TypeDefinition) → Type 0
AreInFiles = AllByRecursion (λ (d : Sited TypeDefinition). is_some d.file ≡ true)

in_a_file : (file : List ℕ) (t : Tree) (ds : List (Sited TypeDefinition)) → AreInFiles ds → AreInFiles (sited (Some file) (type_of t) ++ ds)
in_a_file file (tree.Type definition) ds rest = (refl, rest)
in_a_file file (tree.Operation operation) ds rest = rest
in_a_file file (tree.Fragment fragment) ds rest = rest
in_a_file file (tree.Schema definition) ds rest = rest
in_a_file file (tree.Directive definition) ds rest = rest
in_a_file file (tree.SchemaExtension extension) ds rest = rest
in_a_file file (tree.TypeExtension extension) ds rest = rest

before_files : (definitions : List Definition) (ds : List (Sited Tree)) → AreInFiles (types ds) → AreInFiles (types (in_order_of definitions ++ ds))
before_files [] ds rest = rest
before_files (d ∷ definitions) ds rest = in_a_file d.file d.tree (types (in_order_of definitions ++ ds)) (before_files definitions ds rest)

pub are_in_files : (files : List (List ℕ × Document)) → AreInFiles (types (of_files files))
are_in_files [] = tt
are_in_files (f ∷ files) = before_files f.1.definitions (of_files files) (are_in_files files)

-- how many types are built in
pub count_with_float : length (type_definitions (built_in true)) ≡ 13
unfolding built_in scalars introspection type_kinds directive_locations directives skip include deprecated specified_by append type_in_words directive of_no_file word
count_with_float = refl

pub count_without_float : length (type_definitions (built_in false)) ≡ 12
unfolding built_in scalars introspection type_kinds directive_locations directives skip include deprecated specified_by append type_in_words directive of_no_file word
count_without_float = refl

named_step : (q : List ℕ) (d : Sited TypeDefinition) (ds : List (Sited TypeDefinition)) (b : Bool) → bytes_eq q d.node.name.text ≡ b
    → length (filter (λ (n : Sited Name). bytes_eq q n.node.text) (each (λ (x : TypeDefinition). x.name) ds)) ≡ length (filter (is_named q) ds)
    → length (filter (λ (n : Sited Name). bytes_eq q n.node.text) (each (λ (x : TypeDefinition). x.name) (d ∷ ds))) ≡ length (filter (is_named q) (d ∷ ds))
named_step q d ds true is rest = rw is (ap suc rest)
named_step q d ds false is rest = rw is rest

named_times : (q : List ℕ) (ds : List (Sited TypeDefinition)) → length (filter (λ (n : Sited Name). bytes_eq q n.node.text) (each (λ (x : TypeDefinition). x.name) ds)) ≡ length (filter (is_named q) ds)
named_times q [] = refl
named_times q (d ∷ ds) = named_step q d ds (bytes_eq q d.node.name.text) refl (named_times q ds)

-- ---- names of built-in scalars

count_int : (floats : Bool) → length (filter (is_named (codes "Int")) (type_definitions (built_in floats))) ≡ 1
unfolding built_in scalars introspection type_kinds directive_locations directives skip include deprecated specified_by append type_in_words directive of_no_file word
count_int true = refl
count_int false = refl

count_string : (floats : Bool) → length (filter (is_named (codes "String")) (type_definitions (built_in floats))) ≡ 1
unfolding built_in scalars introspection type_kinds directive_locations directives skip include deprecated specified_by append type_in_words directive of_no_file word
count_string true = refl
count_string false = refl

count_boolean : (floats : Bool) → length (filter (is_named (codes "Boolean")) (type_definitions (built_in floats))) ≡ 1
unfolding built_in scalars introspection type_kinds directive_locations directives skip include deprecated specified_by append type_in_words directive of_no_file word
count_boolean true = refl
count_boolean false = refl

count_id : (floats : Bool) → length (filter (is_named (codes "ID")) (type_definitions (built_in floats))) ≡ 1
unfolding built_in scalars introspection type_kinds directive_locations directives skip include deprecated specified_by append type_in_words directive of_no_file word
count_id true = refl
count_id false = refl

-- whether a name is that of a built-in scalar, one after the other
abbrev is_any : List ℕ → Bool
is_any q = bytes_eq q (codes "Int") || (bytes_eq q (codes "String") || (bytes_eq q (codes "Boolean") || (bytes_eq q (codes "ID")
    || (bytes_eq q (codes "Float") || false))))

scalar_names : (q : List ℕ) → is_scalar_name q ≡ is_any q
unfolding scalars type_in_words word
scalar_names q = refl

-- a definition that a test leaves out
left_out : (q : List ℕ) (d : Sited TypeDefinition) (ds : List (Sited TypeDefinition)) → length (filter (is_named q) (d ∷ ds)) ≡ 0
    → (bytes_eq q d.node.name.text ≡ false) × (length (filter (is_named q) ds) ≡ 0)
left_out q d ds e = by (bytes_eq q d.node.name.text) refl
  where
    by : (b : Bool) → bytes_eq q d.node.name.text ≡ b → (bytes_eq q d.node.name.text ≡ false) × (length (filter (is_named q) ds) ≡ 0)
    by true is = let e' : length (d ∷ filter (is_named q) ds) ≡ 0 = rw is at e in absurd (omega (arith, e'))
    by false is = (is, rw is at e)

turned : (a b : List ℕ) → bytes_eq a b ≡ false → bytes_eq b a ≡ false
turned a b e = by (bytes_eq b a) refl
  where
    by : (x : Bool) → bytes_eq b a ≡ x → bytes_eq b a ≡ false
    by true is = absurd (cc (sym (subst (λ z. bytes_eq a z ≡ true) (sym ((bytes_eq-Decides b a).0 is)) ((bytes_eq-Decides a a).1 refl)) ∙ e))
    by false is = is

-- a definition in a file that passes is not that of Float
not_float : (file : Option (List ℕ)) (name : List ℕ) → is_some file ≡ true → names_a_type file name ≡ true → bytes_eq name (codes "Float") ≡ false
not_float None name placed passes = absurd (cc placed)
not_float (Some file) name placed passes = turned_off (bytes_eq name (codes "Float")) passes
  where
    turned_off : (b : Bool) → not b ≡ true → b ≡ false
    turned_off true e = absurd (cc e)
    turned_off false e = refl

-- a definition that passes is kept first
kept_first : (d : Sited TypeDefinition) (ds : List (Sited TypeDefinition)) → filter names_one (d ∷ ds) ≡ d ∷ ds
    → (names_one d ≡ true) × (filter names_one ds ≡ ds)
kept_first d ds e = by (names_one d) refl
  where
    by : (b : Bool) → names_one d ≡ b → (names_one d ≡ true) × (filter names_one ds ≡ ds)
    by false is =
        let e' : filter names_one ds ≡ d ∷ ds = rw is at e in
        absurd (omega (arith, ap length e', filter_short names_one ds))
    by true is = let e' : d ∷ filter names_one ds ≡ d ∷ ds = rw is at e in (is, cc e')

none_at_fault : (ds : List (Sited TypeDefinition)) → AreInFiles ds
    → length (filter (is_named (codes "Int")) ds) ≡ 0 → length (filter (is_named (codes "String")) ds) ≡ 0
    → length (filter (is_named (codes "Boolean")) ds) ≡ 0 → length (filter (is_named (codes "ID")) ds) ≡ 0
    → filter names_one ds ≡ ds → flat_map fault_of_type (each (λ (d : TypeDefinition). d.name) ds) ≡ []
none_at_fault [] placed ints strings booleans ids floats = refl
none_at_fault (d ∷ ds) placed ints strings booleans ids floats =
    let q = d.node.name.text in
    let i = left_out (codes "Int") d ds ints in
    let s = left_out (codes "String") d ds strings in
    let b = left_out (codes "Boolean") d ds booleans in
    let n = left_out (codes "ID") d ds ids in
    let f = kept_first d ds floats in
    let plain = not_float d.file q placed.0 f.0 in
    let none : is_scalar_name q ≡ false = scalar_names q
    ∙ rw (turned (codes "Int") q i.0, turned (codes "String") q s.0, turned (codes "Boolean") q b.0, turned (codes "ID") q n.0, plain) refl in
    rw none (none_at_fault ds placed.1 i.1 s.1 b.1 n.1 f.1)

module _ (floats : Bool) (ds : List (Sited Tree)) (placed : AreInFiles (types ds))
    (is : length (types ds) + length (type_definitions (built_in floats)) ≡ length (types_in (built_in floats ++ ds))) where
  abbrev built : List (Sited TypeDefinition)
  built = type_definitions (built_in floats)

  joined : type_definitions (built_in floats ++ ds) ≡ built ++ type_definitions ds
  joined = flat_map-append (λ (d : Sited Tree). type_in d.file d.node) (built_in floats) ds

  in_all : length (type_definitions (built_in floats ++ ds)) ≡ length built + length (type_definitions ds)
  in_all = ap length joined ∙ length-append built (type_definitions ds)

  firsts : length (types_in (built_in floats ++ ds)) ≡ length (first_definitions (type_definitions (built_in floats ++ ds)))
  firsts = length-map (first_definitions (type_definitions (built_in floats ++ ds))) (λ (d : Sited TypeDefinition). assembled d (extensions_of (type_extensions (built_in floats ++ ds)) d))

  fewer : length (type_definitions ds) ≤ length (types ds)
  fewer = subst (λ xs. length xs ≤ length (types ds)) (sym (in_files ds)) (filter_short names_one (types ds))

  all_types : length (first_definitions (type_definitions (built_in floats ++ ds))) ≡ length (type_definitions (built_in floats ++ ds))
  all_types = omega (arith, is, firsts, in_all, fewer, first_short (type_definitions (built_in floats ++ ds)))

  no_float : length (filter names_one (types ds)) ≡ length (types ds)
  no_float =
      let same : length (type_definitions ds) ≡ length (filter names_one (types ds)) = ap length (in_files ds) in
      omega (arith, is, firsts, in_all, fewer, same, first_short (type_definitions (built_in floats ++ ds)))

  these : type_definitions ds ≡ types ds
  these = in_files ds ∙ filter_whole names_one (types ds) no_float

  -- each name of a type is defined once
  pub defined_once : (q : List ℕ) → count_of q (each (λ (d : TypeDefinition). d.name) (types ds)) ≤ 1
  defined_once q =
      let all : length (filter (is_named q) (built ++ type_definitions ds)) ≤ 1 = subst (λ xs. length (filter (is_named q) xs) ≤ 1) joined (once q (type_definitions (built_in floats ++ ds)) all_types) in
      let parts : length (filter (is_named q) (built ++ type_definitions ds)) ≡ length (filter (is_named q) built) + length (filter (is_named q) (type_definitions ds)) =
      ap length (filter-append (is_named q) built (type_definitions ds)) ∙ length-append (filter (is_named q) built) (filter (is_named q) (type_definitions ds)) in
      let same : length (filter (is_named q) (type_definitions ds)) ≡ length (filter (is_named q) (types ds)) = ap (λ xs. length (filter (is_named q) xs)) these in
      let counted : length (filter (λ (n : Sited Name). bytes_eq q n.node.text) (each (λ (x : TypeDefinition). x.name) (types ds))) ≡ count_of q (each (λ (x : TypeDefinition). x.name) (types ds)) =
      length-filter (λ (n : Sited Name). bytes_eq q n.node.text) (each (λ (x : TypeDefinition). x.name) (types ds)) in
      omega (arith, all, parts, same, counted, named_times q (types ds))

  -- of a name of a built-in type there is none
  none_of : (q : List ℕ) → length (filter (is_named q) built) ≡ 1 → length (filter (is_named q) (types ds)) ≡ 0
  none_of q one =
      let all : length (filter (is_named q) (built ++ type_definitions ds)) ≤ 1 = subst (λ xs. length (filter (is_named q) xs) ≤ 1) joined (once q (type_definitions (built_in floats ++ ds)) all_types) in
      let parts : length (filter (is_named q) (built ++ type_definitions ds)) ≡ length (filter (is_named q) built) + length (filter (is_named q) (type_definitions ds)) =
      ap length (filter-append (is_named q) built (type_definitions ds)) ∙ length-append (filter (is_named q) built) (filter (is_named q) (type_definitions ds)) in
      let same : length (filter (is_named q) (type_definitions ds)) ≡ length (filter (is_named q) (types ds)) = ap (λ xs. length (filter (is_named q) xs)) these in
      omega (arith, one, all, parts, same)

  -- no type has the name of a built-in scalar, or of Float
  pub no_scalar : flat_map fault_of_type (each (λ (d : TypeDefinition). d.name) (types ds)) ≡ []
  no_scalar = none_at_fault (types ds) placed (none_of (codes "Int") (count_int floats)) (none_of (codes "String") (count_string floats))
      (none_of (codes "Boolean") (count_boolean floats)) (none_of (codes "ID") (count_id floats)) (filter_whole names_one (types ds) no_float)
