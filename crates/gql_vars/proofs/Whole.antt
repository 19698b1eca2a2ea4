-- The lists that the code makes have just the faults of the operation.
use Rattle.std.specs.Prelude.{◌≡◌, ◌&&◌, not, ℕ, List, [], ◌∷◌, ◌++◌, flat_map, map, refl, bytes_eq, is_some, Bool, true, false, Contains, Option, Some, None, if◌then◌else◌}
use Rattle.std.specs.List.{list_any}
use Rattle.std.proofs.Common.{ap, sym, ◌∙◌, subst, inl, inr, true≢false}
use Rattle.std.proofs.lemmas.List.Elements.{Contains-append_left, Contains-append_right, Contains-append_cases}
use Rattle.std.proofs.lemmas.Slice.Eq.{bytes_eq-Decides}
use Rattle.gql_ast.specs.declared.definition.Definition.{Definition}
use Rattle.gql_ast.specs.declared.definition.Tree.{Tree}
use Rattle.gql_ast.specs.declared.definition.Tree.TheVariants as tree
use Rattle.gql_ast.specs.declared.executable.Operation.{Operation}
use Rattle.gql_ast.specs.declared.executable.VariableDefinition.{VariableDefinition}
use Rattle.gql_ast.specs.declared.fault.Fault.{Fault}
use Rattle.gql_ast.specs.declared.fault.FilePlace.{FilePlace}
use Rattle.gql_ast.specs.declared.rule.Rule.TheVariants as rule
use Rattle.gql_facts.specs.ListMembers.{Contains-nil, Contains-here, Contains-there, Contains-cases, Contains-flat_map, Contains-flat_map_from, either, found_in}
use Rattle.gql_facts.specs.Members.{Lists}
use Rattle.gql_facts.specs.Reads.{Reaches}
use Rattle.gql_facts.specs.Worlds.{Facts}
use Rattle.gql_facts.specs.declared.fact.FragmentFact.{FragmentFact}
use Rattle.gql_rules.specs.Faults.{fault_at}
use Rattle.gql_rules.specs.LocalFaults.{owner_of}
use Rattle.gql_vars.specs.declared.uses.VariableUse.{VariableUse}
use Rattle.gql_vars.specs.Faults.{fault_of_use}
use Rattle.gql_vars.specs.Lists.{use_of, uses_in, type_faults, undefined, is_used, unused, unused_first, use_faults}
use Rattle.gql_vars.specs.Misuses.{misuse, misuse_of, misuses_of_member, usage_faults}
use Rattle.gql_vars.specs.P04FloatVariables as p04
use Rattle.gql_vars.specs.Usages.{Usage, Usages, in_operation, in_fragment as in_member, operation_usages, fragment_usages}
use Rattle.gql_vars.specs.Uses.{Use, Uses, in_definition, in_fragment, tree_uses, fragment_uses}
use Rattle.gql_vars.specs.V25VariableUniqueness as v25
use Rattle.gql_vars.specs.V26VariablesAreInputTypes as v26
use Rattle.gql_vars.specs.V27AllVariableUsesDefined as v27
use Rattle.gql_vars.specs.V28AllVariablesUsed as v28
use Rattle.gql_vars.specs.V29AllVariableUsagesAreAllowed as v29
use Rattle.gql_vars.specs.V29AllVariableUsagesAreAllowed.{is_allowed, is_judged}
use Rattle.gql_vars.specs.VariableFaults.{IsFaultOf, by_v25, by_v26, by_v27, by_v28, by_v29, by_p04, IsVariableFault, of_operation}
use Rattle.gql_vars.specs.Variables.{variable_named, variable_name}

-- ---- lists

one : {A : Type 0} (x y : A) → Contains (x ∷ []) y → y ≡ x
one x y h = elim (Contains-cases y x [] h) [
  | inl e ↦ e
  | inr t ↦ absurd (Contains-nil y t)
]

any_of : {A : Type 0} (p : A → Bool) (xs : List A) (x : A) → Contains xs x → p x ≡ true → list_any p xs ≡ true
any_of p [] x h t = absurd (Contains-nil x h)
any_of p (y ∷ ys) x h t = elim (either (p y)) [
  | inl q ↦ rw q refl
  | inr q ↦ elim (Contains-cases x y ys h) [
    | inl e ↦ absurd (true≢false (sym (subst (λ z. p z ≡ true) e t) ∙ q))
    | inr i ↦ rw q (any_of p ys x i t)
  ]
]

of_any : {A : Type 0} (p : A → Bool) (xs : List A) → list_any p xs ≡ true → (x : A) × Contains xs x × (p x ≡ true)
of_any p [] t = absurd (true≢false (sym t))
of_any p (y ∷ ys) t = elim (either (p y)) [
  | inl q ↦ (y, Contains-here y ys, q)
  | inr q ↦ let r = of_any p ys (sym (rw q refl) ∙ t) in (r.0, Contains-there r.0 y ys r.1, r.2)
]

append_assoc : {A : Type 0} (a b c : List A) → (a ++ b) ++ c ≡ a ++ (b ++ c)
append_assoc [] b c = refl
append_assoc (x ∷ a) b c = ap (λ l. x ∷ l) (append_assoc a b c)

-- ---- V27 and V28 as one list

flat_made : {A B C : Type 0} (f : B → List C) (g : A → B) (xs : List A) → flat_map (λ x. f (g x)) xs ≡ flat_map f (map g xs)
flat_made f g [] = refl
flat_made f g (x ∷ xs) = ap (λ l. f (g x) ++ l) (flat_made f g xs)

pub use_faults_are : (owner : FilePlace) (d : Definition) (members : List FragmentFact) (vs : List VariableDefinition) (uses : List VariableUse) (old mid new : List Fault)
    → map use_of uses ≡ uses_in d members
    → mid ≡ old ++ flat_map (λ x. undefined owner vs (use_of x)) uses
    → new ≡ mid ++ flat_map (unused owner vs (map use_of uses)) vs
    → new ≡ old ++ use_faults owner d members vs
use_faults_are owner d members vs uses old mid new is first second =
    second ∙ ap (λ l. l ++ flat_map (unused owner vs (map use_of uses)) vs) (first ∙ ap (λ l. old ++ l) (flat_made (undefined owner vs) use_of uses))
    ∙ append_assoc old (flat_map (undefined owner vs) (map use_of uses)) (flat_map (unused owner vs (map use_of uses)) vs)
    ∙ ap (λ us. old ++ (flat_map (undefined owner vs) us ++ flat_map (unused owner vs us) vs)) is

module _ (facts : Facts) (d : Definition) (o : Operation) (members : List FragmentFact) (reached : Lists members (Reaches facts d)) where
  abbrev owner : FilePlace
  owner = owner_of d

  abbrev vs : List VariableDefinition
  vs = o.variables

  abbrev us : List Use
  us = uses_in d members

  -- ---- uses

  used : (x : Use) → Contains us x → Uses facts d x
  used x h = elim (Contains-append_cases (tree_uses d.file d.tree) (flat_map (λ (g : FragmentFact). fragment_uses g.file g.fragment) members) x h) [
    | inl a ↦ in_definition a
    | inr b ↦ let r = Contains-flat_map_from (λ (g : FragmentFact). fragment_uses g.file g.fragment) members x b in in_fragment (reached.sound r.0 r.1) r.2
  ]

  among : (x : Use) → Uses facts d x → Contains us x
  among x (in_definition h) = Contains-append_left (tree_uses d.file d.tree) (flat_map (λ (g : FragmentFact). fragment_uses g.file g.fragment) members) x h
  among x (in_fragment {g = g} r h) = Contains-append_right (tree_uses d.file d.tree) (flat_map (λ (g : FragmentFact). fragment_uses g.file g.fragment) members) x
      (Contains-flat_map (λ (g : FragmentFact). fragment_uses g.file g.fragment) members g x (reached.complete g r) h)

  -- ---- V27

  undefined_by : (x : Use) (f : Fault) (v : Option VariableDefinition) → Uses facts d x → variable_named vs x.name ≡ v
      → Contains (if is_some v then [] else fault_of_use owner rule.V27 x ∷ []) f → v27.IsFault facts d o f
  undefined_by x f None u is h = subst (λ g. v27.IsFault facts d o g) (sym (one (fault_of_use owner rule.V27 x) f h)) (v27.undefined u is)
  undefined_by x f (Some v) u is h = absurd (Contains-nil f h)

  sound27 : (f : Fault) → Contains (flat_map (undefined owner vs) us) f → v27.IsFault facts d o f
  sound27 f h = let r = Contains-flat_map_from (undefined owner vs) us f h in undefined_by r.0 f (variable_named vs r.0.name) (used r.0 r.1) refl r.2

  complete27 : (f : Fault) → v27.IsFault facts d o f → Contains (flat_map (undefined owner vs) us) f
  complete27 f (v27.undefined {x = x} u is) =
      Contains-flat_map (undefined owner vs) us x (fault_of_use owner rule.V27 x) (among x u)
      (subst (λ v. Contains (if is_some v then [] else fault_of_use owner rule.V27 x ∷ []) (fault_of_use owner rule.V27 x)) (sym is) (Contains-here (fault_of_use owner rule.V27 x) []))

  -- ---- V28

  no_use : (n : List ℕ) → is_used us n ≡ false → v28.IsUnused facts d n
  no_use n is x u e = true≢false (sym (any_of (λ (y : Use). bytes_eq n y.name) us x (among x u) ((bytes_eq-Decides n x.name).1 (sym e))) ∙ is)

  not_used : (n : List ℕ) → v28.IsUnused facts d n → is_used us n ≡ false
  not_used n none = elim (either (is_used us n)) [
    | inl t ↦ let r = of_any (λ (y : Use). bytes_eq n y.name) us t in absurd (none r.0 (used r.0 r.1) (sym ((bytes_eq-Decides n r.0.name).0 r.2)))
    | inr n ↦ n
  ]

  unused_by : (n : List ℕ) (f : Fault) (b : Bool) (first : Option VariableDefinition) → is_used us n ≡ b → variable_named vs n ≡ first
      → Contains (if b then [] else unused_first owner first) f → v28.IsFault facts d o f
  unused_by n f true first off is h = absurd (Contains-nil f h)
  unused_by n f false None off is h = absurd (Contains-nil f h)
  unused_by n f false (Some v) off is h =
      let same : n ≡ v.name.text = (bytes_eq-Decides n v.name.text).0 (found_in (λ (w : VariableDefinition). bytes_eq n (variable_name w)) vs v is).1 in
      subst (λ g. v28.IsFault facts d o g) (sym (one (fault_at owner rule.V28 v.name.text v.place) f h))
      (v28.unused (subst (λ m. variable_named vs m ≡ Some v) same is) (subst (λ m. v28.IsUnused facts d m) same (no_use n off)))

  sound28 : (f : Fault) → Contains (flat_map (unused owner vs us) vs) f → v28.IsFault facts d o f
  sound28 f h = let r = Contains-flat_map_from (unused owner vs us) vs f h in
      unused_by r.0.name.text f (is_used us r.0.name.text) (variable_named vs r.0.name.text) refl refl r.2

  complete28 : (f : Fault) → v28.IsFault facts d o f → Contains (flat_map (unused owner vs us) vs) f
  complete28 f (v28.unused {v = v} is none) =
      let g = fault_at owner rule.V28 v.name.text v.place in
      let n = v.name.text in
      Contains-flat_map (unused owner vs us) vs v g (found_in (λ (w : VariableDefinition). bytes_eq n (variable_name w)) vs v is).0
      (subst (λ b. Contains (if b then [] else unused_first owner (variable_named vs n)) g) (sym (not_used n none))
      (subst (λ w. Contains (unused_first owner w) g) (sym is) (Contains-here g [])))

  -- ---- V29

  abbrev own : List Usage
  own = operation_usages facts d.file o

  misused_if : (x : Usage) (f : Fault) (v : VariableDefinition) (allowed judged : Bool) → Usages facts d o x → variable_named vs x.used.name ≡ Some v
      → is_allowed v x.location ≡ allowed → is_judged facts v ≡ judged
      → Contains (if not allowed && judged then fault_of_use owner rule.V29 x.used ∷ [] else []) f → v29.IsFault facts d o f
  misused_if x f v true judged u is a j h = absurd (Contains-nil f h)
  misused_if x f v false false u is a j h = absurd (Contains-nil f h)
  misused_if x f v false true u is a j h = subst (λ g. v29.IsFault facts d o g) (sym (one (fault_of_use owner rule.V29 x.used) f h)) (v29.not_allowed u is j a)

  misused_by : (x : Usage) (f : Fault) (v : Option VariableDefinition) → Usages facts d o x → variable_named vs x.used.name ≡ v
      → Contains (misuse_of facts owner x v) f → v29.IsFault facts d o f
  misused_by x f None u is h = absurd (Contains-nil f h)
  misused_by x f (Some v) u is h = misused_if x f v (is_allowed v x.location) (is_judged facts v) u is refl refl h

  sound29 : (f : Fault) → Contains (usage_faults facts owner d.file o members vs) f → v29.IsFault facts d o f
  sound29 f h = elim (Contains-append_cases (flat_map (misuse facts owner vs) own) (flat_map (misuses_of_member facts owner vs) members) f h) [
    | inl a ↦ let r = Contains-flat_map_from (misuse facts owner vs) own f a in misused_by r.0 f (variable_named vs r.0.used.name) (in_operation r.1) refl r.2
    | inr b ↦ let m = Contains-flat_map_from (misuses_of_member facts owner vs) members f b in
        let r = Contains-flat_map_from (misuse facts owner vs) (fragment_usages facts m.0.file m.0.fragment) f m.2 in
        misused_by r.0 f (variable_named vs r.0.used.name) (in_member (reached.sound m.0 m.1) r.1) refl r.2
  ]

  at_usage : (x : Usage) (f : Fault) → Usages facts d o x → Contains (misuse facts owner vs x) f → Contains (usage_faults facts owner d.file o members vs) f
  at_usage x f (in_operation h) m = Contains-append_left (flat_map (misuse facts owner vs) own) (flat_map (misuses_of_member facts owner vs) members) f
      (Contains-flat_map (misuse facts owner vs) own x f h m)
  at_usage x f (in_member {g = g} r h) m = Contains-append_right (flat_map (misuse facts owner vs) own) (flat_map (misuses_of_member facts owner vs) members) f
      (Contains-flat_map (misuses_of_member facts owner vs) members g f (reached.complete g r)
      (Contains-flat_map (misuse facts owner vs) (fragment_usages facts g.file g.fragment) x f h m))

  complete29 : (f : Fault) → v29.IsFault facts d o f → Contains (usage_faults facts owner d.file o members vs) f
  complete29 f (v29.not_allowed {x = x} {v = v} u is judged off) =
      let g = fault_of_use owner rule.V29 x.used in
      at_usage x g u
      (subst (λ w. Contains (misuse_of facts owner x w) g) (sym is)
      (subst (λ a. Contains (if not a && is_judged facts v then g ∷ [] else []) g) (sym off)
      (subst (λ j. Contains (if j then g ∷ [] else []) g) (sym judged) (Contains-here g []))))

  -- ---- V26 and P04

  sound_types : (f : Fault) → Contains (flat_map (type_faults facts owner) vs) f → IsFaultOf facts d o f
  sound_types f h =
      let r = Contains-flat_map_from (type_faults facts owner) vs f h in
      elim (Contains-append_cases (v26.faults facts owner r.0) (p04.faults facts owner r.0) f r.2) [
        | inl a ↦ by_v26 (Contains-flat_map (v26.faults facts owner) vs r.0 f r.1 a)
        | inr b ↦ by_p04 (Contains-flat_map (p04.faults facts owner) vs r.0 f r.1 b)
      ]

  complete26 : (f : Fault) → Contains (flat_map (v26.faults facts owner) vs) f → Contains (flat_map (type_faults facts owner) vs) f
  complete26 f h = let r = Contains-flat_map_from (v26.faults facts owner) vs f h in
      Contains-flat_map (type_faults facts owner) vs r.0 f r.1 (Contains-append_left (v26.faults facts owner r.0) (p04.faults facts owner r.0) f r.2)

  complete04 : (f : Fault) → Contains (flat_map (p04.faults facts owner) vs) f → Contains (flat_map (type_faults facts owner) vs) f
  complete04 f h = let r = Contains-flat_map_from (p04.faults facts owner) vs f h in
      Contains-flat_map (type_faults facts owner) vs r.0 f r.1 (Contains-append_right (v26.faults facts owner r.0) (p04.faults facts owner r.0) f r.2)

  -- ---- all

  abbrev typed : List Fault
  typed = flat_map (type_faults facts owner) vs

  abbrev at_uses : List Fault
  at_uses = use_faults owner d members vs

  abbrev at_usages : List Fault
  at_usages = usage_faults facts owner d.file o members vs

  abbrev pub all_faults : List Fault
  all_faults = v25.faults owner vs ++ (typed ++ (at_uses ++ at_usages))

  sound : (f : Fault) → Contains all_faults f → IsFaultOf facts d o f
  sound f h = elim (Contains-append_cases (v25.faults owner vs) (typed ++ (at_uses ++ at_usages)) f h) [
    | inl a ↦ by_v25 a
    | inr b ↦ elim (Contains-append_cases typed (at_uses ++ at_usages) f b) [
      | inl t ↦ sound_types f t
      | inr r ↦ elim (Contains-append_cases at_uses at_usages f r) [
        | inl u ↦ elim (Contains-append_cases (flat_map (undefined owner vs) us) (flat_map (unused owner vs us) vs) f u) [
          | inl x ↦ by_v27 (sound27 f x)
          | inr y ↦ by_v28 (sound28 f y)
        ]
        | inr z ↦ by_v29 (sound29 f z)
      ]
    ]
  ]

  types : (f : Fault) → Contains typed f → Contains all_faults f
  types f h = Contains-append_right (v25.faults owner vs) (typed ++ (at_uses ++ at_usages)) f (Contains-append_left typed (at_uses ++ at_usages) f h)

  later : (f : Fault) → Contains (at_uses ++ at_usages) f → Contains all_faults f
  later f h = Contains-append_right (v25.faults owner vs) (typed ++ (at_uses ++ at_usages)) f (Contains-append_right typed (at_uses ++ at_usages) f h)

  uses : (f : Fault) → Contains at_uses f → Contains all_faults f
  uses f h = later f (Contains-append_left at_uses at_usages f h)

  complete : (f : Fault) → IsFaultOf facts d o f → Contains all_faults f
  complete f (by_v25 h) = Contains-append_left (v25.faults owner vs) (typed ++ (at_uses ++ at_usages)) f h
  complete f (by_v26 h) = types f (complete26 f h)
  complete f (by_p04 h) = types f (complete04 f h)
  complete f (by_v27 h) = uses f (Contains-append_left (flat_map (undefined owner vs) us) (flat_map (unused owner vs us) vs) f (complete27 f h))
  complete f (by_v28 h) = uses f (Contains-append_right (flat_map (undefined owner vs) us) (flat_map (unused owner vs us) vs) f (complete28 f h))
  complete f (by_v29 h) = later f (Contains-append_right at_uses at_usages f (complete29 f h))

  pub lists : (found : List Fault) → found ≡ all_faults → Lists found (IsFaultOf facts d o)
  lists found is = subst (λ l. Lists l (IsFaultOf facts d o)) (sym is) (record { sound = λ f h. sound f h; complete = λ f h. complete f h })

four : {A : Type 0} (none a b c e : List A) → none ≡ [] → (((none ++ a) ++ b) ++ c) ++ e ≡ a ++ (b ++ (c ++ e))
four none a b c e empty = ap (λ l. (((l ++ a) ++ b) ++ c) ++ e) empty ∙ append_assoc (a ++ b) c e ∙ append_assoc a b (c ++ e)

-- the parts as the code adds them, one after the other
pub all_of : (facts later : Facts) (d : Definition) (o : Operation) (members : List FragmentFact) (at : FilePlace) (vs : List VariableDefinition) (ms : List FragmentFact)
    (none first second third fourth : List Fault) → at ≡ owner_of d → vs ≡ o.variables → ms ≡ members → later ≡ facts → none ≡ []
    → first ≡ none ++ v25.faults at vs
    → second ≡ first ++ flat_map (type_faults facts at) vs
    → third ≡ second ++ use_faults at d ms vs
    → fourth ≡ third ++ usage_faults later at d.file o ms o.variables
    → fourth ≡ v25.faults (owner_of d) o.variables ++ (flat_map (type_faults facts (owner_of d)) o.variables
    ++ (use_faults (owner_of d) d members o.variables ++ usage_faults facts (owner_of d) d.file o members o.variables))
all_of facts later d o members at vs ms none first second third fourth here these those same empty a b c e =
    e ∙ ap (λ l. l ++ usage_faults later at d.file o ms o.variables) (c ∙ ap (λ l. l ++ use_faults at d ms vs)
    (b ∙ ap (λ l. l ++ flat_map (type_faults facts at) vs) a))
    ∙ four none (v25.faults at vs) (flat_map (type_faults facts at) vs) (use_faults at d ms vs) (usage_faults later at d.file o ms o.variables) empty
    ∙ ap (λ f. v25.faults at vs ++ (flat_map (type_faults facts at) vs ++ (use_faults at d ms vs ++ usage_faults f at d.file o ms o.variables))) same
    ∙ ap (λ p. v25.faults p vs ++ (flat_map (type_faults facts p) vs ++ (use_faults p d ms vs ++ usage_faults facts p d.file o ms o.variables))) here
    ∙ ap (λ xs. v25.faults (owner_of d) xs ++ (flat_map (type_faults facts (owner_of d)) xs ++ (use_faults (owner_of d) d ms xs ++ usage_faults facts (owner_of d) d.file o ms o.variables))) these
    ∙ ap (λ gs. v25.faults (owner_of d) o.variables ++ (flat_map (type_faults facts (owner_of d)) o.variables
    ++ (use_faults (owner_of d) d gs o.variables ++ usage_faults facts (owner_of d) d.file o gs o.variables))) those

-- ---- the faults of a definition that is an operation

abbrev some_operation : Tree → Operation → Operation
some_operation (tree.Operation o) p = o
some_operation _ p = p

pub of_lists : (facts : Facts) (d : Definition) (o : Operation) (found : List Fault) → d.tree ≡ tree.Operation o → Lists found (IsFaultOf facts d o)
    → Lists found (IsVariableFault facts d)
of_lists facts d o found is all = record {
  sound = λ f h. of_operation is (all.sound f h);
  complete = λ f h. complete f h;
} where
  complete : (f : Fault) → IsVariableFault facts d f → Contains found f
  complete f (of_operation {o = p} its h) =
      all.complete f (subst (λ q. IsFaultOf facts d q f) (ap (λ t. some_operation t o) (sym its ∙ is)) h)
