-- What variables and arguments come to in cases is what they come to, and the other way round.
use Rattle.std.proofs.Common.{◌≡◌, ◌+◌, ℕ, List, [], ◌∷◌, Bool, true, false, if◌then◌else◌, map, Option, Some, None, refl, ap, sym, subst, ◌∙◌}
use Rattle.gql_ast.specs.declared.executable.VariableDefinition.{VariableDefinition}
use Rattle.gql_ast.specs.declared.literal.Argument.{Argument}
use Rattle.gql_ast.specs.declared.literal.Literal.{Literal}
use Rattle.gql_ast.specs.declared.type_system.InputValueDefinition.{InputValueDefinition}
use Rattle.gql_inputs.specs.InputTypes.{is_non_null}
use Rattle.gql_types.specs.declared.schema.Schema.{Schema}
use Rattle.serde_json.specs.Data as json
use Rattle.serde_json.specs.Data.{Data}
use Rattle.gql_coerce.specs.Coercion.{coerced, object_of, put_all, under}
use Rattle.gql_coerce.specs.Comes.{Outcome, reached}
use Rattle.gql_coerce.specs.Comes as comes
use Rattle.gql_coerce.specs.Inputs.{Input, literal}
use Rattle.gql_coerce.specs.Outcomes.{Reached, value, refused, too_deep, after, within, all}
use Rattle.gql_coerce.specs.Requests.{arguments, default_at, given_at, named_argument, named_variable, or_default_at, request_at, variables}
use Rattle.gql_coerce.specs.declared.refusal.Reason.TheVariants as reason
use Rattle.gql_coerce.specs.declared.refusal.Segment.TheVariants.{Key}
use Rattle.gql_cases.specs.Requests as cases
use Rattle.gql_cases.specs.Requests.{AllBecome, ArgumentsInCases, Asked, AskedBecomes, BecomeObject, IsLeftOut, VariablesInCases, of_argument, of_variable, one_object}
use Rattle.gql_cases.specs.Inputs.{Becomes, below}
use Rattle.gql_cases.proofs.OfInputs.{Ev, always, back, input, instead, mapped, never, pick_false, pick_true, refused_is, then_refused, then_value, value_is, within_is}

-- what is asked for, with at most n levels, and under its name
abbrev asked_at : ℕ → Schema → Asked → Reached (Option Data)
asked_at n s a = request_at n s a.name a.of_type a.default a.given

abbrev named_at : ℕ → Schema → Asked → Reached (Option (List ℕ × Data))
named_at n s a = after (asked_at n s a) (λ v. value (under a.name v))

-- ---- from the cases to what is reached

module _ (s : Schema) where
  given_is : (a : Asked) (x : Input) (o : Outcome (Option Data)) → a.given ≡ Some x → Becomes s (Some a.of_type) x o
      → Ev (λ k. given_at k s a.of_type a.given) o
  given_is a x o is h = instead (λ k. coerced k s x (Some a.of_type)) (λ k. given_at k s a.of_type a.given) o (λ k. ap (given_at k s a.of_type) is) (input s h)

  nothing_is : {a : Asked} → IsLeftOut s a → Ev (λ k. given_at k s a.of_type a.given) (comes.value None)
  nothing_is (cases.nothing_given {a = a} is) = always (λ k. given_at k s a.of_type a.given) (comes.value None) (λ k. ap (given_at k s a.of_type) is)
  nothing_is (cases.no_value_given {a = a} {x = x} is h) = given_is a x (comes.value None) is h

  -- under the name
  named : (a : Asked) (o : Outcome (Option Data)) → Ev (λ k. after (given_at k s a.of_type a.given) (or_default_at k s a.of_type a.default)) o
      → Ev (λ k. asked_at k s a) (below (Key a.name) o)
  named a o h = mapped (within (Key a.name)) (λ k. after (given_at k s a.of_type a.given) (or_default_at k s a.of_type a.default)) o (below (Key a.name) o) (within_is (Key a.name) o) h

  by_default_is : (a : Asked) (o : Outcome (Option Data)) → IsLeftOut s a → Ev (λ k. default_at k s a.of_type a.default) o → Ev (λ k. asked_at k s a) (below (Key a.name) o)
  by_default_is a o out h = named a o (then_value (λ k. given_at k s a.of_type a.given) (λ k. or_default_at k s a.of_type a.default) None o (nothing_is out) h)

  one_asked : {a : Asked} {o : Outcome (Option Data)} → AskedBecomes s a o → Ev (λ k. asked_at k s a) o
  one_asked (cases.taken {a = a} {x = x} {d = d} is h) =
      named a (comes.value (Some d)) (then_value (λ k. given_at k s a.of_type a.given) (λ k. or_default_at k s a.of_type a.default) (Some d) (comes.value (Some d))
      (given_is a x (comes.value (Some d)) is h) (always (λ k. value (Some d)) (comes.value (Some d)) (λ k. refl)))
  one_asked (cases.given_refused {a = a} {x = x} {r = r} {path = path} is h) =
      named a (comes.refused r path) (then_refused (λ k. given_at k s a.of_type a.given) (λ k. or_default_at k s a.of_type a.default) r path (given_is a x (comes.refused r path) is h))
  one_asked (cases.by_default {a = a} {x = x} {o = o} out is h) =
      by_default_is a o out (instead (λ k. coerced k s (literal json.null x) (Some a.of_type)) (λ k. default_at k s a.of_type a.default) o (λ k. ap (default_at k s a.of_type) is) (input s h))
  one_asked (cases.missing {a = a} out is required) =
      by_default_is a (comes.refused reason.NullForNonNull []) out (always (λ k. default_at k s a.of_type a.default) (comes.refused reason.NullForNonNull [])
      (λ k. ap (default_at k s a.of_type) is ∙ pick_true (is_non_null a.of_type) (refused reason.NullForNonNull []) (value None) required))
  one_asked (cases.left_out {a = a} out is optional) =
      by_default_is a (comes.value None) out (always (λ k. default_at k s a.of_type a.default) (comes.value None)
      (λ k. ap (default_at k s a.of_type) is ∙ pick_false (is_non_null a.of_type) (refused reason.NullForNonNull []) (value None) optional))

  under_name : (a : Asked) (v : Option Data) → AskedBecomes s a (comes.value v) → Ev (λ k. named_at k s a) (comes.value (under a.name v))
  under_name a v h = then_value (λ k. asked_at k s a) (λ k y. value (under a.name y)) v (comes.value (under a.name v)) (one_asked h)
      (always (λ k. value (under a.name v)) (comes.value (under a.name v)) (λ k. refl))

  all_asked : {more : List Asked} {o : Outcome (List (Option (List ℕ × Data)))} → AllBecome s more o → Ev (λ k. all (map (named_at k s) more)) o
  all_asked cases.no_more = always (λ k. value []) (comes.value []) (λ k. refl)
  all_asked (cases.all_taken {a = a} {more = more} {v = v} {vs = vs} h hs) =
      then_value (λ k. named_at k s a) (λ k y. after (all (map (named_at k s) more)) (λ ys. value (y ∷ ys))) (under a.name v) (comes.value (under a.name v ∷ vs)) (under_name a v h)
      (then_value (λ k. all (map (named_at k s) more)) (λ k ys. value (under a.name v ∷ ys)) vs (comes.value (under a.name v ∷ vs)) (all_asked hs)
      (always (λ k. value (under a.name v ∷ vs)) (comes.value (under a.name v ∷ vs)) (λ k. refl)))
  all_asked (cases.first_refused {a = a} {more = more} {r = r} {path = path} h) =
      then_refused (λ k. named_at k s a) (λ k y. after (all (map (named_at k s) more)) (λ ys. value (y ∷ ys))) r path
      (then_refused (λ k. asked_at k s a) (λ k y. value (under a.name y)) r path (one_asked h))
  all_asked (cases.later_refused {a = a} {more = more} {v = v} {r = r} {path = path} h hs) =
      then_value (λ k. named_at k s a) (λ k y. after (all (map (named_at k s) more)) (λ ys. value (y ∷ ys))) (under a.name v) (comes.refused r path) (under_name a v h)
      (then_refused (λ k. all (map (named_at k s) more)) (λ k ys. value (under a.name v ∷ ys)) r path (all_asked hs))

  object_is : (o : Outcome (List (Option (List ℕ × Data)))) → after (reached o) (λ vs. value (json.object (put_all vs json.no_members))) ≡ reached (one_object o)
  object_is (comes.value vs) = refl
  object_is (comes.refused r path) = refl

  to_reached : {more : List Asked} {o : Outcome Data} → BecomeObject s more o → Ev (λ k. object_of (map (named_at k s) more) json.no_members) o
  to_reached {more} (cases.are {o = o} h) = mapped (λ a. after a (λ vs. value (json.object (put_all vs json.no_members)))) (λ k. all (map (named_at k s) more)) o (one_object o) (object_is o) (all_asked h)

-- ---- from what is reached to the cases

module _ (s : Schema) (n : ℕ) where
  default_back : (a : Asked) (o : Outcome (Option Data)) → IsLeftOut s a → within (Key a.name) (default_at n s a.of_type a.default) ≡ reached o → AskedBecomes s a o
  default_back a o out is = by a.default refl is where
    by_outcome : (x : Literal) → a.default ≡ Some x → (p : Reached (Option Data)) → coerced n s (literal json.null x) (Some a.of_type) ≡ p → within (Key a.name) p ≡ reached o → AskedBecomes s a o
    by_outcome x def (value v) here so = subst (AskedBecomes s a) (value_is v o so) (cases.by_default out def (back s n (literal json.null x) (Some a.of_type) (comes.value v) here))
    by_outcome x def (refused r path) here so = subst (AskedBecomes s a) (refused_is r (Key a.name ∷ path) o so) (cases.by_default out def (back s n (literal json.null x) (Some a.of_type) (comes.refused r path) here))
    by_outcome x def too_deep here so = never o so

    by_type : a.default ≡ None → (b : Bool) → is_non_null a.of_type ≡ b → within (Key a.name) (if b then refused reason.NullForNonNull [] else value None) ≡ reached o → AskedBecomes s a o
    by_type def true required so = subst (AskedBecomes s a) (refused_is reason.NullForNonNull (Key a.name ∷ []) o so) (cases.missing out def required)
    by_type def false optional so = subst (AskedBecomes s a) (value_is None o so) (cases.left_out out def optional)

    by : (x : Option Literal) → a.default ≡ x → within (Key a.name) (default_at n s a.of_type x) ≡ reached o → AskedBecomes s a o
    by (Some x) def so = by_outcome x def (coerced n s (literal json.null x) (Some a.of_type)) refl so
    by None def so = by_type def (is_non_null a.of_type) refl so

  one_back : (a : Asked) (o : Outcome (Option Data)) → asked_at n s a ≡ reached o → AskedBecomes s a o
  one_back a o is = by a.given refl is where
    by_outcome : (x : Input) → a.given ≡ Some x → (p : Reached (Option Data)) → coerced n s x (Some a.of_type) ≡ p
        → within (Key a.name) (after p (or_default_at n s a.of_type a.default)) ≡ reached o → AskedBecomes s a o
    by_outcome x gives (value (Some d)) here so = subst (AskedBecomes s a) (value_is (Some d) o so) (cases.taken gives (back s n x (Some a.of_type) (comes.value (Some d)) here))
    by_outcome x gives (value None) here so = default_back a o (cases.no_value_given gives (back s n x (Some a.of_type) (comes.value None) here)) so
    by_outcome x gives (refused r path) here so = subst (AskedBecomes s a) (refused_is r (Key a.name ∷ path) o so) (cases.given_refused gives (back s n x (Some a.of_type) (comes.refused r path) here))
    by_outcome x gives too_deep here so = never o so

    by : (g : Option Input) → a.given ≡ g → within (Key a.name) (after (given_at n s a.of_type g) (or_default_at n s a.of_type a.default)) ≡ reached o → AskedBecomes s a o
    by None none so = default_back a o (cases.nothing_given none) so
    by (Some x) gives so = by_outcome x gives (coerced n s x (Some a.of_type)) refl so

  all_back : (more : List Asked) (o : Outcome (List (Option (List ℕ × Data)))) → all (map (named_at n s) more) ≡ reached o → AllBecome s more o
  all_back [] o is = subst (AllBecome s []) (value_is [] o is) cases.no_more
  all_back (a ∷ more) o is = by (λ p so. all_back more p so) (asked_at n s a) refl is where
    by_rest : ((p : Outcome (List (Option (List ℕ × Data)))) → all (map (named_at n s) more) ≡ reached p → AllBecome s more p) → (v : Option Data) → asked_at n s a ≡ value v
        → (p : Reached (List (Option (List ℕ × Data)))) → all (map (named_at n s) more) ≡ p → after p (λ vs. value (under a.name v ∷ vs)) ≡ reached o → AllBecome s (a ∷ more) o
    by_rest later v first (value vs) rest so = subst (AllBecome s (a ∷ more)) (value_is (under a.name v ∷ vs) o so) (cases.all_taken (one_back a (comes.value v) first) (later (comes.value vs) rest))
    by_rest later v first (refused r path) rest so = subst (AllBecome s (a ∷ more)) (refused_is r path o so) (cases.later_refused (one_back a (comes.value v) first) (later (comes.refused r path) rest))
    by_rest later v first too_deep rest so = never o so

    by : ((p : Outcome (List (Option (List ℕ × Data)))) → all (map (named_at n s) more) ≡ reached p → AllBecome s more p) → (p : Reached (Option Data)) → asked_at n s a ≡ p
        → after (after p (λ v. value (under a.name v))) (λ y. after (all (map (named_at n s) more)) (λ ys. value (y ∷ ys))) ≡ reached o → AllBecome s (a ∷ more) o
    by later (value v) first so = by_rest later v first (all (map (named_at n s) more)) refl so
    by later (refused r path) first so = subst (AllBecome s (a ∷ more)) (refused_is r path o so) (cases.first_refused (one_back a (comes.refused r path) first))
    by later too_deep first so = never o so

  object_back : (more : List Asked) (o : Outcome Data) → object_of (map (named_at n s) more) json.no_members ≡ reached o → BecomeObject s more o
  object_back more o is = by (all (map (named_at n s) more)) refl is where
    by : (p : Reached (List (Option (List ℕ × Data)))) → all (map (named_at n s) more) ≡ p → after p (λ vs. value (json.object (put_all vs json.no_members))) ≡ reached o → BecomeObject s more o
    by (value vs) here so = subst (BecomeObject s more) (value_is (json.object (put_all vs json.no_members)) o so) (cases.are (all_back more (comes.value vs) here))
    by (refused r path) here so = subst (BecomeObject s more) (refused_is r path o so) (cases.are (all_back more (comes.refused r path) here))
    by too_deep here so = never o so

-- ---- variables and arguments

of_variables : (s : Schema) (values : Data) (n : ℕ) (ds : List VariableDefinition) → map (named_variable n s values) ds ≡ map (named_at n s) (map (of_variable values) ds)
of_variables s values n [] = refl
of_variables s values n (d ∷ ds) = ap (λ more. named_at n s (of_variable values d) ∷ more) (of_variables s values n ds)

pub variables_in_cases : VariablesInCases
variables_in_cases s ds values o = (
  λ h. instead (λ n. object_of (map (named_at n s) (map (of_variable values) ds)) json.no_members) (λ n. variables n s ds values) o (λ n. ap (λ os. object_of os json.no_members) (of_variables s values n ds)) (to_reached s h),
  λ h. object_back s (h.0 + 0) (map (of_variable values) ds) o (sym (ap (λ os. object_of os json.no_members) (of_variables s values (h.0 + 0) ds)) ∙ h.1 0),
)

of_arguments : (s : Schema) (values : Data) (given : List Argument) (n : ℕ) (ds : List InputValueDefinition)
    → map (named_argument n s values given) ds ≡ map (named_at n s) (map (of_argument values given) ds)
of_arguments s values given n [] = refl
of_arguments s values given n (d ∷ ds) = ap (λ more. named_at n s (of_argument values given d) ∷ more) (of_arguments s values given n ds)

pub arguments_in_cases : ArgumentsInCases
arguments_in_cases s ds given values o = (
  λ h. instead (λ n. object_of (map (named_at n s) (map (of_argument values given) ds)) json.no_members) (λ n. arguments n s ds given values) o
      (λ n. ap (λ os. object_of os json.no_members) (of_arguments s values given n ds)) (to_reached s h),
  λ h. object_back s (h.0 + 0) (map (of_argument values given) ds) o (sym (ap (λ os. object_of os json.no_members) (of_arguments s values given (h.0 + 0) ds)) ∙ h.1 0),
)
