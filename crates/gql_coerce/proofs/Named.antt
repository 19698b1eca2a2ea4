-- A refusal of the variables of a request begins with the name of one of them.
use Rattle.std.proofs.Common.{◌≡◌, ◌+◌, ℕ, List, [], ◌∷◌, map, Contains, sym, ap, ◌∙◌}
use Rattle.gql_ast.specs.declared.executable.VariableDefinition.{VariableDefinition}
use Rattle.gql_types.specs.declared.schema.Schema.{Schema}
use Rattle.serde_json.specs.Data as json
use Rattle.serde_json.specs.Data.{Data}
use Rattle.gql_coerce.specs.Coercion.{put_all, under}
use Rattle.gql_coerce.specs.Laws.{NamedRefusals}
use Rattle.gql_coerce.specs.Outcomes.{Reached, value, refused, too_deep, after, within, all}
use Rattle.gql_coerce.specs.Requests.{named_variable, variables, variable_value}
use Rattle.gql_coerce.specs.declared.refusal.Reason.{Reason}
use Rattle.gql_coerce.specs.declared.refusal.Segment.{Segment}
use Rattle.gql_coerce.specs.declared.refusal.Segment.TheVariants as segment
use Rattle.gql_coerce.proofs.Containing.{Contains-here, Contains-there}

-- where something is refused after another thing, one of the two is
data Refuses {A B : Type 0} (o : Reached A) (f : A → Reached B) (r : Reason) (path : List Segment) : Type 0 where
  first : o ≡ refused r path → Refuses o f r path
  later : (x : A) → f x ≡ refused r path → Refuses o f r path

refuses : {A B : Type 0} (o : Reached A) (f : A → Reached B) (r : Reason) (path : List Segment) → after o f ≡ refused r path → Refuses o f r path
refuses (value x) f r path e = later x e
refuses {A = A} {B = B} (refused q other) f r path e =
    let reasons : q ≡ r = cc e in
    let paths : other ≡ path = cc e in
    first (ap (λ q. refused q other) reasons ∙ ap (λ l. refused r l) paths)
refuses too_deep f r path e = absurd (cc e)

never : {A : Type 0} (x : A) (r : Reason) (path : List Segment) → value x ≡ refused r path → ⊥
never x r path e = cc e

-- what is refused at a segment has it at the head of its path
at_head : {A : Type 0} (g : Segment) (o : Reached A) (r : Reason) (path : List Segment) → within g o ≡ refused r path → (rest : List Segment) × (path ≡ g ∷ rest)
at_head g (value x) r path e = absurd (cc e)
at_head g (refused q other) r path e = let paths : g ∷ other ≡ path = cc e in (other, sym paths)
at_head g too_deep r path e = absurd (cc e)

-- the path begins with the name of one of these
abbrev Named : List VariableDefinition → List Segment → Type 0
Named ds path = (v : VariableDefinition) × Contains ds v × ((rest : List Segment) × (path ≡ segment.Key v.name.text ∷ rest))

module _ (n : ℕ) (s : Schema) (values : Data) where
  of_one : (v : VariableDefinition) (r : Reason) (path : List Segment) → named_variable n s values v ≡ refused r path → (rest : List Segment) × (path ≡ segment.Key v.name.text ∷ rest)
  of_one v r path e = by (refuses (variable_value n s values v) (λ d. value (under v.name.text d)) r path e) where
    by : Refuses (variable_value n s values v) (λ d. value (under v.name.text d)) r path → (rest : List Segment) × (path ≡ segment.Key v.name.text ∷ rest)
    by (first e) = at_head (segment.Key v.name.text) _ r path e
    by (later d e) = absurd (never (under v.name.text d) r path e)

  of_all : (ds : List VariableDefinition) (r : Reason) (path : List Segment) → all (map (named_variable n s values) ds) ≡ refused r path → Named ds path
  of_all [] r path e = absurd (never [] r path e)
  of_all (v ∷ ds) r path e = by (refuses (named_variable n s values v) (λ x. after (all (map (named_variable n s values) ds)) (λ xs. value (x ∷ xs))) r path e) (of_all ds r path) where
    more : Named ds path → Named (v ∷ ds) path
    more (w, there, is) = (w, Contains-there w v ds there, is)

    by : Refuses (named_variable n s values v) (λ x. after (all (map (named_variable n s values) ds)) (λ xs. value (x ∷ xs))) r path
        → (all (map (named_variable n s values) ds) ≡ refused r path → Named ds path) → Named (v ∷ ds) path
    by (first e) rest = (v, Contains-here v ds, of_one v r path e)
    by (later x e) rest = under_it (refuses (all (map (named_variable n s values) ds)) (λ xs. value (x ∷ xs)) r path e) rest where
      under_it : Refuses (all (map (named_variable n s values) ds)) (λ xs. value (x ∷ xs)) r path
          → (all (map (named_variable n s values) ds) ≡ refused r path → Named ds path) → Named (v ∷ ds) path
      under_it (first e) rest = more (rest e)
      under_it (later xs e) rest = absurd (never (x ∷ xs) r path e)

  of_variables : (ds : List VariableDefinition) (r : Reason) (path : List Segment) → variables n s ds values ≡ refused r path → Named ds path
  of_variables ds r path e = by (refuses (all (map (named_variable n s values) ds)) (λ more. value (json.object (put_all more json.no_members))) r path e) where
    by : Refuses (all (map (named_variable n s values) ds)) (λ more. value (json.object (put_all more json.no_members))) r path → Named ds path
    by (first e) = of_all ds r path e
    by (later more e) = absurd (never (json.object (put_all more json.no_members)) r path e)

pub named_refusals : NamedRefusals
named_refusals s ds values r path (k, is) = of_variables (k + 0) s values ds r path (is 0)
