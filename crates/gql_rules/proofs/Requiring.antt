-- Which arguments and fields of facts are required: three definitions that agree.
use Rattle.std.proofs.Common.{◌≡◌, ◌&&◌, ℕ, List, [], ◌∷◌, Bool, not, refl, ap, ◌∙◌, sym, filter, flat_map}
use Rattle.gql_text.specs.declared.place.Place.{Place}
use Rattle.gql_ast.specs.declared.fault.FilePlace.{FilePlace}
use Rattle.gql_ast.specs.declared.literal.Argument.{Argument}
use Rattle.gql_types.specs.RequiredInputs.{is_non_null as non_null, is_required as is_required_by}
use Rattle.gql_types.specs.Written.{named}
use Rattle.gql_types.specs.WrittenTypes.{typed, typed_of}
use Rattle.gql_types.specs.declared.written_type.Wrapper.{Wrapper}
use Rattle.gql_types.specs.declared.written_type.Wrapper.TheVariants as wrapper
use Rattle.gql_types.proofs.Filtering.{found_in_these}
use Rattle.gql_facts.specs.declared.fact.InputFact.{InputFact}
use Rattle.gql_inputs.specs.Lookups.{is_required as is_required_field}
use Rattle.gql_rules.specs.Answers.{is_required, starts_non_null}
use Rattle.gql_rules.specs.KnownInputs.{field_of}
use Rattle.gql_rules.specs.V10RequiredArguments.{fault_about}

-- a fact is required, as gql_facts has it
abbrev pub required_fact : InputFact → Bool
required_fact i = is_required_by (typed_of i.of_type) i.has_default

first_step : (steps : List Wrapper) (n : List ℕ) → non_null (typed steps (named n)) ≡ starts_non_null steps
first_step [] n = refl
first_step (wrapper.List ∷ steps) n = refl
first_step (wrapper.NonNull ∷ steps) n = refl

-- as the field that is made from it
pub same_required : (i : InputFact) → required_fact i ≡ is_required_field (field_of i)
same_required i = refl

-- as an argument
pub same_argument : (i : InputFact) → required_fact i ≡ is_required i
same_argument i = ap (λ b. b && not i.has_default) (first_step i.of_type.wrappers i.of_type.name)

-- the faults about missing arguments are about those that are required
pub of_required : (owner : FilePlace) (at : Place) (given : List Argument) (inputs : List InputFact)
    → flat_map (fault_about owner at given) (filter required_fact inputs) ≡ flat_map (fault_about owner at given) inputs
of_required owner at given = found_in_these required_fact (fault_about owner at given) (λ i h. rw (sym (same_argument i) ∙ h) refl)
