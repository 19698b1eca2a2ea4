-- V29, All Variable Usages Are Allowed: a variable is used where its type does not fit (GraphQL
-- 5.8.5). Of variables of one name, the first counts. If the type of a variable is unknown, only V26
-- or P04 reports it.
-- Reported at the `$` of the use, about the variable, in each operation that reaches the use.
use Rattle.std.specs.Prelude.{◌≡◌, Bool, true, false, ◌&&◌, ◌||◌, not, bytes_eq, is_some, Option, Some, None, if◌then◌else◌}
use Rattle.gql_ast.specs.declared.definition.Definition.{Definition}
use Rattle.gql_ast.specs.declared.executable.Operation.{Operation}
use Rattle.gql_ast.specs.declared.executable.VariableDefinition.{VariableDefinition}
use Rattle.gql_ast.specs.declared.fault.Fault.{Fault}
use Rattle.gql_ast.specs.declared.literal.Literal.{Literal}
use Rattle.gql_ast.specs.declared.rule.Rule.TheVariants as rule
use Rattle.gql_types.specs.Written.{Written, named, listed, required, written}
use Rattle.gql_facts.specs.Worlds.{Facts}
use Rattle.gql_inputs.specs.InputTypes.{is_non_null}
use Rattle.gql_rules.specs.Answers.{kind_of}
use Rattle.gql_rules.specs.Literals.{is_null}
use Rattle.gql_rules.specs.LocalFaults.{owner_of}
use Rattle.gql_vars.specs.Faults.{fault_of_use}
use Rattle.gql_vars.specs.Usages.{Location, Usage, Usages}
use Rattle.gql_vars.specs.Variables.{type_name, variable_named}
pub use Rattle.gql_types.specs.Covariance.{nullable}

-- The type of a variable, the first, fits that of a location (AreTypesCompatible): it is Non-Null
-- if that of the location is, a list exactly if that is, and names the same type.
abbrev pub fits : Written → Written → Bool
fits (required t) (required u) = fits t u
fits (named n) (required u) = false
fits (listed t) (required u) = false
fits (required t) (named m) = fits t (named m)
fits (required t) (listed u) = fits t (listed u)
fits (listed t) (listed u) = fits t u
fits (named n) (listed u) = false
fits (listed t) (named m) = false
fits (named n) (named m) = bytes_eq n m

-- whether there is a default value other than null
abbrev pub has_value : Option Literal → Bool
has_value None = false
has_value (Some x) = not (is_null x)

-- whether a type that is not Non-Null may be used at a Non-Null location, since the variable or the
-- location has a default value
abbrev pub is_never_null : Written → Bool → Location → Bool
is_never_null t has_value at =
    is_non_null at.expected && (not (is_non_null t) && (has_value || at.has_default))

-- a variable of this type is allowed at a location (IsVariableUsageAllowed); `has_value`: it has a
-- default value other than null
abbrev pub allows : Written → Bool → Location → Bool
allows t has_value at = if is_never_null t has_value at
    then fits t (nullable at.expected)
    else fits t at.expected

-- a variable is allowed at a location
abbrev pub is_allowed : VariableDefinition → Location → Bool
is_allowed v at = allows (written v.of_type) (has_value v.default) at

-- V29 checks a variable if its type is known
abbrev pub is_judged : Facts → VariableDefinition → Bool
is_judged facts v = is_some (kind_of facts (type_name v).text)

-- the faults of an operation, which is the definition d
pub data IsFault (facts : Facts) (d : Definition) (o : Operation) : Fault → Type 0 where
  not_allowed : {x : Usage} {v : VariableDefinition} → Usages facts d o x
      → variable_named o.variables x.used.name ≡ Some v → is_judged facts v ≡ true
      → is_allowed v x.location ≡ false
      → IsFault facts d o (fault_of_use (owner_of d) rule.V29 x.used)
