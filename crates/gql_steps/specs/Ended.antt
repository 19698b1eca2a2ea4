-- How a part of a value ends, if it consists of two parts, one after the other.
use Rattle.gql_steps.specs.declared.ended.Ended.{Ended}
use Rattle.gql_steps.specs.declared.ended.Ended.TheVariants.{Written, Bubbled}

-- how two parts end together: a null that bubbles from either bubbles on
abbrev pub both : Ended → Ended → Ended
both Written next = next
both Bubbled next = Bubbled
