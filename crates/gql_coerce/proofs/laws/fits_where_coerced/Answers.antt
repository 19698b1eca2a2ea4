use Rattle.gql_coerce.proofs.Fitted as fitted
use Rattle.gql_coerce.proofs.laws.fits_where_coerced.Goals as goal

pub returns : goal.returns
returns c = λ s good t known x is no values o comes. fitted.fits_where_coerced s good t known x is no values o comes
