use Rattle.std.proofs.Common.{rules}
use Rattle.gql_http.proofs.Queries.{path_within}
use Rattle.gql_http.proofs.query.query_of.Goals as goal

pub slice_bounds-query_in-count : goal.slice_bounds-query_in-count
slice_bounds-query_in-count c = path_within c.args.target.now c.path_of.result.now c.path_of.ensures (search rules)

pub slice_bounds-query_in-start : goal.slice_bounds-query_in-start
slice_bounds-query_in-start c = path_within c.args.target.now c.path_of.result.now c.path_of.ensures (search rules)
