-- Worked examples of the roles of paths.
use Rattle.std.specs.Prelude.{◌≡◌, refl, codes}
use Rattle.gql_ast.specs.declared.fault.FileSide.TheVariants.{Schema, Documents}
use Rattle.gql_folder.specs.Roles.{role_at}
use Rattle.gql_folder.specs.declared.role.Role.TheVariants.{File, Data, Misnamed, Other}

-- a schema file
pub plain : role_at 64 (codes "schema/users.graphql") ≡ File Schema (codes "users")
plain = refl

-- a file in a folder below
pub nested : role_at 64 (codes "documents/web/home.gql") ≡ File Documents (codes "web.home")
nested = refl

-- the data
pub data_file : role_at 64 (codes "data.json") ≡ Data
data_file = refl

-- a name with a space is not one of the registry
pub misnamed : role_at 64 (codes "schema/a b.graphqls") ≡ Misnamed
misnamed = refl

-- a file of another kind
pub other : role_at 64 (codes "schema/README.md") ≡ Other
other = refl

-- a name of 65 bytes is none where a name has at most 64
pub too_long : role_at 64 (codes "schema/aaaaaaaaaaaaaaaaaaaaaaaaaaaaaaaaaaaaaaaaaaaaaaaaaaaaaaaaaaaaaaaaa.gql") ≡ Misnamed
too_long = refl

-- it is one where a name has at most 255
pub long
    : role_at 255 (codes "schema/aaaaaaaaaaaaaaaaaaaaaaaaaaaaaaaaaaaaaaaaaaaaaaaaaaaaaaaaaaaaaaaaa.gql")
    ≡ File Schema (codes "aaaaaaaaaaaaaaaaaaaaaaaaaaaaaaaaaaaaaaaaaaaaaaaaaaaaaaaaaaaaaaaaa")
long = refl
