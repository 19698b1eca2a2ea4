-- The two profiles that users can name.
use Rattle.std.specs.Prelude.{true, false}
use Rattle.gql_ast.specs.declared.profile.Profile.{Profile}

-- no Float and no subscriptions; the limits of a small registry
abbrev pub whole_numbers : Profile
whole_numbers = record {
  floats = false;
  subscriptions = false;
  limits = record {
    schema_file = 65536;
    document_file = 65536;
    files = 256;
    name = 64;
    values = 100000;
    body = 262144;
  };
}

-- the whole type system of October 2021, and large schemas
abbrev pub october_2021 : Profile
october_2021 = record {
  floats = true;
  subscriptions = true;
  limits = record {
    schema_file = 4194304;
    document_file = 65536;
    files = 10000;
    name = 255;
    values = 1000000;
    body = 8388608;
  };
}
