-- Which file of a registry a path below a folder is: this registry's own rule.
use Rattle.std.specs.Prelude.{ℕ, ◌-◌, ◌==◌, List, length, take, drop, map, codes, bytes_eq, nat_eq, if◌then◌else◌}
use Rattle.std.specs.List.{starts_with, ends_with}
use Rattle.gql_ast.specs.FileNames.{is_file_name}
use Rattle.gql_ast.specs.declared.fault.FileSide.{FileSide}
use Rattle.gql_ast.specs.declared.fault.FileSide.TheVariants.{Schema, Documents}
use Rattle.gql_folder.specs.declared.role.Role.{Role}
use Rattle.gql_folder.specs.declared.role.Role.TheVariants.{File, Data, Misnamed, Other}

-- a dot for a slash, and each other byte as it is
abbrev pub dotted : ℕ → ℕ
dotted b = if b == 47 then 46 else b

-- the name of the file at a path that has no extension
abbrev pub name_at : List ℕ → List ℕ
name_at = map dotted

-- the path without this many bytes at its end
abbrev pub without : ℕ → List ℕ → List ℕ
without count path = take (length path - count) path

-- the file of a side at a path that has no extension, or a path that gives no name, where a name
-- has at most so many bytes
abbrev pub file_at : ℕ → FileSide → List ℕ → Role
file_at most side stem =
    if is_file_name most (name_at stem) then File side (name_at stem) else Misnamed

-- a path below the folder of a side: a file of it, if it has one of three extensions
abbrev pub role_below : ℕ → FileSide → List ℕ → Role
role_below most side path =
    if ends_with nat_eq path (codes ".graphql") then file_at most side (without 8 path)
    else if ends_with nat_eq path (codes ".graphqls") then file_at most side (without 9 path)
    else if ends_with nat_eq path (codes ".gql") then file_at most side (without 4 path)
    else Other

-- a path below a folder: below `schema/` and `documents/` are the files of the registry
abbrev pub role_in : ℕ → List ℕ → Role
role_in most path =
    if starts_with nat_eq path (codes "schema/") then role_below most Schema (drop 7 path)
    else if starts_with nat_eq path (codes "documents/")
    then role_below most Documents (drop 10 path)
    else Other

-- What the file at a path below a folder is: `data.json` is the data; below `schema/` and
-- `documents/`, the files with an extension of GraphQL are those of the registry, whose names have
-- at most so many bytes.
abbrev pub role_at : ℕ → List ℕ → Role
role_at most path = if bytes_eq path (codes "data.json") then Data else role_in most path
