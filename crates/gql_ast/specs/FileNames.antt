-- Which texts are names of files: this registry's own rule.
use Rattle.std.specs.Prelude.{◌||◌, ◌&&◌, ◌==◌, ℕ, List, Bool, nat_lt, nat_le, length}
use Rattle.std.specs.List.{list_all}

-- a letter, a digit, `_`, `.` or `-`
abbrev pub is_file_name_byte : ℕ → Bool
is_file_name_byte b =
    (nat_le 97 b && nat_le b 122) || (nat_le 65 b && nat_le b 90) || (nat_le 48 b && nat_le b 57)
    || (b == 95) || (b == 46) || (b == 45)

-- a file name where one has at most so many bytes: it has one byte or more, and only these bytes
abbrev pub is_file_name : ℕ → List ℕ → Bool
is_file_name most text =
    nat_lt 0 (length text) && nat_le (length text) most && list_all is_file_name_byte text
