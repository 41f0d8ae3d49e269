-- A file that begins with tag 1 with some data and goes on with any bytes. Assumes nothing.
use Rattle.std.specs.Prelude.{List, ◌++◌, ℕ}
use Rattle.sheet_file.specs.Grammar.{field}

-- tag 1 with these data, and any bytes after it, well framed or not
abbrev pub settled : List ℕ → List ℕ → List ℕ
settled settings rest = field 1 settings ++ rest
