-- The files that the small callers of this crate begin with, and find.
use Rattle.std.specs.Prelude.{ℕ, List, [], ◌∷◌, codes}
use Rattle.fs_small.specs.MemFs.{Stock}

-- one file, node 2 named `a`, that has these contents
abbrev pub one_file : List ℕ → Stock
one_file contents = record {
  files = record { node = 2; name = codes "a"; contents = contents } ∷ [];
  next = 3;
}

-- the same file with the contents `hello`, and one named `b` that is new
abbrev pub two_files : Stock
two_files = record {
  files =
      record { node = 2; name = codes "a"; contents = codes "hello" }
      ∷ record { node = 3; name = codes "b"; contents = [] }
      ∷ [];
  next = 4;
}
