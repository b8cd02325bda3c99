-- What reading answers of a file whose tree was read, and of one whose tree was refused.
use Rattle.std.specs.Prelude.{Ok, Err}
use Prim.Native.Nat.{ℕ, ◌≤◌, ◌<◌}
use mathlib.Core.Path.{◌≡◌}
use mathlib.Core.List.{List, []}
use mathlib.Core.Option.{none, some}
use borrow.Author.Tests.{lt-ltb, le-ltb}
use lib.ListN.{length}
use Rattle.rules.specs.Basics.{given, sum, most32}
use Rattle.rules.specs.Reading.{refused, read_tree}
use Rattle.rules.specs.Expanding.{expansion}
use Rattle.rules.specs.Accepting.{good, refusal, refusal_at, first_repeat, sized, accept, accepted, file_of, on_file, read_file}
use Rattle.access.specs.Trees.{TreeRead, AcceptedFile}

pub tree-refused : (file : List ℕ) (n p : ℕ) → read_tree file ≡ refused n p → Err (refusal_at n p) ≡ read_file file
unfolding read_file file_of accepted on_file
tree-refused file n p e = rw e

module _ {file : List ℕ} (t : TreeRead file) where
  pub repeat-refused : {p : ℕ} → first_repeat [] t.tree.transitions ≡ some p → Err (refusal_at 6 p) ≡ read_file file
  unfolding read_file file_of accepted on_file accept given
  repeat-refused e = rw (t.is, e)

  module _ (e : first_repeat [] t.tree.transitions ≡ none) where
    pub sum-refused : 4294967295 < sum t.tree.fields.opening → Err (refusal 7) ≡ read_file file
    unfolding read_file file_of accepted on_file accept given sized most32
    sum-refused h = rw (t.is, e, lt-ltb 4294967295 (sum t.tree.fields.opening) h)

    module _ (h : sum t.tree.fields.opening ≤ 4294967295) where
      pub steps-refused : 1024 < length (expansion t.tree) → Err (refusal 8) ≡ read_file file
      unfolding read_file file_of accepted on_file accept given sized most32
      steps-refused k = rw (t.is, e, le-ltb 4294967295 (sum t.tree.fields.opening) h, lt-ltb 1024 (length (expansion t.tree)) k)

      pub all-good : length (expansion t.tree) ≤ 1024 → file_of file ≡ good t.tree
      unfolding file_of accepted accept given sized most32
      all-good k = rw (t.is, e, le-ltb 4294967295 (sum t.tree.fields.opening) h, le-ltb 1024 (length (expansion t.tree)) k)

pub counted : {file : List ℕ} (a : AcceptedFile file) → Ok (length (expansion a.tree)) ≡ read_file file
unfolding read_file on_file
counted a = rw a.is
