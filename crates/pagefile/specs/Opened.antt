-- What an opened page means.
use Rattle.std.specs.Prelude.{◌≡◌, ℕ, List, [], ◌≢◌}
use Rattle.page.specs.declared.kind.NodeKind.TheVariants.{Document}
use Rattle.page.specs.Forest.{Forest, none, node}
use Rattle.table.specs.Table.{tree_of}
use Rattle.table.specs.Fits.{Fits}
use Rattle.pagefile.specs.declared.opened.OpenedPage.{OpenedPage}
use Rattle.pagefile.specs.File.{table_of}
use Rattle.pagefile.specs.Format.{encode}

-- the tree of its file
abbrev pub opened_tree : OpenedPage → Forest
opened_tree p = tree_of (table_of p.sections.file.now)

-- the document alone
abbrev pub document_alone : Forest
document_alone = node 0 Document [] [] none none

-- f is the file of the tree t, which fits, and of no other tree that fits
pub record FileOf (f : List ℕ) (t : Forest) : Type 0 where
  pub fits : Fits t
  pub written : f ≡ encode t
  pub only : (s : Forest) → Fits s → f ≡ encode s → s ≡ t

-- f is the file of no tree that fits
abbrev pub NoFile : List ℕ → Type 0
NoFile f = (t : Forest) → Fits t → f ≢ encode t
