-- The links of a page: each node's parent, and where what stands under it ends.
use Rattle.std.specs.Prelude.{ℕ, ◌<◌, List, Option, None, slice_index_or}
use Rattle.table.specs.Table.{Table}
use Rattle.table.specs.Links.{ParentOf, EndOf}
use Rattle.pagefile.specs.declared.link.Link.{Link}

-- the link past the last
abbrev pub no_link : Link
no_link = record { parent = 0; end = None }

abbrev pub parent_in : List Link → ℕ → ℕ
parent_in ls k = (slice_index_or ls k no_link).parent

abbrev pub end_in : List Link → ℕ → Option ℕ
end_in ls k = (slice_index_or ls k no_link).end

-- parents and ends of the first n nodes
abbrev pub Parents : Table → ℕ → List Link → Type 0
Parents t n ls = (k : ℕ) → 0 < k → k < n → ParentOf t k (parent_in ls k)

abbrev pub Ends : Table → ℕ → List Link → Type 0
Ends t n ls = (k : ℕ) → k < n → EndOf t n k (end_in ls k)
