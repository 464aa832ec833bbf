-- Examples of RFC 3986, section 5.4: references on the base of that section, and what joining gives.
use Rattle.std.specs.Prelude.{◌≡◌, ℕ, List, [], ◌∷◌, Some, codes}
use Rattle.std.specs.List.{AllByRecursion}
use Rattle.address.specs.Join.{joined}

abbrev pub base : List ℕ
base = codes "http://a/b/c/d;p?q"

abbrev pub table : List (List ℕ × List ℕ)
table =
    (codes "g", codes "http://a/b/c/g")
    ∷ (codes "../../../g", codes "http://a/g")
    ∷ (codes "g:h", codes "g:h")
    ∷ (codes "./g", codes "http://a/b/c/g")
    ∷ (codes "g/", codes "http://a/b/c/g/")
    ∷ (codes "/g", codes "http://a/g")
    ∷ (codes "//g", codes "http://g")
    ∷ (codes "?y", codes "http://a/b/c/d;p?y")
    ∷ (codes "#s", codes "http://a/b/c/d;p?q#s")
    ∷ (codes "", codes "http://a/b/c/d;p?q")
    ∷ (codes "..", codes "http://a/b/")
    ∷ (codes "g;x=1/../y", codes "http://a/b/c/y")
    ∷ (codes "http:g", codes "http:g")
    ∷ []

abbrev pub JoinsStand : Type 0
JoinsStand = AllByRecursion (λ e. joined base e.0 ≡ Some e.1) table
