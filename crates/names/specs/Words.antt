-- Words, sought anywhere in a value.
use Rattle.std.specs.Prelude.{◌≡◌, ℕ, Bool, true, false, ◌&&◌, ◌||◌, List, [], ◌∷◌, ◌++◌, codes, ◌==◌}
use Rattle.std.specs.List.{ContainsAt as Has}

-- whether a value begins with a word
abbrev pub begins : List ℕ → List ℕ → Bool
begins [] v = true
begins (c ∷ cs) [] = false
begins (c ∷ cs) (b ∷ bs) = c == b && begins cs bs

-- whether a value begins with one of the words
abbrev pub some_begins : List (List ℕ) → List ℕ → Bool
some_begins [] v = false
some_begins (w ∷ ws) v = begins w v || some_begins ws v

-- whether one of the words stands at some place of a value
abbrev pub has_word : List (List ℕ) → List ℕ → Bool
has_word ws [] = some_begins ws []
has_word ws (b ∷ bs) = some_begins ws (b ∷ bs) || has_word ws bs

-- some word of the list occurs in the value
abbrev pub SomeWord : List (List ℕ) → List ℕ → Type 0
SomeWord ws v = (w : List ℕ) × Has ws w × ((front : List ℕ) × ((rest : List ℕ) × (v ≡ front ++ (w ++ rest))))

-- the words of an id or a class that speak for an article, and against one
abbrev pub positive : List (List ℕ)
positive =
    codes "article" ∷ codes "body" ∷ codes "content" ∷ codes "entry" ∷ codes "hentry" ∷ codes "main" ∷ codes "page" ∷ codes "pagination" ∷ codes "post" ∷ codes "text" ∷ codes "blog" ∷ codes "story" ∷ []

abbrev pub negative : List (List ℕ)
negative =
    codes "combx" ∷ codes "comment" ∷ codes "com" ∷ codes "contact" ∷ codes "foot" ∷ codes "footer" ∷ codes "footnote" ∷ codes "masthead" ∷ codes "media" ∷ codes "meta" ∷ codes "outbrain" ∷ codes "promo" ∷ codes "related" ∷ codes "scroll" ∷ codes "shoutbox" ∷ codes "sidebar" ∷ codes "sponsor" ∷ codes "shopping" ∷ codes "tags" ∷ codes "tool" ∷ codes "widget" ∷ codes "form" ∷ codes "textfield" ∷ codes "uiScale" ∷ codes "hidden" ∷ []

-- the words of an element that goes, and of one that stays for all that
abbrev pub unlikely : List (List ℕ)
unlikely =
    codes "combx" ∷ codes "comment" ∷ codes "community" ∷ codes "disqus" ∷ codes "extra" ∷ codes "foot" ∷ codes "header" ∷ codes "menu" ∷ codes "remark" ∷ codes "rss" ∷ codes "shoutbox" ∷ codes "sidebar" ∷ codes "sponsor" ∷ codes "ad-break" ∷ codes "agegate" ∷ codes "pagination" ∷ codes "pager" ∷ codes "popup" ∷ codes "tweet" ∷ codes "twitter" ∷ codes "ssba" ∷ []

abbrev pub likely : List (List ℕ)
likely = codes "and" ∷ codes "article" ∷ codes "body" ∷ codes "column" ∷ codes "main" ∷ codes "shadow" ∷ codes "content" ∷ codes "hentry" ∷ []
