-- Components as they are split off are well-formed, and so are a target's.
use Rattle.std.proofs.Common.{◌≡◌, ℕ, suc, Bool, true, false, cond, ◌||◌, eqb, List, [], ◌∷◌, ◌++◌, is_some, IfSome, Some, None, codes, Option, sym, refl, ap, ◌∙◌, subst, arith}
use Rattle.std.proofs.ByRecursion.{All-append, All-take}
use Rattle.std.proofs.lemmas.List.{append_cancel_left}
use Rattle.uri.specs.Bytes.{among, front, rest, after}
use Rattle.uri.specs.Components.{Parts, named, scheme_cut, opened, authority_cut, components}
use Rattle.uri.specs.Dots.{rightmost, farther}
use Rattle.uri.specs.Laws.{Begins, Formed, Matched}
use Rattle.uri.specs.Resolve.{through, merge_front, or_else, is_empty, transform, closed}
use Rattle.uri.specs.Segments.{Without}
use Rattle.uri.specs.View.{path_front}
use Rattle.uri.proofs.Fronts.{after_front}
use Rattle.uri.proofs.Keeps.{removed-all, removed-slashed}
use Rattle.uri.proofs.NoDots.{front-without}
use Rattle.uri.proofs.ReadBack.{front-append}
use Rattle.uri.proofs.Splits.{rest-begins, scheme-whole, recompose-components}
use Rattle.uri.proofs.Targets.{by-scheme, by-authority, by-empty, by-path}

named-formed : (n : List ℕ) (o : Option (List ℕ)) (bs : List ℕ) → Without (codes ":/?#") n → IfSome (named n o bs).0 (λ s. (s ≡ [] → ⊥) × Without (codes ":/?#") s)
named-formed [] o bs h = tt
named-formed (x ∷ n) None bs h = tt
named-formed (x ∷ n) (Some y) bs h = (λ e. cc, h)

opened-formed : (ds : List ℕ) (o : Option (List ℕ)) (bs : List ℕ) → IfSome (opened ds o bs).0 (Without ds)
opened-formed ds None bs = tt
opened-formed ds (Some inner) bs = front-without ds inner

-- behind an authority comes a slash, a question mark, a hash or the end, so that its path has a slash or nothing
front-slash : (bs : List ℕ) → Begins (codes "/?#") bs → Begins (codes "/") (front (codes "?#") bs)
front-slash [] h = tt
front-slash (b ∷ bs) h = go (eqb b 47) (among (codes "?#") b) refl h
  where
    go : (t u : Bool) → eqb b 47 ≡ t → (t || u) ≡ true → Begins (codes "/") (cond u [] (b ∷ front (codes "?#") bs))
    go t true e k = tt
    go true false e k = ap (λ z. z || false) e
    go false false e k = absurd cc

opened-behind : (o : Option (List ℕ)) (bs : List ℕ) → is_some (opened (codes "/?#") o bs).0 ≡ true → Begins (codes "/?#") (opened (codes "/?#") o bs).1
opened-behind None bs e = absurd cc
opened-behind (Some inner) bs e = rest-begins (codes "/?#") inner

pub components-formed : (bs : List ℕ) → Formed (components bs)
components-formed bs =
    let hier = (scheme_cut bs).1 in
    let local = (authority_cut hier).1 in
    record {
      scheme = named-formed (front (codes ":/?#") bs) (after (codes ":") (rest (codes ":/?#") bs)) bs (front-without (codes ":/?#") bs);
      authority = opened-formed (codes "/?#") (after (codes "//") hier) hier;
      path = front-without (codes "?#") local;
      query = opened-formed (codes "#") (after (codes "?") (rest (codes "?#") local)) (rest (codes "?#") local);
      slash = λ e. front-slash local (opened-behind (after (codes "//") hier) hier e);
    }

-- a scheme and an authority are absent only where none could be matched
no_scheme : (bs : List ℕ) → (scheme_cut bs).0 ≡ None → (s more : List ℕ) → Without (codes ":/?#") s → bs ≡ s ++ (codes ":" ++ more) → s ≡ []
no_scheme bs none [] more h e = refl
no_scheme bs none (x ∷ s) more h e =
    let f = front-append (codes ":/?#") (x ∷ s) (58 ∷ more) h refl in
    let found_it : (scheme_cut bs).0 ≡ Some (x ∷ s) =
    ap (λ z. (scheme_cut z).0) e
    ∙ (ap (λ y. (named y (after (codes ":") (rest (codes ":/?#") ((x ∷ s) ++ 58 ∷ more))) ((x ∷ s) ++ 58 ∷ more)).0) f.0
    ∙ ap (λ y. (named (x ∷ s) (after (codes ":") y) ((x ∷ s) ++ 58 ∷ more)).0) f.1) in
    absurd cc

opened-none : (ds : List ℕ) (o : Option (List ℕ)) (bs : List ℕ) → (opened ds o bs).0 ≡ None → o ≡ None
opened-none ds None bs e = refl
opened-none ds (Some x) bs e = absurd cc

no_authority : (bs : List ℕ) → (authority_cut (scheme_cut bs).1).0 ≡ None → (more : List ℕ) → bs ≡ closed (scheme_cut bs).0 (codes ":") ++ (codes "//" ++ more) → ⊥
no_authority bs none more e =
    let hier = (scheme_cut bs).1 in
    let same : hier ≡ codes "//" ++ more = append_cancel_left (closed (scheme_cut bs).0 (codes ":")) hier (codes "//" ++ more) (scheme-whole bs ∙ e) in
    let there : after (codes "//") hier ≡ Some more = ap (after (codes "//")) same ∙ after_front (codes "//") more in
    let gone = opened-none (codes "/?#") (after (codes "//") hier) hier none in
    let z : ◌≡◌ {A = ℕ} 0 1 = cc in
    omega arith

pub components-matched : (bs : List ℕ) → Matched bs (components bs)
components-matched bs = record { whole = recompose-components bs; formed = components-formed bs; no_scheme = no_scheme bs; no_authority = no_authority bs }

pub matched_by : (bs : List ℕ) (p : Parts) → p ≡ components bs → Matched bs p
matched_by bs p e = subst (Matched bs) (sym e) (components-matched bs)

-- the front of a merged path
merge-without : (ds : List ℕ) (a : Option (List ℕ)) (path : List ℕ) → among ds 47 ≡ false → Without ds path → Without ds (merge_front a path)
merge-without ds a path s h = go a path h
  where
    part : (o : Option ℕ) (bs : List ℕ) → Without ds bs → Without ds (through o bs)
    part None bs h = tt
    part (Some i) bs h = All-take (λ b. among ds b ≡ false) (suc i) bs h

    go : (a : Option (List ℕ)) (path : List ℕ) → Without ds path → Without ds (merge_front a path)
    go None path h = part (rightmost path) path h
    go (Some x) [] h = (s, tt)
    go (Some x) (b ∷ bs) h = part (rightmost (b ∷ bs)) (b ∷ bs) h

front-of-without : (base : Parts) (path : List ℕ) → Without (codes "?#") base.path → Without (codes "?#") (path_front base path)
front-of-without base path h = go (is_some (after (codes "/") path))
  where
    go : (t : Bool) → Without (codes "?#") (cond t [] (merge_front base.authority base.path))
    go true = tt
    go false = merge-without (codes "?#") base.authority base.path refl h

-- with an authority a merged path begins with a slash
merge-slash : (a : Option (List ℕ)) (path more : List ℕ) → is_some a ≡ true → Begins (codes "/") path → Begins (codes "/") (merge_front a path ++ more)
merge-slash None path more e h = absurd cc
merge-slash (Some x) [] more e h = refl
merge-slash (Some x) (b ∷ bs) more e h = go (rightmost bs) (eqb b 47) refl h
  where
    go : (o : Option ℕ) (t : Bool) → eqb b 47 ≡ t → (t || false) ≡ true → Begins (codes "/") (through (farther o t) (b ∷ bs) ++ more)
    go (Some i) t f k = h
    go None true f k = h
    go None false f k = absurd cc

slash-first : (path : List ℕ) → is_some (after (codes "/") path) ≡ true → Begins (codes "/") path
slash-first [] e = tt
slash-first (b ∷ bs) e = go (eqb b 47) refl e
  where
    go : (t : Bool) → eqb b 47 ≡ t → is_some (cond t (Some bs) None) ≡ true → (t || false) ≡ true
    go true f k = refl
    go false f k = absurd cc

whole-slash : (base : Parts) (path : List ℕ) → Formed base → is_some base.authority ≡ true → Begins (codes "/") (path_front base path ++ path)
whole-slash base path h e = go (is_some (after (codes "/") path)) refl
  where
    go : (t : Bool) → is_some (after (codes "/") path) ≡ t → Begins (codes "/") (cond t [] (merge_front base.authority base.path) ++ path)
    go true f = slash-first path f
    go false f = merge-slash base.authority base.path path e (h.slash e)

or_else-formed : (q r : Option (List ℕ)) → IfSome q (Without (codes "#")) → IfSome r (Without (codes "#")) → IfSome (or_else q r) (Without (codes "#"))
or_else-formed (Some x) r h k = h
or_else-formed None r h k = k

module _ (base r : Parts) (hb : Formed base) (hr : Formed r) where
  pub transform-formed : Formed (transform base r)
  transform-formed = go (is_some r.scheme) (is_some r.authority) (is_empty r.path) refl refl refl
    where
      go : (s a e : Bool) → is_some r.scheme ≡ s → is_some r.authority ≡ a → is_empty r.path ≡ e → Formed (transform base r)
      go true a e f g k =
          subst Formed (sym (by-scheme base r f))
          (record { scheme = hr.scheme; authority = hr.authority; path = removed-all _ r.path hr.path; query = hr.query; slash = λ z. removed-slashed r.path (hr.slash z) })
      go false true e f g k =
          subst Formed (sym (by-authority base r f g))
          (record { scheme = hb.scheme; authority = hr.authority; path = removed-all _ r.path hr.path; query = hr.query; slash = λ z. removed-slashed r.path (hr.slash z) })
      go false false true f g k =
          subst Formed (sym (by-empty base r f g k))
          (record { scheme = hb.scheme; authority = hb.authority; path = hb.path; query = or_else-formed r.query base.query hr.query hb.query; slash = hb.slash })
      go false false false f g k =
          subst Formed (sym (by-path base r f g k))
          (record {
            scheme = hb.scheme;
            authority = hb.authority;
            path = removed-all _ (path_front base r.path ++ r.path) (All-append _ (path_front base r.path) r.path (front-of-without base r.path hb.path) hr.path);
            query = hr.query;
            slash = λ z. removed-slashed (path_front base r.path ++ r.path) (whole-slash base r.path hb z);
          })
