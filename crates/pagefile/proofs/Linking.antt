-- The climb from a node to its parent.
use Rattle.std.proofs.Common.{◌≡◌, ℕ, ◌+◌, ◌-◌, ◌<◌, ◌≤◌, ◌≢◌, ◌⊎◌, List, length, set, Some, None, Option, sym, refl, ap, ◌∙◌, subst, inl, inr, arith, get_or-set_other, get_or-set_same}
use Rattle.std.proofs.lemmas.Bool.{cases_eq, cases_order}
use Rattle.std.proofs.lemmas.Option.{none-some, same_Some}
use Rattle.table.specs.Table.{Table}
use Rattle.table.specs.Links.{depth_at, ParentOf, EndOf}
use Rattle.pagefile.specs.declared.link.Link.{Link}
use Rattle.pagefile.specs.Links.{no_link, parent_in, end_in, Parents, Ends}

-- at p on the way up from i: what stands between is deeper than p and as deep as i, and ends by i
pub record Climbed (t : Table) (i p : ℕ) (ls : List Link) : Type 0 where
  pub before : p < i
  pub under : (j : ℕ) → p < j → j < i → depth_at t p < depth_at t j
  pub level : (j : ℕ) → p < j → j < i → depth_at t i ≤ depth_at t j
  pub old : (k : ℕ) → k ≤ p → EndOf t i k (end_in ls k)
  pub new : (k : ℕ) → p < k → k < i → EndOf t (i + 1) k (end_in ls k)

-- what one write changes of the links
parent-set_other : (ls : List Link) (i k : ℕ) (x : Link) → k ≢ i → parent_in (set ls i x) k ≡ parent_in ls k
parent-set_other ls i k x ne = ap (λ l. l.parent) (get_or-set_other ls i k x no_link ne)

end-set_other : (ls : List Link) (i k : ℕ) (x : Link) → k ≢ i → end_in (set ls i x) k ≡ end_in ls k
end-set_other ls i k x ne = ap (λ l. l.end) (get_or-set_other ls i k x no_link ne)

module _ (t : Table) where
  -- an end that was found stays
  closed : (i k e : ℕ) → EndOf t i k (Some e) → EndOf t (i + 1) k (Some e)
  closed i k e o = ((λ z. absurd (none-some e (sym z))), (λ d z. let r = o.1 d z in (r.0, (let x = r.1 in omega arith), r.2, r.3)))

  -- one that was not goes on over a deeper node
  extend : (i k : ℕ) (o : Option ℕ) → (o ≡ None → depth_at t k < depth_at t i) → EndOf t i k o → EndOf t (i + 1) k o
  extend i k None h o = ((λ y j a b. near j a b (cases_eq j i)), (λ e y. absurd (none-some e y)))
    where
      near : (j : ℕ) → k < j → j < i + 1 → (j ≡ i) ⊎ (j ≡ i → ⊥) → depth_at t k < depth_at t j
      near j a b (inl x) = subst (λ n. depth_at t k < depth_at t n) (sym x) (h refl)
      near j a b (inr x) = o.0 refl j a (omega arith)
  extend i k (Some e) h o = closed i k e o

  pub climb-starts : (i : ℕ) (ls : List Link) → 0 < i → Ends t i ls → Climbed t i (i - 1) ls
  climb-starts i ls h o =
      record { before = omega arith; under = λ j a b. absurd (omega arith); level = λ j a b. absurd (omega arith); old = λ k l. o k (omega arith); new = λ k a b. absurd (omega arith) }

  pub climb-more : (i p q : ℕ) (ls : List Link) (x : Link) → p < length ls → x.end ≡ Some i → depth_at t i ≤ depth_at t p → ParentOf t p q → Climbed t i p ls → Climbed t i q (set ls p x)
  climb-more i p q ls x len is d up c =
      record {
        before = omega (arith, up.0, c.before);
        under = λ j a b. deeper j a b (cases_order j p);
        level = λ j a b. high j a b (cases_order j p);
        old = λ k l. subst (EndOf t i k) (sym (end-set_other ls p k x (omega (arith, up.0)))) (c.old k (omega (arith, up.0)));
        new = λ k a b. newer k a b (cases_order k p);
      }
    where
      deeper : (j : ℕ) → q < j → j < i → (j ≡ p) ⊎ ((j < p) ⊎ (p < j)) → depth_at t q < depth_at t j
      deeper j a b (inl x) = subst (λ n. depth_at t q < depth_at t n) (sym x) up.1
      deeper j a b (inr (inl x)) = omega (arith, up.1, up.2 j a x)
      deeper j a b (inr (inr x)) = omega (arith, up.1, c.under j x b)

      high : (j : ℕ) → q < j → j < i → (j ≡ p) ⊎ ((j < p) ⊎ (p < j)) → depth_at t i ≤ depth_at t j
      high j a b (inl x) = subst (λ n. depth_at t i ≤ depth_at t n) (sym x) d
      high j a b (inr (inl x)) = omega (arith, up.2 j a x)
      high j a b (inr (inr x)) = c.level j x b

      found : EndOf t (i + 1) p (Some i)
      found = ((λ z. absurd (none-some i (sym z))), (λ e z. let same = same_Some i e z in subst (λ e. (p < e) × (e < i + 1) × (depth_at t e ≤ depth_at t p) × ((j : ℕ) → p < j → j < e → depth_at t p < depth_at t j)) same (c.before, omega arith, d, c.under)))

      newer : (k : ℕ) → q < k → k < i → (k ≡ p) ⊎ ((k < p) ⊎ (p < k)) → EndOf t (i + 1) k (end_in (set ls p x) k)
      newer k a b (inl z) = subst (λ n. EndOf t (i + 1) n (end_in (set ls p x) n)) (sym z) (subst (EndOf t (i + 1) p) (sym (ap (λ l. l.end) (get_or-set_same ls p x no_link len) ∙ is)) found)
      newer k a b (inr (inl l)) =
          subst (EndOf t (i + 1) k) (sym (end-set_other ls p k x (omega arith)))
          (extend i k (end_in ls k) (λ z. let y = (c.old k (omega arith)).0 z p l c.before in omega (arith, up.2 k a l)) (c.old k (omega arith)))
      newer k a b (inr (inr l)) = subst (EndOf t (i + 1) k) (sym (end-set_other ls p k x (omega arith))) (c.new k l b)

  -- a write that keeps the parent keeps all parents
  pub parents-kept : (i p : ℕ) (ls : List Link) (x : Link) → p < length ls → x.parent ≡ parent_in ls p → Parents t i ls → Parents t i (set ls p x)
  parents-kept i p ls x len is h k a b = subst (ParentOf t k) (sym (go (cases_eq k p))) (h k a b)
    where
      go : (k ≡ p) ⊎ (k ≡ p → ⊥) → parent_in (set ls p x) k ≡ parent_in ls k
      go (inl z) = ap (parent_in (set ls p x)) z ∙ (ap (λ l. l.parent) (get_or-set_same ls p x no_link len) ∙ (is ∙ ap (parent_in ls) (sym z)))
      go (inr z) = parent-set_other ls p k x z

  pub climb-ends : (i p : ℕ) (ls : List Link) → depth_at t p < depth_at t i → Climbed t i p ls → (k : ℕ) → k < i → EndOf t (i + 1) k (end_in ls k)
  climb-ends i p ls d c k l = go k l (cases_order k p)
    where
      go : (k : ℕ) → k < i → (k ≡ p) ⊎ ((k < p) ⊎ (p < k)) → EndOf t (i + 1) k (end_in ls k)
      go k l (inl x) = extend i k (end_in ls k) (λ z. subst (λ n. depth_at t n < depth_at t i) (sym x) d) (c.old k (omega arith))
      go k l (inr (inl x)) = let o = c.old k (omega arith) in extend i k (end_in ls k) (λ z. let y = o.0 z p x c.before in omega arith) o
      go k l (inr (inr x)) = c.new k x l

  -- the link of a node that was just met: its parent, and no end
  pub parents-more : (i : ℕ) (ls : List Link) (x : Link) → i < length ls → ParentOf t i x.parent → Parents t i ls → Parents t (i + 1) (set ls i x)
  parents-more i ls x len h o k a b = go (cases_eq k i)
    where
      go : (k ≡ i) ⊎ (k ≡ i → ⊥) → ParentOf t k (parent_in (set ls i x) k)
      go (inl z) = subst (λ n. ParentOf t n (parent_in (set ls i x) n)) (sym z) (subst (ParentOf t i) (sym (ap (λ l. l.parent) (get_or-set_same ls i x no_link len))) h)
      go (inr z) = subst (ParentOf t k) (sym (parent-set_other ls i k x z)) (o k a (omega arith))

  pub ends_more : (i : ℕ) (ls : List Link) (x : Link) → i < length ls → x.end ≡ None → ((k : ℕ) → k < i → EndOf t (i + 1) k (end_in ls k)) → Ends t (i + 1) (set ls i x)
  ends_more i ls x len is o k l = go (cases_eq k i)
    where
      here : end_in (set ls i x) i ≡ None
      here = ap (λ l. l.end) (get_or-set_same ls i x no_link len) ∙ is

      go : (k ≡ i) ⊎ (k ≡ i → ⊥) → EndOf t (i + 1) k (end_in (set ls i x) k)
      go (inl z) =
          subst (λ n. EndOf t (i + 1) n (end_in (set ls i x) n)) (sym z)
          (subst (EndOf t (i + 1) i) (sym here) ((λ y j a b. absurd (omega arith)), (λ e y. absurd (none-some e y))))
      go (inr z) = subst (EndOf t (i + 1) k) (sym (end-set_other ls i k x z)) (o k (omega arith))
