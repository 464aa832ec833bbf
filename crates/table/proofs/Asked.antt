-- Lists of checks: the first one answered no, and all answered yes.
use Rattle.std.proofs.Common.{◌≡◌, ℕ, suc, ◌+◌, ◌-◌, ◌<◌, Bool, true, false, cond, ◌&&◌, List, [], ◌∷◌, ◌++◌, Some, None, Option, sym, refl, ap, ◌∙◌, add-one, arith}
use Rattle.std.proofs.lemmas.Bool.{and_parts}
use Rattle.table.specs.declared.record.Check.{Check}
use Rattle.table.specs.declared.record.Check.TheVariants.{SectionsEnd}
use Rattle.table.specs.Checks.{first_no, granted, of_node, of_nodes}

-- the checks of the next node, and the last
pub of-next : (i n : ℕ) → i < n → of_nodes i (n - i) ≡ of_node i ++ of_nodes (i + 1) (n - (i + 1))
of-next i n l = ap (of_nodes i) m ∙ ap (λ k. of_node i ++ of_nodes k (n - (i + 1))) (sym (add-one i))
  where
    m : n - i ≡ suc (n - (i + 1))
    m = omega arith

pub of-last : (n : ℕ) → of_nodes n (n - n) ≡ SectionsEnd n ∷ []
of-last n = let z : n - n ≡ 0 = omega arith in ap (of_nodes n) z

abbrev pub or_else : Option Check → Option Check → Option Check
or_else None o = o
or_else (Some c) o = Some c

module _ (ok : Check → Bool) where
  pub no-next : (c : Check) (cs : List Check) → ok c ≡ true → first_no ok (c ∷ cs) ≡ first_no ok cs
  no-next c cs e = ap (λ b. cond b (first_no ok cs) (Some c)) e

  pub no-here : (c : Check) (cs : List Check) → ok c ≡ false → first_no ok (c ∷ cs) ≡ Some c
  no-here c cs e = ap (λ b. cond b (first_no ok cs) (Some c)) e

  no-append : (ps qs : List Check) → first_no ok (ps ++ qs) ≡ or_else (first_no ok ps) (first_no ok qs)
  no-append [] qs = refl
  no-append (p ∷ ps) qs = go (ok p) (no-append ps qs)
    where
      go : (b : Bool) → first_no ok (ps ++ qs) ≡ or_else (first_no ok ps) (first_no ok qs) → cond b (first_no ok (ps ++ qs)) (Some p) ≡ or_else (cond b (first_no ok ps) (Some p)) (first_no ok qs)
      go true h = h
      go false h = refl

  -- more checks after a no, and after none
  pub stays : (ps qs : List Check) (c : Check) → first_no ok ps ≡ Some c → first_no ok (ps ++ qs) ≡ Some c
  stays ps qs c e = no-append ps qs ∙ ap (λ o. or_else o (first_no ok qs)) e

  pub goes_on : (ps qs : List Check) → first_no ok ps ≡ None → first_no ok (ps ++ qs) ≡ first_no ok qs
  goes_on ps qs e = no-append ps qs ∙ ap (λ o. or_else o (first_no ok qs)) e

  -- all are answered yes exactly if none is answered no
  pub all-granted : (cs : List Check) → first_no ok cs ≡ None → granted ok cs ≡ true
  all-granted [] h = refl
  all-granted (c ∷ cs) h = go (ok c) (all-granted cs) h
    where
      go : (b : Bool) → (first_no ok cs ≡ None → granted ok cs ≡ true) → cond b (first_no ok cs) (Some c) ≡ None → (b && granted ok cs) ≡ true
      go true r e = r e
      go false r e = let z : ◌≡◌ {A = ℕ} 0 1 = cc in absurd (omega arith)

  pub none-refused : (cs : List Check) → granted ok cs ≡ true → first_no ok cs ≡ None
  none-refused [] h = refl
  none-refused (c ∷ cs) h = let p = and_parts (ok c) (granted ok cs) h in no-next c cs p.0 ∙ none-refused cs p.1

  pub granted-parts : (ps qs : List Check) → granted ok (ps ++ qs) ≡ true → (granted ok ps ≡ true) × (granted ok qs ≡ true)
  granted-parts [] qs h = (refl, h)
  granted-parts (p ∷ ps) qs h =
      let a = and_parts (ok p) (granted ok (ps ++ qs)) h in
      let b = granted-parts ps qs a.1 in
      (ap (λ v. v && granted ok ps) a.0 ∙ b.0, b.1)

  pub granted-join : (ps qs : List Check) → granted ok ps ≡ true → granted ok qs ≡ true → granted ok (ps ++ qs) ≡ true
  granted-join [] qs h k = k
  granted-join (p ∷ ps) qs h k = let a = and_parts (ok p) (granted ok ps) h in ap (λ v. v && granted ok (ps ++ qs)) a.0 ∙ granted-join ps qs a.1 k
