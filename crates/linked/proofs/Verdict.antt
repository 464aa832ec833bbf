-- Records whose verdict is none are accepted and linked, and the other way round.
use Rattle.std.proofs.Common.{◌≡◌, ℕ, zero, suc, ◌+◌, ◌<◌, ◌≤◌, Bool, true, ◌&&◌, ◌⊎◌, List, length, None, refl, ap, ◌∙◌, inl, inr, arith}
use Rattle.std.proofs.lemmas.Bool.{and_parts, and_from, cases_eq}
use Rattle.table.specs.declared.record.AttrRecord.{AttrRecord}
use Rattle.table.specs.declared.record.Section.TheVariants.{Nodes, Attributes, Bytes}
use Rattle.table.specs.Table.{Table}
use Rattle.table.specs.Checks as table
use Rattle.table.specs.Checks.{in_range, kind_ok, depth_ok, layout_ok, formed_ok, granted, each, of_node, of_nodes, accepts}
use Rattle.table.proofs.Asked.{all-granted, none-refused, granted-parts, granted-join}
use Rattle.table.proofs.Each.{each_at}
use Rattle.linked.specs.declared.node.LinkedNode.{LinkedNode}
use Rattle.linked.specs.Records.{table_of, links_ok, all_linked}
use Rattle.linked.specs.Opening.{answer, verdict_of}
use Rattle.linked.proofs.Lists.{length-records}

each_from : (p : ℕ → Bool) (n : ℕ) → ((k : ℕ) → k < n → p k ≡ true) → each n p ≡ true
each_from p zero h = refl
each_from p (suc n) h = and_from (p n) (each n p) (h n (omega arith)) (each_from p n (λ k l. h k (omega arith)))

module _ (xs : List LinkedNode) (t : Table) where
  -- a node's checks with its links, apart
  node-parts : (i : ℕ) → granted (answer xs t) (of_node i) ≡ true → (granted (table.answer t) (of_node i) ≡ true) × (links_ok xs t i ≡ true)
  node-parts i h =
      let a = and_parts (kind_ok t i) _ h in
      let b = and_parts (depth_ok t i && links_ok xs t i) _ a.1 in
      let c = and_parts (depth_ok t i) (links_ok xs t i) b.0 in
      (and_from (kind_ok t i) _ a.0 (and_from (depth_ok t i) _ c.0 b.1), c.1)

  parts-node : (i : ℕ) → granted (table.answer t) (of_node i) ≡ true → links_ok xs t i ≡ true → granted (answer xs t) (of_node i) ≡ true
  parts-node i h l =
      let a = and_parts (kind_ok t i) _ h in
      let b = and_parts (depth_ok t i) _ a.1 in
      and_from (kind_ok t i) _ a.0 (and_from (depth_ok t i && links_ok xs t i) _ (and_from (depth_ok t i) (links_ok xs t i) b.0 l) b.1)

  -- and those of k nodes from i on
  nodes-parts : (k i : ℕ) → granted (answer xs t) (of_nodes i k) ≡ true → (granted (table.answer t) (of_nodes i k) ≡ true) × ((n : ℕ) → i ≤ n → n < i + k → links_ok xs t n ≡ true)
  nodes-parts zero i h = (h, λ n a b. absurd (omega arith))
  nodes-parts (suc k) i h =
      let p = granted-parts (answer xs t) (of_node i) (of_nodes (suc i) k) h in
      let here = node-parts i p.0 in
      let more = nodes-parts k (suc i) p.1 in
      (granted-join (table.answer t) (of_node i) (of_nodes (suc i) k) here.0 more.0, λ n a b. go n a b (cases_eq n i) here.1 more.1)
    where
      go : (n : ℕ) → i ≤ n → n < i + suc k → (n ≡ i) ⊎ (n ≡ i → ⊥) → links_ok xs t i ≡ true → ((m : ℕ) → suc i ≤ m → m < suc i + k → links_ok xs t m ≡ true) → links_ok xs t n ≡ true
      go n a b (inl e) here more = ap (links_ok xs t) e ∙ here
      go n a b (inr e) here more = more n (omega arith) (omega arith)

  parts-nodes : (k i : ℕ) → granted (table.answer t) (of_nodes i k) ≡ true → ((n : ℕ) → i ≤ n → n < i + k → links_ok xs t n ≡ true) → granted (answer xs t) (of_nodes i k) ≡ true
  parts-nodes zero i h l = h
  parts-nodes (suc k) i h l =
      let p = granted-parts (table.answer t) (of_node i) (of_nodes (suc i) k) h in
      granted-join (answer xs t) (of_node i) (of_nodes (suc i) k) (parts-node i p.0 (l i (omega arith) (omega arith))) (parts-nodes k (suc i) p.1 (λ n a b. l n (omega arith) (omega arith)))

module _ (xs : List LinkedNode) (attrs : List AttrRecord) (bytes : List ℕ) where
  pub accepted-linked : verdict_of xs attrs bytes ≡ None → (accepts (table_of xs attrs bytes) ≡ true) × (all_linked (xs) (table_of xs attrs bytes) ≡ true)
  accepted-linked h =
      let t = table_of xs attrs bytes in
      let all = all-granted (answer xs t) (table.checks t) h in
      let a = and_parts (in_range Nodes (length t.nodes)) _ all in
      let b = and_parts (in_range Attributes (length t.attrs)) _ a.1 in
      let c = and_parts (in_range Bytes (length t.bytes)) (granted (answer xs t) (of_nodes 0 (length t.nodes))) b.1 in
      let p = nodes-parts xs t (length t.nodes) 0 c.1 in (
        and_from (in_range Nodes (length t.nodes)) _ a.0 (and_from (in_range Attributes (length t.attrs)) _ b.0 (and_from (in_range Bytes (length t.bytes)) _ c.0 p.0)),
        each_from (links_ok xs t) (length xs) (λ n l. p.1 n (omega arith) (omega (arith, length-records xs))),
      )

  pub linked-accepted : accepts (table_of xs attrs bytes) ≡ true → all_linked (xs) (table_of xs attrs bytes) ≡ true → verdict_of xs attrs bytes ≡ None
  linked-accepted h l =
      let t = table_of xs attrs bytes in
      let a = and_parts (in_range Nodes (length t.nodes)) _ h in
      let b = and_parts (in_range Attributes (length t.attrs)) _ a.1 in
      let c = and_parts (in_range Bytes (length t.bytes)) (granted (table.answer t) (of_nodes 0 (length t.nodes))) b.1 in
      let nodes = parts-nodes xs t (length t.nodes) 0 c.1 (λ n x y. each_at (links_ok xs t) (length xs) n (omega (arith, length-records xs)) l) in
      none-refused (answer xs t) (table.checks t)
      (and_from (in_range Nodes (length t.nodes)) _ a.0 (and_from (in_range Attributes (length t.attrs)) _ b.0 (and_from (in_range Bytes (length t.bytes)) _ c.0 nodes)))
