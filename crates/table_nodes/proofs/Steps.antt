-- What each writer's stores leave, on plain lists. Assumes nothing.
use Prim.Native.Nat.{ℕ, ◌+◌, ◌*◌, ◌-◌, ◌≤◌, ◌<◌}
use mathlib.Core.Path.{◌≡◌, ap, ap₂, sym, ◌∙◌}
use mathlib.Core.List.{List, [], ◌++◌, append_assoc}
use native.Mathlib.Omega.{arith}
use lib.ListN.{length, length-append}
use Rattle.fields.specs.Numbers.{bytes_of}
use Rattle.fields.specs.Parts.{part, put}
use Rattle.fields.specs.Blocks.{zeros, insert_at, remove_at}
use Rattle.fields.specs.Widths.{offset}
use Rattle.fields.proofs.Parts.{length_part, part-add, part-part, part-before, part-behind, put-append, put-behind, put-further}
use Rattle.fields.proofs.Blocks.{length-zeros, zeros-add, zeros_within}
use Rattle.rules.specs.Sizes.{max_nodes}
use Rattle.rules.specs.Layout.{rec_place, node_place, node_width, table_widths, encode_node, decode_node, encode, decode}
use Rattle.table.specs.Tests.{count_of, nodes_of}
use Rattle.table.specs.Fits.{LaidNode, LaidTable}
use Rattle.table.specs.Changes.{fresh_entry}
use Rattle.table.proofs.Laid.{laid-rest}
use Rattle.table.proofs.Tables.{length-decode}
use Rattle.table.proofs.Changed.{table-insert, table-remove}
use Rattle.table_write.specs.Rows.{less_block, without_block}
use Rattle.table_write.proofs.Steps.{less-suc}

-- ---- one place becomes as another

-- n bytes are in use of the w at a, and m of the w at d, and zeros stand behind both: n bytes are moved, and what is in use behind them is cleared
module _ (l : List ℕ) (w a n d m : ℕ) (in-a : a + w ≤ length l) (in-d : d + w ≤ length l) (na : n ≤ w) (md : m ≤ w)
    (za : part (a + n) (w - n) l ≡ zeros (w - n)) (zd : part (d + m) (w - m) l ≡ zeros (w - m)) where
  pub carried : (r : ℕ) (s1 s2 : List ℕ) → r ≡ m - n → s1 ≡ put d (part a n l) l → s2 ≡ put (d + n) (zeros r) s1 → s2 ≡ put d (part a w l) l
  carried r s1 s2 er e1 e2 =
      let x : List ℕ = part a n l in
      let xl : length x ≡ n = length_part a n l (omega arith) in
      let y : List ℕ = x ++ zeros r in
      let yl : length y ≡ n + r = simp (length-append, xl, length-zeros) in
      let q : ℕ = w - (n + r) in
      let rest : part (d + length y) q l ≡ zeros q = zeros_within (d + length y) q (d + m) (w - m) l zd (omega arith) (omega arith) (omega arith) in
      let all : y ++ part (d + length y) q l ≡ part a w l =
      ap (λ (z : List ℕ). y ++ z) rest
      ∙ append_assoc x (zeros r) (zeros q)
      ∙ ap (λ (z : List ℕ). x ++ z) (zeros-add r q ∙ ap zeros (omega arith) ∙ sym za)
      ∙ sym (part-add a n (w - n) l)
      ∙ ap (λ (k : ℕ). part a k l) (omega arith) in
      e2
      ∙ ap₂ (λ (k : ℕ) (z : List ℕ). put (d + k) (zeros r) z) (sym xl) e1
      ∙ put-behind d x (zeros r) l (rw (xl, length-zeros) (omega arith))
      ∙ put-further d q y l (rw yl (omega arith))
      ∙ ap (λ (z : List ℕ). put d z l) all

-- as two places of nodes that are laid out
pub pair-steps : (l s1 s2 : List ℕ) (a d n m r : ℕ) → a + node_width ≤ length l → d + node_width ≤ length l → LaidNode (part a node_width l) → LaidNode (part d node_width l)
    → n ≡ rec_place (count_of (part a node_width l)) → m ≡ rec_place (count_of (part d node_width l)) → r ≡ m - n
    → s1 ≡ put d (part a n l) l → s2 ≡ put (d + n) (zeros r) s1 → s2 ≡ put d (part a node_width l) l
pair-steps l s1 s2 a d n m r ha hd oa od en em er e1 e2 =
    carried l node_width a n d m ha hd (omega (arith, oa.few)) (omega (arith, od.few)) (rest a n ha oa en) (rest d m hd od em) r s1 s2 er e1 e2
  where
    rest : (k q : ℕ) → k + node_width ≤ length l → (o : LaidNode (part k node_width l)) → q ≡ rec_place (count_of (part k node_width l)) → part (k + q) (node_width - q) l ≡ zeros (node_width - q)
    rest k q h o e =
        sym (part-part q (node_width - q) k node_width l (omega (arith, o.few)) h)
        ∙ ap (λ (j : ℕ). part j (node_width - j) (part k node_width l)) e
        ∙ laid-rest (part k node_width l) o
        ∙ ap (λ (j : ℕ). zeros (node_width - j)) (sym e)

-- ---- the nodes of a table

-- one place more is raised: below p + w all is as it was
pub raised : (l s : List ℕ) (p w m : ℕ) → p + w + w + m ≤ length l → s ≡ put (p + w + w) (part (p + w) m l) l
    → put (p + w) (part p w s) s ≡ put (p + w) (part p (w + m) l) l
raised l s p w m h e =
    let x : List ℕ = part p w l in
    let y : List ℕ = part (p + w) m l in
    let xl : length x ≡ w = length_part p w l (omega arith) in
    let yl : length y ≡ m = length_part (p + w) m l (omega arith) in
    let same : part p w s ≡ x = ap (part p w) e ∙ part-before p w (p + w + w) y l (omega arith) (omega arith) in
    ap₂ (λ (z t : List ℕ). put (p + w) z t) same (e ∙ ap (λ (k : ℕ). put (p + w + k) y l) (sym xl))
    ∙ put-append (p + w) x y l (rw (xl, yl) (omega arith))
    ∙ ap (λ (z : List ℕ). put (p + w) z l) (sym (part-add p w m l))

-- one place more is lowered: from p on all is as it was
pub lowered : (l s : List ℕ) (a w m : ℕ) → a + w + m + w ≤ length l → s ≡ put a (part (a + w) m l) l
    → put (a + m) (part (a + m + w) w s) s ≡ put a (part (a + w) (m + w) l) l
lowered l s a w m h e =
    let x : List ℕ = part (a + w) m l in
    let y : List ℕ = part (a + w + m) w l in
    let xl : length x ≡ m = length_part (a + w) m l (omega arith) in
    let yl : length y ≡ w = length_part (a + w + m) w l (omega arith) in
    let same : part (a + m + w) w s ≡ y =
    ap₂ (λ (k : ℕ) (t : List ℕ). part k w t) (omega arith) e ∙ part-behind (a + w + m) w a x l (rw xl (omega arith)) (rw xl (omega arith)) in
    ap₂ (λ (z t : List ℕ). put (a + m) z t) same e
    ∙ ap (λ (k : ℕ). put (a + k) y (put a x l)) (sym xl)
    ∙ put-behind a x y l (rw (xl, yl) (omega arith))
    ∙ ap (λ (z : List ℕ). put a z l) (sym (part-add (a + w) m w l))

module _ (l : List ℕ) (o : LaidTable l) (i : ℕ) where
  pub add-steps : (s1 s2 s3 : List ℕ) (n k : ℕ) → n ≡ nodes_of l → i ≤ nodes_of l → nodes_of l < max_nodes
      → s1 ≡ put (node_place i + node_width) (part (node_place i) ((n - i) * node_width) l) l → s2 ≡ put (node_place i) (encode_node (fresh_entry k)) s1
      → s3 ≡ put (offset table_widths 0) (bytes_of 1 (n + 1)) s2 → s3 ≡ encode (insert_at i (fresh_entry k) (decode l))
  add-steps s1 s2 s3 n k en h g e1 e2 e3 =
      let a : ℕ = node_place i in
      let f : ℕ → List ℕ → List ℕ = λ m x. put (offset table_widths 0) (bytes_of 1 (m + 1)) (put a (encode_node (fresh_entry k)) (put (a + node_width) (part a ((m - i) * node_width) x) x)) in
      let all : s3 ≡ f n l = e3 ∙ ap (put (offset table_widths 0) (bytes_of 1 (n + 1))) (e2 ∙ ap (put a (encode_node (fresh_entry k))) e1) in
      all
      ∙ ap₂ f (en ∙ sym (length-decode l)) (sym o.is)
      ∙ table-insert (decode l) o.fits.few i (fresh_entry k) (rw length-decode h) (rw length-decode g)

  pub node-gone : i < nodes_of l → without_block (offset table_widths 0) node_width i l ≡ encode (remove_at i (decode l))
  node-gone h =
      ap₂ (λ (n : ℕ) (x : List ℕ). less_block (offset table_widths 0) node_width i n x) (sym (length-decode l)) (sym o.is)
      ∙ less-suc (offset table_widths 0) node_width i (length (decode l)) (encode (decode l))
      ∙ table-remove (decode l) o.fits.few i (decode_node []) (rw length-decode h)
