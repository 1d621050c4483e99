-- A node is handed over: what holds at every moment of a net whose hubs lose their memory (net_losing: Firm) holds with the new owner. It has all that was given, so nothing was
-- given that was not let out, and every copy of the node is honest by that. Assumes nothing.
use Prim.Native.Nat.{◌≤◌, ℕ}
use mathlib.Core.Bool.{Bool, false, false≢true, true}
use mathlib.Core.List.{List, []}
use mathlib.Core.Logic.{inl}
use mathlib.Core.Option.{Option, none, some}
use mathlib.Core.Path.{◌∙◌, ◌≡◌, ap, refl, subst, sym}
use native.Mathlib.Omega.{arith}
use lib.Dec.{eqb}
use lib.ListN.{length}
use borrow.Author.Tests.{eqb-false, eqb-true, leb-true}
use Rattle.fields.proofs.Choice.{and_left, and_right, in-none}
use Rattle.fields.specs.Choice.{◌∈◌, pick}
use Rattle.rules.specs.Node.{KeyValue, Node}
use Rattle.rules.specs.Table.{Table, node_of}
use Rattle.demand3.proofs.EachNode.{node_at, or_fresh}
use Rattle.demand3.proofs.Honest.{HonestNode}
use Rattle.net_losing.proofs.Firm.{AllFit, Copies, Firm, all-given}
use Rattle.net_losing.proofs.Fit.{Fit, fit-honest}
use Rattle.net_losing.proofs.Grown.{Grown, grown-same}
use Rattle.net_losing.specs.Losing.{Losing}
use Rattle.net_owners.specs.Owners.{Handed, handed_over, has_all, may_own, owned_by}

-- a node that is there with all that was given
all_there : (h : List KeyValue) (o : Option Node) → has_all h o ≡ true → length h ≤ (or_fresh o).max
all_there h none q = absurd (false≢true q)
all_there h (some n) q = leb-true _ _ q

-- where all that was given was let out, a node fits whoever owns it, if its owner has all of it
fit-handed : (own : Bool) (forgot : Bool) (o h : List KeyValue) (n : Node) → o ≡ h → HonestNode h n → (own ≡ true → length h ≤ n.max) → Fit own forgot o h n
fit-handed own forgot o h n e y f =
    record {
      honest = at own;
      level = λ q. let a = f q in let b = y.honest.max-low in inl (omega arith);
    }
  where
    at : (b : Bool) → HonestNode (pick b h o) n
    at true = y
    at false = subst (λ (g : List KeyValue). HonestNode g n) (sym e) y

module _ (v : Handed) (ok : Firm v.owner v.losing) (i y : ℕ) (may : may_own i y v.losing ≡ true) where
  abbrev w : Losing
  w = v.losing

  abbrev h : ℕ → List KeyValue
  h = w.net.given

  abbrev next : ℕ → ℕ
  next = owned_by i y v.owner

  in_table : length (h i) ≤ (node_at i (w.net.hubs y)).max
  in_table = all_there (h i) (node_of i (w.net.hubs y)) (and_left _ _ may)

  on_disk : length (h i) ≤ (node_at i (w.disk y)).max
  on_disk = all_there (h i) (node_of i (w.disk y)) (and_right (has_all (h i) (node_of i (w.net.hubs y))) _ may)

  -- every copy on a disk is honest by what was kept, so that all was kept
  all-kept : w.kept i ≡ h i
  all-kept =
      grown-same (w.kept i) (h i) (ok.gives i)
      (let a = (fit-honest _ _ (w.out i) (w.kept i) (node_at i (w.disk y)) (ok.on_disk y i) (ok.stores i)).honest.max-low in let b = on_disk in omega arith)

  -- and all was let out, unless the new owner is the old one
  all-out : (eqb (v.owner i) y ≡ false) → w.out i ≡ h i
  all-out q =
      grown-same (w.out i) (h i) (all-given v.owner w ok i)
      (let a = (subst (λ (b : Bool). HonestNode (pick b (h i) (w.out i)) (node_at i (w.net.hubs y))) q (ok.held y i).honest).honest.max-low in let b = in_table in omega arith)

  -- a node fits with the new owners, if node i does
  fits : (k : ℕ → List KeyValue) (ts : ℕ → Table) → AllFit v.owner w.forgot w.out k ts
      → k i ≡ h i → length (h i) ≤ (node_at i (ts y)).max → AllFit next w.forgot w.out k ts
  fits k ts f e top x j = go (eqb j i) refl
    where
      Fits : ℕ → ℕ → Type 0
      Fits o l = Fit (eqb o x) (w.forgot x) (w.out l) (k l) (node_at l (ts x))

      -- node i, where its owner is another one now
      handed : eqb (v.owner i) y ≡ false → Fits y i
      handed q =
          fit-handed (eqb y x) (w.forgot x) (w.out i) (k i) (node_at i (ts x)) (all-out q ∙ sym e)
          (fit-honest _ _ (w.out i) (k i) (node_at i (ts x)) (f x i) (subst (Grown (w.out i)) (sym e) (all-given v.owner w ok i)))
          (λ o. subst (λ (g : List KeyValue). length g ≤ (node_at i (ts x)).max) (sym e) (subst (λ (z : ℕ). length (h i) ≤ (node_at i (ts z)).max) (eqb-true y x o) top))

      at : (b : Bool) → eqb (v.owner i) y ≡ b → Fits y i
      at true q = subst (λ (o : ℕ). Fits o i) (eqb-true (v.owner i) y q) (f x i)
      at false q = handed q

      go : (b : Bool) → eqb j i ≡ b → Fits (pick b y (v.owner j)) j
      go true q = subst (Fits y) (sym (eqb-true j i q)) (at (eqb (v.owner i) y) refl)
      go false q = f x j

  copies : (x : ℕ) (t : Table) (b : Bool) → eqb x (v.owner i) ≡ b → t ∈ pick b [] (w.net.saved x) → Copies next w.out x t
  copies x t true q m = absurd (in-none m)
  copies x t false q m = let s = ok.saved x t m in (s.0, λ j. at j (eqb j i) refl)
    where
      -- no copy of node i that its owner saved is left
      at : (j : ℕ) (b : Bool) → eqb j i ≡ b → eqb (pick b y (v.owner j)) x ≡ false → HonestNode (w.out j) (node_at j t)
      at j true r o = (ok.saved x t m).1 j (other (eqb (v.owner j) x) refl)
        where
          other : (c : Bool) → eqb (v.owner j) x ≡ c → eqb (v.owner j) x ≡ false
          other true z = absurd (eqb-false x (v.owner i) q (sym (eqb-true _ _ z) ∙ ap v.owner (eqb-true j i r)))
          other false z = z
      at j false r o = (ok.saved x t m).1 j o

  pub firm-handing : Firm next (handed_over i y v).losing
  firm-handing =
      record {
        obeyed = ok.obeyed;
        disk_obeyed = ok.disk_obeyed;
        began = ok.began;
        stores = ok.stores;
        gives = ok.gives;
        held = fits h w.net.hubs ok.held refl in_table;
        on_disk = fits w.kept w.disk ok.on_disk all-kept on_disk;
        sent = ok.sent;
        saved = λ x t m. copies x t (eqb x (v.owner i)) refl m;
      }
