-- Every moment of a net whose hubs lose their memory. What a hub holds of a node that it does not own, everything ever computed and every saved copy is honest by what the
-- owner let out; the owner's node by what it gave, its disk by what it kept, and both only add to what it let out. So what is lost nobody has heard of. Assumes
-- nothing but that no hub is plain.
use Prim.Native.Nat.{◌<◌, ◌≤◌, ℕ}
use mathlib.Core.Bool.{Bool, false, false≢true, true}
use mathlib.Core.List.{List, [], ◌∷◌}
use mathlib.Core.Logic.{◌⊎◌, inl, inr}
use mathlib.Core.Option.{Option, none, some}
use mathlib.Core.Path.{◌∙◌, ◌≡◌, ap, refl, subst, sym}
use native.Mathlib.Omega.{arith}
use lib.Dec.{eqb}
use lib.ListN.{length}
use borrow.Author.Tests.{eq-eqb, eqb-false, eqb-true, leb-true}
use Rattle.fields.proofs.Choice.{all_from, in-none}
use Rattle.fields.specs.Choice.{◌∈◌, pick}
use Rattle.rules.proofs.Calls.{call-keeps, node_in, node-ok-in, none-obeys, ok-each, ok-set}
use Rattle.rules.proofs.Obeys.{OkNode, OkTable, table-facts}
use Rattle.rules.proofs.Received.{parts-ok}
use Rattle.rules.proofs.Tables.{applied-table, node-set-other, node-set-same}
use Rattle.rules.specs.Apply.{Lawful, Ways, apply, apply_each, apply_node}
use Rattle.rules.specs.Delta.{Good, Op, delta_bytes, nothing_read, parts_of}
use Rattle.rules.specs.Given.{Given}
use Rattle.rules.specs.Local.{call, call_as, call_on}
use Rattle.rules.specs.Node.{Call, Decision, Give, KeyValue, Leave, Node, Refuse, act, decide, fresh}
use Rattle.rules.specs.Sizes.{numbers}
use Rattle.rules.specs.Table.{Entry, Table, node_of, set_node}
use Rattle.std.specs.Prelude.{Result}
use Rattle.rules.specs.declared.Refusal.{Refusal}
use Rattle.rules.specs.declared.Sent.{Sent}
use Rattle.rules.specs.declared.Party.{Party}
use Rattle.rules.specs.declared.Profile.{Profile}
use Rattle.demand3.proofs.Computing.{computed-honest}
use Rattle.demand3.proofs.EachNode.{node_at, or_fresh}
use Rattle.demand3.proofs.Formed.{by-guard}
use Rattle.demand3.proofs.Forms.{Comes, refuses, writes}
use Rattle.demand3.proofs.Honest.{HonestDelta, HonestNode}
use Rattle.demand3.proofs.Moments.{clock-fits, kept}
use Rattle.demand3.proofs.Parted.{nth-sent}
use Rattle.demand3.proofs.OnTheWay.{Sendable}
use Rattle.demand3.proofs.Publisher.{Publisher, next-version, publisher-fresh, publisher-write}
use Rattle.demand3.specs.Forms.{Order}
use Rattle.demand3.specs.World.{Which, applied_to, arrives, given_after, given_as, given_by, given_in, sent_after, time_of}
use Rattle.net.proofs.Each.{Each, each-hub, each_same, each_set, each-taken}
use Rattle.net.proofs.Moments.{Carries, Longer, as_long, longer, one_more, part-carried, placed-in}
use Rattle.net.specs.Net.{Net, has_max, nothing_lost, placed, with_table}
use Rattle.net_losing.proofs.Fit.{Fit, caught-up, fit-apply, fit-forgot, fit-fresh, fit-honest, fit-other, fit-out, fit-top}
use Rattle.net_losing.proofs.Grown.{Grown, as_is, grown-all, grown-carries, grown-long, grown-longer, grown-node, grown-numbered, grown-same}
use Rattle.net_losing.specs.Losing.{Losing, caught_up, crashed, forgotten, of_hub, of_owner, recalled, recalled_as, start, stored, with_net}

-- ---- what a moment is

-- of these tables, by these histories, every node is as it must be
abbrev pub AllFit : (owner : ℕ → ℕ) (forgot : ℕ → Bool) (out given : ℕ → List KeyValue) (hubs : ℕ → Table) → Type 0
AllFit owner f o h ts = (x i : ℕ) → Fit (eqb (owner i) x) (f x) (o i) (h i) (node_at i (ts x))

-- a saved table, of nodes that the hub does not own
abbrev pub Copies : (owner : ℕ → ℕ) (out : ℕ → List KeyValue) (hub : ℕ) (table : Table) → Type 0
Copies owner o x t = OkTable t × ((i : ℕ) → eqb (owner i) x ≡ false → HonestNode (o i) (node_at i t))

pub record Firm (owner : ℕ → ℕ) (w : Losing) : Type 0 where
  pub obeyed : (x : ℕ) → OkTable (w.net.hubs x)
  pub disk_obeyed : (x : ℕ) → OkTable (w.disk x)
  pub began : (i : ℕ) → Grown [] (w.out i)
  pub stores : (i : ℕ) → Grown (w.out i) (w.kept i)
  pub gives : (i : ℕ) → Grown (w.kept i) (w.net.given i)
  pub held : AllFit owner w.forgot w.out w.net.given w.net.hubs
  pub on_disk : AllFit owner w.forgot w.out w.kept w.disk
  pub sent : (b : List ℕ) → b ∈ w.net.sent → Carries w.out b
  pub saved : (x : ℕ) (t : Table) → t ∈ w.net.saved x → Copies owner w.out x t

pub firm-start : (owner : ℕ → ℕ) → Firm owner start
unfolding node_of
firm-start owner =
    record {
      obeyed = λ x. table-facts [] none-obeys;
      disk_obeyed = λ x. table-facts [] none-obeys;
      began = λ i. as_is;
      stores = λ i. as_is;
      gives = λ i. as_is;
      held = fresh-fit;
      on_disk = fresh-fit;
      sent = λ b m. absurd (in-none m);
      saved = λ x t m. absurd (in-none m);
    }
  where
    fresh-fit : AllFit owner (λ x. false) (λ i. []) (λ i. []) (λ x. [])
    fresh-fit x i = go (eqb (owner i) x)
      where
        go : (b : Bool) → Fit b false [] [] fresh
        go true = fit-top true false [] [] fresh refl publisher-fresh
        go false = fit-fresh false false [] [] refl

-- ---- histories and tables of one hub are others

-- hub x's table is t, and of its own nodes the history is h; all others stay
swapped : (owner : ℕ → ℕ) (f : ℕ → Bool) (o h g : ℕ → List KeyValue) (x : ℕ) (t : Table) (ts : ℕ → Table)
    → ((i : ℕ) → Fit (eqb (owner i) x) (f x) (o i) (h i) (node_at i t))
    → ((y i : ℕ) → eqb y x ≡ false → Fit (eqb (owner i) y) (f y) (o i) (g i) (node_at i (ts y)))
    → AllFit owner f o (of_owner owner x h g) (of_hub x t ts)
swapped owner f o h g x t ts there others y i = go (eqb y x) refl
  where
    mine : (b : Bool) → eqb (owner i) x ≡ b → Fit (eqb (owner i) x) (f x) (o i) (pick b (h i) (g i)) (node_at i t)
    mine true q = there i
    mine false q = fit-other (eqb (owner i) x) (f x) (o i) (h i) (node_at i t) (there i) (g i) q

    -- an own node of x is not this hub's
    else : eqb y x ≡ false → (b : Bool) → eqb (owner i) x ≡ b → Fit (eqb (owner i) y) (f y) (o i) (pick b (h i) (g i)) (node_at i (ts y))
    else p true q = fit-other (eqb (owner i) y) (f y) (o i) (g i) (node_at i (ts y)) (others y i p) (h i) (not-here (eqb (owner i) y) refl)
      where
        not-here : (c : Bool) → eqb (owner i) y ≡ c → eqb (owner i) y ≡ false
        not-here true r = let a : owner i ≡ y = eqb-true _ _ r in let b : owner i ≡ x = eqb-true _ _ q in absurd (eqb-false y x p (sym a ∙ b))
        not-here false r = r
    else p false q = others y i p

    go : (b : Bool) → eqb y x ≡ b → Fit (eqb (owner i) y) (f y) (o i) (of_owner owner x h g i) (node_at i (pick b t (ts y)))
    go true p = subst (λ (z : ℕ). Fit (eqb (owner i) z) (f z) (o i) (of_owner owner x h g i) (node_at i t)) (sym (eqb-true _ _ p)) (mine (eqb (owner i) x) refl)
    go false p = else p (eqb (owner i) x) refl

-- of one hub's own nodes the one history, of others the other
both : (owner : ℕ → ℕ) (x : ℕ) (h g : ℕ → List KeyValue) (P : ℕ → List KeyValue → Type 0) → ((i : ℕ) → P i (h i)) → ((i : ℕ) → P i (g i)) → (i : ℕ) → P i (of_owner owner x h g i)
both owner x h g P a b i = go (eqb (owner i) x)
  where
    go : (c : Bool) → P i (pick c (h i) (g i))
    go true = a i
    go false = b i

okay-hub : (x : ℕ) (t : Table) (ts : ℕ → Table) → OkTable t → ((y : ℕ) → OkTable (ts y)) → (y : ℕ) → OkTable (of_hub x t ts y)
okay-hub x t ts a b y = go (eqb y x)
  where
    go : (c : Bool) → OkTable (pick c t (ts y))
    go true = a
    go false = b y

-- a table that does not have the node stays
set-none : (i : ℕ) (n : Node) (t : Table) → node_of i t ≡ none → set_node i n t ≡ t
unfolding node_of set_node
set-none i n [] q = refl
set-none i n (e ∷ t) q = go (eqb i e.number) q (set-none i n t)
  where
    go : (b : Bool) → pick b (some e.node) (node_of i t) ≡ none → (node_of i t ≡ none → set_node i n t ≡ t) → pick b (record { number = e.number; node = n } ∷ t) (e ∷ set_node i n t) ≡ e ∷ t
    go true q ih = let z : ◌≡◌ {A = ℕ} 0 1 = cc in absurd (omega arith)
    go false q ih = ap (λ (u : Table). e ∷ u) (ih q)

module _ (owner : ℕ → ℕ) (w : Losing) (ok : Firm owner w) where
  abbrev v : Net
  v = w.net

  abbrev o : ℕ → List KeyValue
  o = w.out

  abbrev h : ℕ → List KeyValue
  h = v.given

  pub all-given : (i : ℕ) → Grown (o i) (h i)
  all-given i = grown-all (o i) (w.kept i) (h i) (ok.stores i) (ok.gives i)

  -- ---- one hub's table becomes another by calls

  abbrev pub Keeps : ℕ → ℕ → Node → Node → Type 0
  Keeps x i n m = Fit (eqb (owner i) x) (w.forgot x) (o i) (h i) n → Fit (eqb (owner i) x) (w.forgot x) (o i) (h i) m

  pub keeps_same : (x i : ℕ) (n : Node) → Keeps x i n n
  keeps_same x i n y = y

  pub on-hub : (x : ℕ) (u : Table) → OkTable u → Each v Keeps keeps_same x u → Firm owner (with_net (with_table x u v) o w)
  on-hub x u okay e =
      record {
        obeyed = okay-hub x u v.hubs okay ok.obeyed;
        disk_obeyed = ok.disk_obeyed;
        began = ok.began;
        stores = ok.stores;
        gives = ok.gives;
        held = λ y i. each-hub v Keeps keeps_same x u e y i (ok.held y i);
        on_disk = ok.on_disk;
        sent = ok.sent;
        saved = ok.saved;
      }

  as-it-is : (x : ℕ) → Firm owner (with_net (with_table x (v.hubs x) v) o w)
  as-it-is x = on-hub x (v.hubs x) (ok.obeyed x) (each_same v Keeps keeps_same x)

  -- ---- a followed node is recalled

  -- it becomes m, which is honest by what was let out
  module _ (x i : ℕ) (other : eqb (owner i) x ≡ false) (m : Node) (theirs : HonestNode (o i) m) (okay : OkNode m) where
    becomes : (n : Node) → Keeps x i n m
    becomes n y =
        record {
          honest = subst (λ (b : Bool). HonestNode (pick b (h i) (o i)) m) (sym other) theirs;
          level = λ p. absurd (false≢true (sym other ∙ p));
        }

    taken : (a : Option Node) → node_of i (v.hubs x) ≡ a → Firm owner (with_net (with_table x (set_node i m (v.hubs x)) v) o w)
    taken none q = subst (λ (u : Table). Firm owner (with_net (with_table x u v) o w)) (sym (set-none i m (v.hubs x) q)) (as-it-is x)
    taken (some n) q = on-hub x (set_node i m (v.hubs x)) (ok-set i m (v.hubs x) (ok.obeyed x) okay) (each_set v Keeps keeps_same x i n m q (becomes n))

  pub firm-recalling : (x i y k : ℕ) → eqb (owner i) x ≡ false → eqb (owner i) y ≡ false → Firm owner (with_net (with_table x (recalled i (placed k (v.saved y)) (v.hubs x)) v) o w)
  firm-recalling x i y k other-x other-y = go (placed k (v.saved y)) (λ t e. ok.saved y t (placed-in k (v.saved y) e))
    where
      go : (a : Option Table) → ((s : Table) → a ≡ some s → Copies owner o y s) → Firm owner (with_net (with_table x (recalled i a (v.hubs x)) v) o w)
      go none f = as-it-is x
      go (some old) f = at (node_of i old) refl
        where
          at : (a : Option Node) → node_of i old ≡ a → Firm owner (with_net (with_table x (recalled_as i a (v.hubs x)) v) o w)
          at none q = as-it-is x
          at (some m) q =
              let s = f old refl in
              taken x i other-x m (subst (HonestNode (o i)) (ap or_fresh q) (s.1 i other-y)) (node-ok-in i old s.0 q) (node_of i (v.hubs x)) refl

  -- ---- a write

  module _ (x i : ℕ) (k : List ℕ) (own : owner i ≡ x) where
    abbrev t : Table
    t = v.hubs x

    abbrev mine : eqb (owner i) x ≡ true
    mine = eq-eqb _ _ own

    module _ (p : Node) (has : node_of i t ≡ some p) (up : length (o i) ≤ p.max) where
      -- who has caught up publishes
      publishes : Publisher (h i) p
      publishes =
          let f : Fit (eqb (owner i) x) (w.forgot x) (o i) (h i) p = subst (Fit (eqb (owner i) x) (w.forgot x) (o i) (h i)) (ap or_fresh has) (ok.held x i) in
          record {
            numbered = grown-numbered (h i) (grown-all [] (o i) (h i) (ok.began i) (all-given i));
            node = fit-honest (eqb (owner i) x) (w.forgot x) (o i) (h i) p f (all-given i);
            top = caught-up (eqb (owner i) x) (w.forgot x) (o i) (h i) p f (all-given i) mine up;
          }

      acts : (z : Decision) → Publisher (given_after k z p (h i)) (act k z p)
      unfolding act
      acts (Refuse r) = publishes
      acts Leave = publishes
      acts (Give c) = publisher-write (h i) p publishes k c

      adds : (z : Decision) → Longer (h i) (given_after k z p (h i))
      adds (Refuse r) = as_long
      adds Leave = as_long
      adds (Give c) = longer (given_by k c p) (next-version (h i) p publishes k c)

      module _ (z : Decision) where
        abbrev u : Table
        u = set_node i (act k z p) t

        abbrev g : ℕ → List KeyValue
        g j = pick (eqb j i) (given_after k z p (h j)) (h j)

        there : (j : ℕ) → Fit (eqb (owner j) x) (w.forgot x) (o j) (g j) (node_at j u)
        there j = go (eqb j i) refl
          where
            go : (b : Bool) → eqb j i ≡ b → Fit (eqb (owner j) x) (w.forgot x) (o j) (pick b (given_after k z p (h j)) (h j)) (node_at j u)
            go true q =
                subst (λ (l : ℕ). Fit (eqb (owner l) x) (w.forgot x) (o l) (given_after k z p (h l)) (node_at l u)) (sym (eqb-true _ _ q))
                (fit-top (eqb (owner i) x) (w.forgot x) (o i) (given_after k z p (h i)) (node_at i u) mine
                (subst (Publisher (given_after k z p (h i))) (sym (ap or_fresh (node-set-same i (act k z p) t has))) (acts z)))
            go false q = subst (Fit (eqb (owner j) x) (w.forgot x) (o j) (h j)) (sym (ap or_fresh (node-set-other j i (act k z p) t q))) (ok.held x j)

        elsewhere : (y j : ℕ) → eqb y x ≡ false → Fit (eqb (owner j) y) (w.forgot y) (o j) (g j) (node_at j (v.hubs y))
        elsewhere y j e = go (eqb j i) refl
          where
            not-here : eqb j i ≡ true → (c : Bool) → eqb (owner j) y ≡ c → eqb (owner j) y ≡ false
            not-here q true r = let a : owner j ≡ y = eqb-true _ _ r in let b : j ≡ i = eqb-true _ _ q in absurd (eqb-false y x e (sym a ∙ ap owner b ∙ own))
            not-here q false r = r

            go : (b : Bool) → eqb j i ≡ b → Fit (eqb (owner j) y) (w.forgot y) (o j) (pick b (given_after k z p (h j)) (h j)) (node_at j (v.hubs y))
            go true q = fit-other (eqb (owner j) y) (w.forgot y) (o j) (h j) (node_at j (v.hubs y)) (ok.held y j) (given_after k z p (h j)) (not-here q (eqb (owner j) y) refl)
            go false q = ok.held y j

        fits : AllFit owner w.forgot o g (of_hub x u v.hubs)
        fits y j = go (eqb y x) refl
          where
            go : (b : Bool) → eqb y x ≡ b → Fit (eqb (owner j) y) (w.forgot y) (o j) (g j) (node_at j (pick b u (v.hubs y)))
            go true q = subst (λ (l : ℕ). Fit (eqb (owner j) l) (w.forgot l) (o j) (g j) (node_at j u)) (sym (eqb-true _ _ q)) (there j)
            go false q = elsewhere y j q

        more : (j : ℕ) → Grown (w.kept j) (g j)
        more j = go (eqb j i) refl
          where
            go : (b : Bool) → eqb j i ≡ b → Grown (w.kept j) (pick b (given_after k z p (h j)) (h j))
            go true q =
                subst (λ (l : ℕ). Grown (w.kept l) (given_after k z p (h l))) (sym (eqb-true _ _ q)) (grown-longer (w.kept i) (h i) (given_after k z p (h i)) (ok.gives i) (adds z))
            go false q = ok.gives j

    abbrev Written : Table → (ℕ → List KeyValue) → Type 0
    Written u g = Firm owner (with_net (record { hubs = of_hub x u v.hubs; given = g; sent = v.sent; saved = v.saved }) o w)

    wrote : (u : Table) (g : ℕ → List KeyValue) → OkTable u → AllFit owner w.forgot o g (of_hub x u v.hubs) → ((j : ℕ) → Grown (w.kept j) (g j)) → Written u g
    wrote u g okay fit more =
        record {
          obeyed = okay-hub x u v.hubs okay ok.obeyed;
          disk_obeyed = ok.disk_obeyed;
          began = ok.began;
          stores = ok.stores;
          gives = more;
          held = fit;
          on_disk = ok.on_disk;
          sent = ok.sent;
          saved = ok.saved;
        }

    -- on a node that it does not have, or out of its profile
    nowhere : Written t (λ j. pick (eqb j i) (h j) (h j))
    nowhere = wrote t (λ j. pick (eqb j i) (h j) (h j)) (ok.obeyed x) (λ y j. fits y j (eqb y x) refl (eqb j i)) (λ j. more j (eqb j i))
      where
        same : (y j : ℕ) (c : Bool) → Fit (eqb (owner j) y) (w.forgot y) (o j) (pick c (h j) (h j)) (node_at j (v.hubs y))
        same y j true = ok.held y j
        same y j false = ok.held y j

        fits : (y j : ℕ) (b : Bool) → eqb y x ≡ b → (c : Bool) → Fit (eqb (owner j) y) (w.forgot y) (o j) (pick c (h j) (h j)) (node_at j (pick b t (v.hubs y)))
        fits y j true q c = subst (λ (l : ℕ). Fit (eqb (owner j) l) (w.forgot l) (o j) (pick c (h j) (h j)) (node_at j t)) (sym (eqb-true _ _ q)) (same x j c)
        fits y j false q c = same y j c

        more : (j : ℕ) (c : Bool) → Grown (w.kept j) (pick c (h j) (h j))
        more j true = ok.gives j
        more j false = ok.gives j

    called : (c : Call) → time_of c < numbers → caught_up (o i) (node_of i t) ≡ true → Written (call c i k t).table (λ j. pick (eqb j i) (given_in k c (node_of i t) (h j)) (h j))
    unfolding call
    called c clock up = go (node_of i t) refl (kept t _ (call-keeps c i k t (clock-fits c clock)) (ok.obeyed x)) up
      where
        go : (a : Option Node) → node_of i t ≡ a → OkTable (call_on c i k a t).table → caught_up (o i) a ≡ true → Written (call_on c i k a t).table (λ j. pick (eqb j i) (given_in k c a (h j)) (h j))
        go none q okay up = nowhere
        go (some p) q okay up =
            let z : Decision = decide c k p in
            let b : length (o i) ≤ p.max = leb-true _ _ up in
            wrote (set_node i (act k z p) t) _ okay (fits p q b z) (more p q b z)

    -- in its profile
    pub firm-writing : (p : Profile) (who : Party) (c : Call) → time_of c < numbers → caught_up (o i) (node_of i t) ≡ true → Written (call_as p who c i k t).table (λ j. pick (eqb j i) (given_as p who k c (node_of i t) (h j)) (h j))
    firm-writing p who c clock up = by-guard p who c i k t (λ u g. Written u (λ j. pick (eqb j i) (g (h j)) (h j))) nowhere (called c clock up)

  -- ---- computing, by a hub that has stored what it gave

  -- of its own nodes all that was given is kept
  all-kept : (x : ℕ) → nothing_lost owner x (v.hubs x) (some (w.disk x)) ≡ true → (i : ℕ) → owner i ≡ x → w.kept i ≡ h i
  all-kept x lost i own = grown-same (w.kept i) (h i) (ok.gives i) (long ((ok.held x i).level mine))
    where
      mine : eqb (owner i) x ≡ true
      mine = eq-eqb _ _ own

      test : Entry → Bool
      test e = pick (eqb (owner e.number) x) (has_max e.node.max (node_of e.number (w.disk x))) true

      has-max : (p : Node) → node_of i (v.hubs x) ≡ some p → has_max p.max (node_of i (w.disk x)) ≡ true
      has-max p q =
          let y = node_in i (v.hubs x) q in
          let e : Entry = y.0 in
          let passes : pick (eqb (owner e.number) x) (has_max e.node.max (node_of e.number (w.disk x))) true ≡ true = all_from test (v.hubs x) lost e y.1 in
          let theirs : eqb (owner e.number) x ≡ true = eq-eqb (owner e.number) x (ap owner (sym y.3) ∙ own) in
          let same : has_max e.node.max (node_of e.number (w.disk x)) ≡ true = subst (λ (b : Bool). pick b (has_max e.node.max (node_of e.number (w.disk x))) true ≡ true) theirs passes in
          subst (λ (m : Node). has_max m.max (node_of i (w.disk x)) ≡ true) y.2 (subst (λ (j : ℕ). has_max e.node.max (node_of j (w.disk x)) ≡ true) (sym y.3) same)

      at : (m : ℕ) (a : Option Node) → has_max m a ≡ true → m ≤ (or_fresh a).max
      at m none q = absurd (false≢true q)
      at m (some n) q = let e = eqb-true n.max m q in omega arith

      -- what it holds is not above what is on its disk
      low : (a : Option Node) → node_of i (v.hubs x) ≡ a → (or_fresh a).max ≤ (node_at i (w.disk x)).max
      low none q = omega arith
      low (some p) q = at p.max (node_of i (w.disk x)) (has-max p q)

      long : ((node_at i (v.hubs x)).max ≡ length (h i)) ⊎ ((o i ≡ h i) × (w.forgot x ≡ true)) → length (h i) ≤ length (w.kept i)
      long (inl e) =
          let a = low (node_of i (v.hubs x)) refl in
          let b = (fit-honest (eqb (owner i) x) (w.forgot x) (o i) (w.kept i) (node_at i (w.disk x)) (ok.on_disk x i) (ok.stores i)).honest.max-low in
          omega arith
      long (inr e) = subst (λ (g : List KeyValue). length g ≤ length (w.kept i)) e.0 (grown-long (o i) (w.kept i) (ok.stores i))

  module _ (x : ℕ) (lost : nothing_lost owner x (v.hubs x) (some (w.disk x)) ≡ true) where
    -- what was let out then
    abbrev out : ℕ → List KeyValue
    out = of_owner owner x h o

    lets : (i : ℕ) → Grown (o i) (out i)
    lets = both owner x h o (λ i g. Grown (o i) g) all-given (λ i. as_is)

    outs-began : (i : ℕ) → Grown [] (out i)
    outs-began i = grown-all [] (o i) (out i) (ok.began i) (lets i)

    -- what was let out is as before, or all that the owner gave or kept
    as_before : (i : ℕ) → (o i ≡ out i) ⊎ ((h i ≡ out i) × (w.kept i ≡ out i))
    as_before i = go (eqb (owner i) x) refl
      where
        go : (b : Bool) → eqb (owner i) x ≡ b → (o i ≡ pick b (h i) (o i)) ⊎ ((h i ≡ pick b (h i) (o i)) × (w.kept i ≡ pick b (h i) (o i)))
        go true q = inr (refl, all-kept x lost i (eqb-true _ _ q))
        go false q = inl refl

    fits_out : (k : ℕ → List KeyValue) (ts : ℕ → Table) → ((i : ℕ) → (o i ≡ out i) ⊎ (k i ≡ out i)) → AllFit owner w.forgot o k ts → AllFit owner w.forgot out k ts
    fits_out k ts e f y i = fit-out (eqb (owner i) y) (w.forgot y) (o i) (k i) (node_at i (ts y)) (f y i) (out i) (lets i) (λ q. e i)

    given_out : (i : ℕ) → (o i ≡ out i) ⊎ (h i ≡ out i)
    given_out i = go (as_before i)
      where
        go : (o i ≡ out i) ⊎ ((h i ≡ out i) × (w.kept i ≡ out i)) → (o i ≡ out i) ⊎ (h i ≡ out i)
        go (inl e) = inl e
        go (inr e) = inr e.0

    kept_out : (i : ℕ) → (o i ≡ out i) ⊎ (w.kept i ≡ out i)
    kept_out i = go (as_before i)
      where
        go : (o i ≡ out i) ⊎ ((h i ≡ out i) × (w.kept i ≡ out i)) → (o i ≡ out i) ⊎ (w.kept i ≡ out i)
        go (inl e) = inl e
        go (inr e) = inr e.1

    stores-out : (i : ℕ) → Grown (out i) (w.kept i)
    stores-out i = go (kept_out i)
      where
        go : (o i ≡ out i) ⊎ (w.kept i ≡ out i) → Grown (out i) (w.kept i)
        go (inl e) = subst (λ (g : List KeyValue). Grown g (w.kept i)) e (ok.stores i)
        go (inr e) = subst (λ (g : List KeyValue). Grown g (w.kept i)) e as_is

    -- so that its whole table is honest by what is let out
    all-honest : (i : ℕ) → HonestNode (out i) (node_at i (v.hubs x))
    all-honest i = (ok.held x i).honest

    carried : (ops : List Op) → Sendable (v.hubs x) ops → Carries out (delta_bytes ops)
    carried ops s =
        record {
          reads = (ops, s.read, s.chain, s.small, refl);
          honest =
              λ i d q.
              let m = s.made i d q in
              subst (HonestDelta (out i)) (sym m.delta-is)
              (computed-honest (out i) (grown-numbered (out i) (outs-began i)) (node_at i (v.hubs x)) (all-honest i) m.told_gc m.told-max m.count m.fits);
        }

    sent-so-far : (b : List ℕ) → b ∈ v.sent → Carries out b
    sent-so-far b m = grown-carries o out lets b (ok.sent b m)

    abbrev Sends : List (List ℕ) → Type 0
    Sends s = Firm owner (with_net (record { hubs = v.hubs; given = h; sent = s; saved = v.saved }) out w)

    sends : (s : List (List ℕ)) → ((b : List ℕ) → b ∈ s → Carries out b) → Sends s
    sends s f =
        record {
          obeyed = ok.obeyed;
          disk_obeyed = ok.disk_obeyed;
          began = outs-began;
          stores = stores-out;
          gives = ok.gives;
          held = fits_out h v.hubs given_out ok.held;
          on_disk = fits_out w.kept w.disk kept_out ok.on_disk;
          sent = f;
          saved = λ y t m. let s = ok.saved y t m in (s.0, λ i q. grown-node (o i) (out i) (lets i) (node_at i t) (s.1 i q));
        }

    pub firm-computing : (edition : ℕ) (digest excluded : List ℕ) (order : Order) (mtu place : ℕ) (l : List ℕ) (a : Given (Result Sent Refusal) (List ℕ)) → Comes edition excluded order mtu place digest (v.hubs x) l a → Sends (sent_after place a.lent a.answer v.sent)
    firm-computing edition digest excluded order mtu place l a (refuses r) = sends v.sent sent-so-far
    firm-computing edition digest excluded order mtu place l a (writes ds rest e made at_place) =
        subst (λ (b : List ℕ). Sends (b ∷ v.sent)) (sym at_place) (sends _ (one_more (Carries out) _ v.sent (carried _ made.sendable) sent-so-far))

  -- ---- the disk

  pub firm-storing : (x : ℕ) → Firm owner (stored owner x w)
  firm-storing x =
      record {
        obeyed = ok.obeyed;
        disk_obeyed = okay-hub x (v.hubs x) w.disk (ok.obeyed x) ok.disk_obeyed;
        began = ok.began;
        stores = both owner x h w.kept (λ i g. Grown (o i) g) all-given ok.stores;
        gives = both owner x h w.kept (λ i g. Grown g (h i)) (λ i. as_is) ok.gives;
        held = ok.held;
        on_disk = swapped owner w.forgot o h w.kept x (v.hubs x) w.disk (ok.held x) (λ y i q. ok.on_disk y i);
        sent = ok.sent;
        saved = ok.saved;
      }

  pub firm-crashing : (x : ℕ) → Firm owner (crashed owner x w)
  firm-crashing x =
      record {
        obeyed = okay-hub x (w.disk x) v.hubs (ok.disk_obeyed x) ok.obeyed;
        disk_obeyed = ok.disk_obeyed;
        began = ok.began;
        stores = ok.stores;
        gives = both owner x w.kept h (λ i g. Grown (w.kept i) g) (λ i. as_is) ok.gives;
        held = swapped owner w.forgot o w.kept h x (w.disk x) v.hubs (ok.on_disk x) (λ y i q. ok.held y i);
        on_disk = ok.on_disk;
        sent = ok.sent;
        saved = ok.saved;
      }

  pub firm-forgetting : (x : ℕ) → Firm owner (forgotten owner x w)
  unfolding node_of
  firm-forgetting x =
      record {
        obeyed = okay-hub x [] v.hubs (table-facts [] none-obeys) ok.obeyed;
        disk_obeyed = okay-hub x [] w.disk (table-facts [] none-obeys) ok.disk_obeyed;
        began = ok.began;
        stores = both owner x o w.kept (λ i g. Grown (o i) g) (λ i. as_is) ok.stores;
        gives = λ i. gives i (eqb (owner i) x);
        held = swapped owner f o o h x [] v.hubs new (λ y i q. others y q (λ b. Fit (eqb (owner i) y) b (o i) (h i) (node_at i (v.hubs y))) (ok.held y i));
        on_disk = swapped owner f o o w.kept x [] w.disk new (λ y i q. others y q (λ b. Fit (eqb (owner i) y) b (o i) (w.kept i) (node_at i (w.disk y))) (ok.on_disk y i));
        sent = ok.sent;
        saved = ok.saved;
      }
    where
      f : ℕ → Bool
      f y = pick (eqb y x) true (w.forgot y)

      new : (i : ℕ) → Fit (eqb (owner i) x) (f x) (o i) (o i) fresh
      new i = fit-forgot (eqb (owner i) x) (f x) (o i) (ap (λ (b : Bool). pick b true (w.forgot x)) (eq-eqb x x refl))

      others : (y : ℕ) → eqb y x ≡ false → (P : Bool → Type 0) → P (w.forgot y) → P (f y)
      others y q P p = subst P (ap (λ (b : Bool). pick b true (w.forgot y)) (sym q)) p

      gives : (i : ℕ) (b : Bool) → Grown (pick b (o i) (w.kept i)) (pick b (o i) (h i))
      gives i true = as_is
      gives i false = ok.gives i

  -- ---- what a hub saves

  pub firm-saving : (x : ℕ) → Firm owner (with_net (record { hubs = v.hubs; given = h; sent = v.sent; saved = λ y. pick (eqb y x) (v.hubs x ∷ v.saved x) (v.saved y) }) o w)
  firm-saving x =
      record {
        obeyed = ok.obeyed;
        disk_obeyed = ok.disk_obeyed;
        began = ok.began;
        stores = ok.stores;
        gives = ok.gives;
        held = ok.held;
        on_disk = ok.on_disk;
        sent = ok.sent;
        saved = λ y. at y (eqb y x) refl;
      }
    where
      copies : Copies owner o x (v.hubs x)
      copies = (ok.obeyed x, λ i q. subst (λ (b : Bool). HonestNode (pick b (h i) (o i)) (node_at i (v.hubs x))) q (ok.held x i).honest)

      at : (y : ℕ) (b : Bool) → eqb y x ≡ b → (t : Table) → t ∈ pick b (v.hubs x ∷ v.saved x) (v.saved y) → Copies owner o y t
      at y true q t m = subst (λ (z : ℕ). Copies owner o z t) (sym (eqb-true _ _ q)) (one_more (Copies owner o x) (v.hubs x) (v.saved x) copies (ok.saved x) t m)
      at y false q t m = ok.saved y t m

  -- ---- a delta arrives

  module _ (ways : Ways) (law : Lawful ways) (late : ways.late ≡ true) (x now : ℕ) (l : List ℕ) (clock : now < numbers) where
    arrived-okay : (b : List ℕ) → Carries o b → OkTable (apply ways b now (v.hubs x) l).table
    arrived-okay b y =
        applied-table ways b now (v.hubs x) l OkTable (ok.obeyed x)
        (λ os q. subst (λ (ops : List Op). OkTable (apply_each (apply_node ways now) (parts_of ops) (v.hubs x)).table) (sym (same os (sym (law.reads_so b os q) ∙ y.reads.1)))
        (ok-each ways law now clock (parts_of y.reads.0) (v.hubs x) (parts-ok y.reads.0 nothing_read y.reads.2 y.reads.3) (ok.obeyed x)))
      where
        same : (os : List Op) → Good os ≡ Good y.reads.0 → os ≡ y.reads.0
        same os q = cc

    pub firm-arriving : (k : Which) → Firm owner (with_net (with_table x (applied_to ways now l (arrives k v.sent) (v.hubs x)) v) o w)
    firm-arriving k =
        nth-sent (λ d. Firm owner (with_net (with_table x (applied_to ways now l d (v.hubs x)) v) o w)) (as-it-is x) k v.sent (λ b m. (ok.sent b m).reads)
        (λ b e m p.
        let c = part-carried o b e (ok.sent b m) p in
        on-hub x (apply ways e now (v.hubs x) l).table (arrived-okay e c)
        (each-taken v Keeps keeps_same ways law x now l e o c
        (λ i d q y. fit-apply (eqb (owner i) x) (w.forgot x) (o i) (h i) (node_at i (v.hubs x)) y ways law late (ok.began i) (all-given i) now d (c.honest i d q))))
