-- What a hub holds of its own: its table with every other node fresh. What it does by itself looks at no more, and no bytes that come change it. Assumes nothing.
use Prim.Native.Nat.{ℕ, suc, ◌+◌}
use mathlib.Core.Path.{◌≡◌, refl, ap, ap₂, sym, ◌∙◌, subst}
use mathlib.Core.Bool.{Bool, true, false, ◌&&◌}
use mathlib.Core.List.{List, [], ◌∷◌}
use mathlib.Core.Option.{Option, none, some}
use native.Mathlib.Omega.{arith}
use lib.ListN.{length}
use lib.Dec.{eqb, ltb}
use borrow.Author.Tests.{eqb-true}
use Rattle.fields.specs.Choice.{pick, ◌∈◌, here, later}
use Rattle.fields.specs.Order.{same_bytes}
use Rattle.rules.specs.Sizes.{max_nodes, top}
use Rattle.rules.specs.Node.{Node, Rec, Call, fresh, remove, act, decide, due, beats, offer_of, with_heartbeat}
use Rattle.rules.specs.Profile.{guard_in}
use Rattle.std.specs.Prelude.{Err, Result}
use Rattle.rules.specs.Results.{done}
use Rattle.rules.specs.declared.Heartbeat.{Heartbeat}
use Rattle.rules.specs.declared.Party.{Party}
use Rattle.rules.specs.declared.Profile.{Profile}
use Rattle.rules.specs.declared.Refusal.{Refusal}
use Rattle.rules.specs.declared.Refusal.TheVariants.{Exhausted, NinthNode, NoNode}
use Rattle.rules.specs.Table.{Entry, Table, node_of, set_node, add_node, drop_node, remove_all, numbers_of, among}
use Rattle.rules.specs.Local.{Outcome, add, remove_node, call, call_as, call_on, gc, gives, local_beat, beat_on, offer, offer_on, unless_guarded}
use Rattle.rules.specs.Apply.{Ways, apply}
use Rattle.rules.proofs.Tables.{numbers-apply}
use Rattle.grid.specs.Careful.{careful_due}
use Rattle.grid.specs.Grid.{columns, somebody}
use Rattle.grid.specs.GridLayout.{decode_grid, valid_grid}
use Rattle.grid.specs.LentGrid.{carefully_removed, fits_table}
use Rattle.demand3.specs.Forms.{Removal, ByClock, Carefully, removed_by}
use Rattle.leaving.specs.Leaving.{apply_leaving, kept}
use Rattle.leaving.proofs.Left.{left-table}
use Rattle.net_forged.specs.Mine.{mine_node, mine}

module _ (own : ℕ → Bool) where
  pub numbers-mine : (t : Table) → numbers_of (mine own t) ≡ numbers_of t
  unfolding mine numbers_of
  numbers-mine [] = refl
  numbers-mine (e ∷ t) = ap (λ (l : List ℕ). e.number ∷ l) (numbers-mine t)

  length-mine : (t : Table) → length (mine own t) ≡ length t
  unfolding mine
  length-mine [] = refl
  length-mine (e ∷ t) = ap suc (length-mine t)

  -- an own node is the table's
  pub node-mine : (i : ℕ) → own i ≡ true → (t : Table) → node_of i (mine own t) ≡ node_of i t
  unfolding mine node_of
  node-mine i h [] = refl
  node-mine i h (e ∷ t) = go (eqb i e.number) refl (node-mine i h t)
    where
      go : (b : Bool) → eqb i e.number ≡ b → node_of i (mine own t) ≡ node_of i t → pick b (some (mine_node own e.number e.node)) (node_of i (mine own t)) ≡ pick b (some e.node) (node_of i t)
      go true q ih = ap (λ (c : Bool). some (pick c e.node fresh)) (ap own (sym (eqb-true i e.number q)) ∙ h)
      go false q ih = ih

  twice : (t : Table) → mine own (mine own t) ≡ mine own t
  unfolding mine
  twice [] = refl
  twice (e ∷ t) = ap₂ (λ (n : Node) (u : Table). ◌∷◌ (record { number = e.number; node = n }) u) (go (own e.number)) (twice t)
    where
      go : (b : Bool) → pick b (pick b e.node fresh) fresh ≡ pick b e.node fresh
      go true = refl
      go false = refl

  -- an own node that is set, and another's
  set-mine : (i : ℕ) (n : Node) (t : Table) → mine own (set_node i n (mine own t)) ≡ mine own (set_node i n t)
  unfolding mine set_node
  set-mine i n [] = refl
  set-mine i n (e ∷ t) = go (eqb i e.number) (set-mine i n t)
    where
      head : (b : Bool) → pick b (pick b e.node fresh) fresh ≡ pick b e.node fresh
      head true = refl
      head false = refl

      go : (b : Bool) → mine own (set_node i n (mine own t)) ≡ mine own (set_node i n t)
          → mine own (pick b (record { number = e.number; node = n } ∷ mine own t) (record { number = e.number; node = mine_node own e.number e.node } ∷ set_node i n (mine own t)))
          ≡ mine own (pick b (record { number = e.number; node = n } ∷ t) (e ∷ set_node i n t))
      go true ih = ap (λ (u : Table). ◌∷◌ (record { number = e.number; node = mine_node own e.number n }) u) (twice t)
      go false ih = ap₂ (λ (m : Node) (u : Table). ◌∷◌ (record { number = e.number; node = m }) u) (head (own e.number)) ih

  set_other : (i : ℕ) (n : Node) (t : Table) → own i ≡ false → mine own (set_node i n t) ≡ mine own t
  unfolding mine set_node
  set_other i n [] h = refl
  set_other i n (e ∷ t) h = go (eqb i e.number) refl (set_other i n t h)
    where
      go : (b : Bool) → eqb i e.number ≡ b → mine own (set_node i n t) ≡ mine own t → mine own (pick b (record { number = e.number; node = n } ∷ t) (e ∷ set_node i n t)) ≡ record { number = e.number; node = mine_node own e.number e.node } ∷ mine own t
      go true q ih =
          let f : own e.number ≡ false = ap own (sym (eqb-true i e.number q)) ∙ h in
          ap (λ (c : Bool). ◌∷◌ (record { number = e.number; node = pick c n fresh }) (mine own t)) f ∙ ap (λ (c : Bool). ◌∷◌ (record { number = e.number; node = pick c e.node fresh }) (mine own t)) (sym f)
      go false q ih = ap (λ (u : Table). ◌∷◌ (record { number = e.number; node = mine_node own e.number e.node }) u) ih

  -- ---- what a hub does by itself looks at its own nodes alone, and at which nodes there are

  abbrev pub Sees : (Table → Table) → Type 0
  Sees f = (t : Table) → mine own (f t) ≡ mine own (f (mine own t))

  pub sees-call : (p : Profile) (who : Party) (c : Call) (i : ℕ) (k : List ℕ) → own i ≡ true → Sees (λ t. (call_as p who c i k t).table)
  unfolding call_as call
  sees-call p who c i k h t =
      go (node_of i t) (guard_in p who c k (node_of i t))
      ∙ ap (λ (o : Option Node). mine own (unless_guarded (guard_in p who c k o) (call_on c i k o (mine own t)) (mine own t)).table) (sym (node-mine i h t))
    where
      go : (o : Option Node) (g : Option Refusal) → mine own (unless_guarded g (call_on c i k o t) t).table ≡ mine own (unless_guarded g (call_on c i k o (mine own t)) (mine own t)).table
      go o (some r) = sym (twice t)
      go none none = sym (twice t)
      go (some n) none = sym (set-mine i (act k (decide c k n) n) t)

  -- of any node
  of_node : (i : ℕ) (f : Option Node → Table → Table) → ((o : Option Node) → Sees (f o)) → ((o : Option Node) (t : Table) → own i ≡ false → mine own (f o t) ≡ mine own t) → Sees (λ t. f (node_of i t) t)
  of_node i f mines others t = go (own i) refl
    where
      go : (b : Bool) → own i ≡ b → mine own (f (node_of i t) t) ≡ mine own (f (node_of i (mine own t)) (mine own t))
      go true h = mines (node_of i t) t ∙ ap (λ (o : Option Node). mine own (f o (mine own t))) (sym (node-mine i h t))
      go false h = others (node_of i t) t h ∙ sym (twice t) ∙ sym (others (node_of i (mine own t)) (mine own t) h)

  pub sees-beat : (i : ℕ) → Sees (λ t. (local_beat i t).table)
  unfolding local_beat
  sees-beat i = of_node i (λ o t. (beat_on i o t).table) mines others
    where
      mines : (o : Option Node) → Sees (λ t. (beat_on i o t).table)
      mines none t = sym (twice t)
      mines (some n) t = go (ltb n.heartbeat.0 top)
        where
          go : (b : Bool) → mine own (pick {X = Outcome (Result (Unit {0}) Refusal)} b (gives done (set_node i (with_heartbeat (beats (n.heartbeat.0 + 1)) n) t)) (gives (Err Exhausted) t)).table
              ≡ mine own (pick {X = Outcome (Result (Unit {0}) Refusal)} b (gives done (set_node i (with_heartbeat (beats (n.heartbeat.0 + 1)) n) (mine own t))) (gives (Err Exhausted) (mine own t))).table
          go true = sym (set-mine i (with_heartbeat (beats (n.heartbeat.0 + 1)) n) t)
          go false = sym (twice t)

      others : (o : Option Node) (t : Table) → own i ≡ false → mine own (beat_on i o t).table ≡ mine own t
      others none t h = refl
      others (some n) t h = go (ltb n.heartbeat.0 top)
        where
          go : (b : Bool) → mine own (pick {X = Outcome (Result (Unit {0}) Refusal)} b (gives done (set_node i (with_heartbeat (beats (n.heartbeat.0 + 1)) n) t)) (gives (Err Exhausted) t)).table ≡ mine own t
          go true = set_other i (with_heartbeat (beats (n.heartbeat.0 + 1)) n) t h
          go false = refl

  pub sees-offer : (i : ℕ) (b : Heartbeat) → Sees (λ t. (offer i b t).table)
  unfolding offer
  sees-offer i b = of_node i (λ o t. (offer_on i b o t).table) mines others
    where
      mines : (o : Option Node) → Sees (λ t. (offer_on i b o t).table)
      mines none t = sym (twice t)
      mines (some n) t = sym (set-mine i (with_heartbeat (offer_of n.heartbeat b).heartbeat n) t)

      others : (o : Option Node) (t : Table) → own i ≡ false → mine own (offer_on i b o t).table ≡ mine own t
      others none t h = refl
      others (some n) t h = set_other i (with_heartbeat (offer_of n.heartbeat b).heartbeat n) t h

  sees-removal : (due : ℕ → Rec → Bool) → Sees (remove_all due)
  unfolding mine remove_all
  sees-removal due [] = refl
  sees-removal due (e ∷ t) = ap₂ (λ (n : Node) (u : Table). ◌∷◌ (record { number = e.number; node = n }) u) (go (own e.number)) (sees-removal due t)
    where
      go : (b : Bool) → pick b (remove (due e.number) e.node) fresh ≡ pick b (remove (due e.number) (pick b e.node fresh)) fresh
      go true = refl
      go false = refl

  sees-adding : (i : ℕ) → Sees (add_node i)
  unfolding mine add_node
  sees-adding i [] = refl
  sees-adding i (e ∷ t) = go (eqb i e.number) (ltb i e.number) (sees-adding i t)
    where
      m : Entry
      m = record { number = e.number; node = mine_node own e.number e.node }

      go : (b c : Bool) → mine own (add_node i t) ≡ mine own (add_node i (mine own t))
          → mine own (pick b (e ∷ t) (pick c (record { number = i; node = fresh } ∷ e ∷ t) (e ∷ add_node i t))) ≡ mine own (pick b (m ∷ mine own t) (pick c (record { number = i; node = fresh } ∷ m ∷ mine own t) (m ∷ add_node i (mine own t))))
      go true c ih = sym (twice (e ∷ t))
      go false true ih = ap (λ (u : Table). ◌∷◌ (record { number = i; node = mine_node own i fresh }) u) (sym (twice (e ∷ t)))
      go false false ih = ap₂ (λ (n : Node) (u : Table). ◌∷◌ (record { number = e.number; node = n }) u) (same (own e.number)) ih
        where
          same : (b : Bool) → pick b e.node fresh ≡ pick b (pick b e.node fresh) fresh
          same true = refl
          same false = refl

  pub sees-add : (i : ℕ) → Sees (λ t. (add i t).table)
  unfolding add
  sees-add i t =
      go (among i (numbers_of t)) (ltb (length t) max_nodes)
      ∙ ap₂ (λ (b c : Bool). mine own (pick {X = Outcome (Result (Unit {0}) Refusal)} b (gives done (mine own t)) (pick c (gives done (add_node i (mine own t))) (gives (Err NinthNode) (mine own t)))).table)
      (ap (among i) (sym (numbers-mine t))) (ap (λ (n : ℕ). ltb n max_nodes) (sym (length-mine t)))
    where
      go : (b c : Bool) → mine own (pick {X = Outcome (Result (Unit {0}) Refusal)} b (gives done t) (pick c (gives done (add_node i t)) (gives (Err NinthNode) t))).table
          ≡ mine own (pick {X = Outcome (Result (Unit {0}) Refusal)} b (gives done (mine own t)) (pick c (gives done (add_node i (mine own t))) (gives (Err NinthNode) (mine own t)))).table
      go true c = sym (twice t)
      go false true = sees-adding i t
      go false false = sym (twice t)

  sees-dropping : (i : ℕ) → Sees (drop_node i)
  unfolding mine drop_node
  sees-dropping i [] = refl
  sees-dropping i (e ∷ t) = go (eqb i e.number) (sees-dropping i t)
    where
      go : (b : Bool) → mine own (drop_node i t) ≡ mine own (drop_node i (mine own t))
          → mine own (pick b t (e ∷ drop_node i t)) ≡ mine own (pick b (mine own t) (record { number = e.number; node = mine_node own e.number e.node } ∷ drop_node i (mine own t)))
      go true ih = sym (twice t)
      go false ih = ap₂ (λ (n : Node) (u : Table). ◌∷◌ (record { number = e.number; node = n }) u) (same (own e.number)) ih
        where
          same : (b : Bool) → pick b e.node fresh ≡ pick b (pick b e.node fresh) fresh
          same true = refl
          same false = refl

  pub sees-drop : (i : ℕ) → Sees (λ t. (remove_node i t).table)
  unfolding remove_node
  sees-drop i t =
      go (among i (numbers_of t))
      ∙ ap (λ (b : Bool). mine own (pick {X = Outcome (Result (Unit {0}) Refusal)} b (gives done (drop_node i (mine own t))) (gives (Err NoNode) (mine own t))).table) (ap (among i) (sym (numbers-mine t)))
    where
      go : (b : Bool) → mine own (pick {X = Outcome (Result (Unit {0}) Refusal)} b (gives done (drop_node i t)) (gives (Err NoNode) t)).table ≡ mine own (pick {X = Outcome (Result (Unit {0}) Refusal)} b (gives done (drop_node i (mine own t))) (gives (Err NoNode) (mine own t))).table
      go true = sees-dropping i t
      go false = sym (twice t)

  pub sees-removed : (removal : Removal) → Sees (removed_by removal)
  unfolding gc
  sees-removed (ByClock now grace) t = sees-removal (λ i. due now grace) t
  sees-removed (Carefully grid now grace) t =
      go (valid_grid grid && fits_table (decode_grid grid) t) (somebody (decode_grid grid))
      ∙ ap (λ (ns : List ℕ). mine own (pick (valid_grid grid && same_bytes (columns (decode_grid grid)) ns) (pick (somebody (decode_grid grid)) (carefully_removed (decode_grid grid) now grace (mine own t)) (mine own t)) (mine own t))) (sym (numbers-mine t))
    where
      go : (b c : Bool) → mine own (pick b (pick c (carefully_removed (decode_grid grid) now grace t) t) t) ≡ mine own (pick b (pick c (carefully_removed (decode_grid grid) now grace (mine own t)) (mine own t)) (mine own t))
      go true true = sees-removal (careful_due (decode_grid grid) now grace) t
      go true false = sym (twice t)
      go false c = sym (twice t)

  -- two tables with the same own nodes
  pub same_after : (f : Table → Table) → Sees f → (t u : Table) → mine own t ≡ mine own u → mine own (f t) ≡ mine own (f u)
  same_after f s t u e = s t ∙ ap (λ (x : Table). mine own (f x)) e ∙ sym (s u)

  pub same-node : (i : ℕ) → own i ≡ true → (t u : Table) → mine own t ≡ mine own u → node_of i t ≡ node_of i u
  same-node i h t u e = sym (node-mine i h t) ∙ ap (node_of i) e ∙ node-mine i h u

  -- what came leaves them, where all of them are named
  kept-mine : (names : List ℕ) (t u : Table) → ((j : ℕ) → j ∈ numbers_of u → own j ≡ true → among j names ≡ true) → numbers_of u ≡ numbers_of t → mine own (kept names t u) ≡ mine own t
  unfolding kept mine numbers_of
  kept-mine names [] [] h e = refl
  kept-mine names [] (f ∷ u) h e = let z : ◌≡◌ {A = ℕ} 0 1 = cc in absurd (omega arith)
  kept-mine names (a ∷ t) [] h e = let z : ◌≡◌ {A = ℕ} 0 1 = cc in absurd (omega arith)
  kept-mine names (a ∷ t) (f ∷ u) h e =
      let p : f.number ≡ a.number = cc in
      let q : numbers_of u ≡ numbers_of t = cc in
      ap₂ (λ (n : Node) (v : Table). ◌∷◌ (record { number = f.number; node = n }) v) (go (own f.number) refl) (kept-mine names t u (λ j m. h j (later m)) q)
      ∙ ap (λ (j : ℕ). ◌∷◌ (record { number = j; node = mine_node own j a.node }) (mine own t)) p
    where
      go : (b : Bool) → own f.number ≡ b → pick (own f.number) (pick (among f.number names) a.node f.node) fresh ≡ pick (own f.number) a.node fresh
      go true o = ap (λ (c : Bool). pick (own f.number) (pick c a.node f.node) fresh) (h f.number (here refl) o)
      go false o =
          ap (λ (c : Bool). pick c (pick (among f.number names) a.node f.node) fresh) o ∙ ap (λ (c : Bool). pick c a.node fresh) (sym o)

  pub came-mine : (names : List ℕ) (ways : Ways) (b : List ℕ) (now : ℕ) (t : Table) (l : List ℕ) → ((j : ℕ) → j ∈ numbers_of t → own j ≡ true → among j names ≡ true)
      → mine own (apply_leaving names ways b now t l).table ≡ mine own t
  came-mine names ways b now t l h =
      let u : Table = (apply ways b now t l).table in
      let e : numbers_of u ≡ numbers_of t = numbers-apply ways b now t l in
      ap (mine own) (left-table names ways b now t l) ∙ kept-mine names t u (λ j m. h j (subst (λ (ns : List ℕ). j ∈ ns) e m)) e
