-- What is common to both parties: nodes that come and go, the memory, heartbeats, removal. Each says the same of a table and of what a party has of it, and
-- leaves the same of that. Assumes nothing.
use Prim.Native.Nat.{ℕ, ◌+◌}
use mathlib.Core.Bool.{Bool, true, false}
use mathlib.Core.List.{List}
use mathlib.Core.Option.{Option, none, some}
use mathlib.Core.Path.{◌≡◌, refl, ap, ap₂, sym, ◌∙◌, subst}
use lib.ListN.{length}
use lib.Dec.{ltb}
use Rattle.fields.specs.Choice.{pick}
use Rattle.rules.specs.Sizes.{max_nodes, top}
use Rattle.rules.specs.Node.{Node, due, offer_of, beats, with_heartbeat}
use Rattle.rules.specs.Table.{Table, node_of, set_node, add_node, drop_node, remove_all, numbers_of, among}
use Rattle.rules.specs.Memory.{Memory}
use Rattle.rules.specs.Local.{Outcome, gives, add, remove_node, offer, offer_on, local_beat, beat_on}
use Rattle.rules.specs.Lent.{remember_on}
use Rattle.rules.specs.declared.Heartbeat.{Heartbeat}
use Rattle.rules.specs.declared.Profile.TheVariants.{Shared}
use Rattle.rules.specs.declared.Refusal.TheVariants.{NoNode, NinthNode, Exhausted}
use Rattle.std.specs.Prelude.{Err}
use Rattle.rules.specs.Results.{done}
use Rattle.rules.proofs.Formed.{add-formed, drop-formed, node-obeys, removed-formed, set-formed}
use Rattle.parties.proofs.Tables.{view_node, view_table, view_held, node-view, set_view, node-twice, table-twice, numbers-view, length-view, add-view, drop-view, InOrder, node-ordered, set-ordered, add-ordered, drop-ordered, remove-ordered}
use Rattle.parties.proofs.Calls.{Tidy}

-- the outcomes on what the party has, and on the table
pub record Even {A : Type 0} (mine : List ℕ → Bool) (o v : Outcome A) : Type 0 where
  pub answers : v.answer ≡ o.answer
  pub views : view_table mine v.table ≡ view_table mine o.table

module _ (mine : List ℕ → Bool) where
  pub add-even : (i : ℕ) (t : Table) → Even mine (add i t) (add i (view_table mine t))
  unfolding add
  add-even i t =
      subst (λ (l : List ℕ). Even mine (add i t) (pick (among i l) (gives done (view_table mine t)) (pick (ltb (length (view_table mine t)) max_nodes) (gives done (add_node i (view_table mine t))) (gives (Err NinthNode) (view_table mine t)))))
      (sym (numbers-view mine t))
      (subst (λ (n : ℕ). Even mine (add i t) (pick (among i (numbers_of t)) (gives done (view_table mine t)) (pick (ltb n max_nodes) (gives done (add_node i (view_table mine t))) (gives (Err NinthNode) (view_table mine t)))))
      (sym (length-view mine t)) (go (among i (numbers_of t)) (ltb (length t) max_nodes)))
    where
      go : (a b : Bool) → Even mine (pick a (gives done t) (pick b (gives done (add_node i t)) (gives (Err NinthNode) t)))
          (pick a (gives done (view_table mine t)) (pick b (gives done (add_node i (view_table mine t))) (gives (Err NinthNode) (view_table mine t))))
      go true b = record { answers = refl; views = table-twice mine t }
      go false true = record { answers = refl; views = add-view mine i (view_table mine t) ∙ ap (add_node i) (table-twice mine t) ∙ sym (add-view mine i t) }
      go false false = record { answers = refl; views = table-twice mine t }

  pub drop-even : (i : ℕ) (t : Table) → Even mine (remove_node i t) (remove_node i (view_table mine t))
  unfolding remove_node
  drop-even i t =
      subst (λ (l : List ℕ). Even mine (remove_node i t) (pick (among i l) (gives done (drop_node i (view_table mine t))) (gives (Err NoNode) (view_table mine t)))) (sym (numbers-view mine t))
      (go (among i (numbers_of t)))
    where
      go : (a : Bool) → Even mine (pick a (gives done (drop_node i t)) (gives (Err NoNode) t)) (pick a (gives done (drop_node i (view_table mine t))) (gives (Err NoNode) (view_table mine t)))
      go true = record { answers = refl; views = drop-view mine i (view_table mine t) ∙ ap (drop_node i) (table-twice mine t) ∙ sym (drop-view mine i t) }
      go false = record { answers = refl; views = table-twice mine t }

  pub remember-even : (i : ℕ) (t : Table) (m : Memory) → remember_on (node_of i (view_table mine t)) i m ≡ remember_on (node_of i t) i m
  remember-even i t m = ap (λ (o : Option Node). remember_on o i m) (node-view mine i t) ∙ go (node_of i t)
    where
      go : (o : Option Node) → remember_on (view_held mine o) i m ≡ remember_on o i m
      go none = refl
      go (some n) = refl

  -- a node with another heartbeat
  beat-view : (i : ℕ) (h : Heartbeat) (n : Node) (t : Table) → view_table mine (set_node i (with_heartbeat h (view_node mine n)) (view_table mine t)) ≡ view_table mine (set_node i (with_heartbeat h n) t)
  beat-view i h n t =
      set_view mine i (with_heartbeat h (view_node mine n)) (view_table mine t)
      ∙ ap₂ (λ (x : Node) (u : Table). set_node i (with_heartbeat h x) u) (node-twice mine n) (table-twice mine t)
      ∙ sym (set_view mine i (with_heartbeat h n) t)

  pub offer-even : (i : ℕ) (h : Heartbeat) (t : Table) → Even mine (offer i h t) (offer i h (view_table mine t))
  unfolding offer
  offer-even i h t = subst (λ (o : Option Node). Even mine (offer_on i h (node_of i t) t) (offer_on i h o (view_table mine t))) (sym (node-view mine i t)) (go (node_of i t))
    where
      go : (o : Option Node) → Even mine (offer_on i h o t) (offer_on i h (view_held mine o) (view_table mine t))
      go none = record { answers = refl; views = table-twice mine t }
      go (some n) = record { answers = refl; views = beat-view i (offer_of n.heartbeat h).heartbeat n t }

  pub beat-even : (i : ℕ) (t : Table) → Even mine (local_beat i t) (local_beat i (view_table mine t))
  unfolding local_beat
  beat-even i t = subst (λ (o : Option Node). Even mine (beat_on i (node_of i t) t) (beat_on i o (view_table mine t))) (sym (node-view mine i t)) (go (node_of i t))
    where
      go : (o : Option Node) → Even mine (beat_on i o t) (beat_on i (view_held mine o) (view_table mine t))
      go none = record { answers = refl; views = table-twice mine t }
      go (some n) = at (ltb n.heartbeat.0 top)
        where
          at : (b : Bool) → Even mine (pick b (gives done (set_node i (with_heartbeat (beats (n.heartbeat.0 + 1)) n) t)) (gives (Err Exhausted) t))
              (pick b (gives done (set_node i (with_heartbeat (beats (n.heartbeat.0 + 1)) (view_node mine n)) (view_table mine t))) (gives (Err Exhausted) (view_table mine t)))
          at true = record { answers = refl; views = beat-view i (beats (n.heartbeat.0 + 1)) n t }
          at false = record { answers = refl; views = table-twice mine t }

-- ---- keys stay in order, and the shared profile's rules are kept

pub adding-tidy : (i : ℕ) (t : Table) → Tidy t → Tidy (add i t).table
unfolding add
adding-tidy i t s = record { ordered = go (among i (numbers_of t)) (ltb (length t) max_nodes); formed = add-formed Shared i t s.formed }
  where
    go : (a b : Bool) → InOrder (pick a (gives done t) (pick b (gives done (add_node i t)) (gives (Err NinthNode) t))).table
    go true b = s.ordered
    go false true = add-ordered i t s.ordered
    go false false = s.ordered

pub dropping-tidy : (i : ℕ) (t : Table) → Tidy t → Tidy (remove_node i t).table
unfolding remove_node
dropping-tidy i t s = record { ordered = go (among i (numbers_of t)); formed = drop-formed Shared i t s.formed }
  where
    go : (a : Bool) → InOrder (pick a (gives done (drop_node i t)) (gives (Err NoNode) t)).table
    go true = drop-ordered i t s.ordered
    go false = s.ordered

pub removing-tidy : (now grace : ℕ) (t : Table) → Tidy t → Tidy (remove_all (λ i. due now grace) t)
removing-tidy now grace t s = record { ordered = remove-ordered now grace t s.ordered; formed = removed-formed Shared (λ i. due now grace) t s.formed }

beaten-tidy : (i : ℕ) (h : Heartbeat) (n : Node) (t : Table) → node_of i t ≡ some n → Tidy t → Tidy (set_node i (with_heartbeat h n) t)
beaten-tidy i h n t q s =
    record {
      ordered = set-ordered i (with_heartbeat h n) t s.ordered (node-ordered i t s.ordered q);
      formed = set-formed Shared i (with_heartbeat h n) t s.formed (node-obeys Shared i t s.formed q);
    }

pub offering-tidy : (i : ℕ) (h : Heartbeat) (t : Table) → Tidy t → Tidy (offer i h t).table
unfolding offer
offering-tidy i h t s = go (node_of i t) refl
  where
    go : (o : Option Node) → node_of i t ≡ o → Tidy (offer_on i h o t).table
    go none q = s
    go (some n) q = beaten-tidy i (offer_of n.heartbeat h).heartbeat n t q s

pub beating-tidy : (i : ℕ) (t : Table) → Tidy t → Tidy (local_beat i t).table
unfolding local_beat
beating-tidy i t s = go (node_of i t) refl
  where
    at : (n : Node) → node_of i t ≡ some n → (b : Bool) → Tidy (pick b (gives done (set_node i (with_heartbeat (beats (n.heartbeat.0 + 1)) n) t)) (gives (Err Exhausted) t)).table
    at n q true = beaten-tidy i (beats (n.heartbeat.0 + 1)) n t q s
    at n q false = s

    go : (o : Option Node) → node_of i t ≡ o → Tidy (beat_on i o t).table
    go none q = s
    go (some n) q = at n q (ltb n.heartbeat.0 top)
