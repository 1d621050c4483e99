-- What computing makes of a table whose records are in a form is in that form: so a table of the same profile never refuses it with 17 or 19. Assumes nothing.
use Prim.Native.Nat.{ℕ, ◌-◌, ◌≤◌}
use mathlib.Core.Bool.{Bool, true, false}
use mathlib.Core.List.{List, [], ◌∷◌, ◌++◌}
use mathlib.Core.Path.{◌≡◌, refl, sym, subst}
use lib.Dec.{leb}
use Rattle.fields.specs.Choice.{pick, all, ◌∈◌, here, later}
use Rattle.fields.proofs.Choice.{all_from, and_intro, and_left, and_right}
use Rattle.rules.specs.Sizes.{max_delta}
use Rattle.rules.specs.Node.{KeyValue, Node, Rec}
use Rattle.rules.specs.Table.{Entry, Table, obeys}
use Rattle.rules.specs.Delta.{Good, KeyValueOp, NodeOp, Op, SetMaxVersionOp, delta_bytes, size_of}
use Rattle.rules.specs.Digest.{NodeDigest}
use Rattle.rules.specs.Compute.{StaleNode, all_ops, body_ops, cut, delta_for, from_for, key_value_ops, ordered, stale_nodes, stale_of, unless_max}
use Rattle.rules.specs.Profile.{in_form, op_in_form, profile_obeys, read_delta_as, recs_formed, table_formed}
use Rattle.rules.specs.declared.Profile.{Profile}
use Rattle.rules.proofs.Accepted.{read-computed}
use Rattle.rules.proofs.Formed.{table-formed}
use Rattle.rules.proofs.Stale.{stale-from}
use Rattle.rules.proofs.Tables.{behind-from, ordered-from}
use Rattle.profiles.proofs.Reading.{delta-formed}

module _ (p : Profile) where
  abbrev formed : List Op → Bool
  formed ops = all (op_in_form p) ops

  pub append-formed : (xs ys : List Op) → formed xs ≡ true → formed ys ≡ true → formed (xs ++ ys) ≡ true
  unfolding all
  append-formed [] ys f g = g
  append-formed (o ∷ xs) ys f g = and_intro (op_in_form p o) (formed (xs ++ ys)) (and_left (op_in_form p o) (formed xs) f) (append-formed xs ys (and_right (op_in_form p o) (formed xs) f) g)

  pub cut-formed : (left : ℕ) (ops : List Op) → formed ops ≡ true → formed (cut left ops) ≡ true
  unfolding cut all
  cut-formed left [] f = refl
  cut-formed left (o ∷ ops) f =
      go (leb (size_of o) left) (cut-formed (left - size_of o) ops (and_right (op_in_form p o) (formed ops) f)) (cut-formed left ops (and_right (op_in_form p o) (formed ops) f))
    where
      rest : (o : Op) → formed (cut left ops) ≡ true → formed (unless_max o (cut left ops)) ≡ true
      rest (NodeOp n g f) h = refl
      rest (KeyValueOp r) h = refl
      rest (SetMaxVersionOp m) h = h

      go : (b : Bool) → formed (cut (left - size_of o) ops) ≡ true → formed (cut left ops) ≡ true → formed (pick b (o ∷ cut (left - size_of o) ops) (unless_max o (cut left ops))) ≡ true
      go true h g = and_intro (op_in_form p o) (formed (cut (left - size_of o) ops)) (and_left (op_in_form p o) (formed ops) f) h
      go false h g = rest o g

  pub records-formed : (rs : List KeyValue) → ((r : KeyValue) → r ∈ rs → in_form p r ≡ true) → formed (key_value_ops rs) ≡ true
  unfolding key_value_ops all
  records-formed [] f = refl
  records-formed (r ∷ rs) f = and_intro (in_form p r) (formed (key_value_ops rs)) (f r (here refl)) (records-formed rs (λ x m. f x (later m)))

  pub body-formed : (max : ℕ) (rs : List KeyValue) → ((r : KeyValue) → r ∈ rs → in_form p r ≡ true) → formed (body_ops max rs) ≡ true
  unfolding all
  body-formed max [] f = refl
  body-formed max (r ∷ rs) f = records-formed (r ∷ rs) f

  pub stale-formed : (s : StaleNode) → recs_formed p s.node.recs ≡ true → (r : KeyValue) → r ∈ stale_of s → in_form p r ≡ true
  stale-formed s h r m =
      let x = stale-from (from_for s) s.node.recs m in
      subst (λ (y : KeyValue). in_form p y ≡ true) x.2 (all_from (λ (y : Rec). in_form p y.kv) s.node.recs h x.0 x.1)

  all-formed : (ss : List StaleNode) → ((s : StaleNode) → s ∈ ss → recs_formed p s.node.recs ≡ true) → formed (all_ops ss) ≡ true
  unfolding all_ops all
  all-formed [] f = refl
  all-formed (s ∷ ss) f =
      append-formed (body_ops s.node.max (stale_of s)) (all_ops ss) (body-formed s.node.max (stale_of s) (stale-formed s (f s (here refl)))) (all-formed ss (λ x m. f x (later m)))

  module _ (excluded ties : List ℕ) (ds : List NodeDigest) (t : Table) where
    -- its forms are enough, however many the records are
    pub sent-in-form : table_formed p t ≡ true → (mtu : ℕ) → all (op_in_form p) (delta_for excluded ties mtu ds t) ≡ true
    unfolding delta_for table_formed
    sent-in-form h mtu = cut-formed mtu (all_ops (ordered (stale_nodes excluded ds ties t))) (all-formed (ordered (stale_nodes excluded ds ties t)) each)
      where
        each : (s : StaleNode) → s ∈ ordered (stale_nodes excluded ds ties t) → recs_formed p s.node.recs ≡ true
        each s m =
            let x = behind-from excluded ds ties t (ordered-from (stale_nodes excluded ds ties t) m) in
            subst (λ (n : Node). recs_formed p n.recs ≡ true) (sym x.node_is) (all_from (λ (e : Entry). recs_formed p e.node.recs) t h x.entry x.held)

    pub delta-in-form : profile_obeys p t ≡ true → (mtu : ℕ) → all (op_in_form p) (delta_for excluded ties mtu ds t) ≡ true
    delta-in-form h mtu = sent-in-form (table-formed p t h) mtu

    -- so a table of the profile reads it
    pub computed-as : profile_obeys p t ≡ true → obeys t ≡ true → (mtu : ℕ) → mtu ≤ max_delta → read_delta_as p (delta_bytes (delta_for excluded ties mtu ds t)) ≡ Good (delta_for excluded ties mtu ds t)
    computed-as h o mtu m = delta-formed p (delta_bytes (delta_for excluded ties mtu ds t)) (delta_for excluded ties mtu ds t) (delta-in-form h mtu) (read-computed excluded ties ds t o mtu m)
