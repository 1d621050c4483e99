-- Evidence, and no part of a promise: the count of the star, met by a run. Whether an exchange counts can be computed; in the run of Runs three of them do, and hub 0 holds two records and a node
-- of its own. Assumes nothing.
use Prim.Native.Nat.{ℕ}
use mathlib.Core.Bool.{Bool, ◌&&◌, false, false≢true, not, true}
use mathlib.Core.List.{List, [], ◌++◌, ◌∷◌}
use mathlib.Core.Option.{Option, none, some}
use mathlib.Core.Path.{◌∙◌, ◌≡◌, ap, refl, subst, sym}
use native.Mathlib.Omega.{arith}
use lib.Dec.{ltb}
use lib.ListN.{replicate}
use borrow.Author.Tests.{eq-eqb, eqb-true}
use Rattle.fields.proofs.Choice.{all_from, and_left, and_right}
use Rattle.fields.specs.Blocks.{flat, unblock}
use Rattle.fields.specs.Choice.{◌∈◌, all, keep, pick}
use Rattle.fields.specs.Numbers.{bytes_of, nat_of}
use Rattle.fields.specs.Order.{less_bytes, same_bytes}
use Rattle.fields.specs.Parts.{part, put}
use Rattle.rules.proofs.Calls.{node_in}
use Rattle.rules.proofs.Keeps.{guarded-lawful}
use Rattle.rules.specs.Apply.{apply, apply_each, apply_node, codes, delta_status, newer_of, outcome, status_of, take_all, takes}
use Rattle.rules.specs.Compute.{all_ops, by_version, compute, cut, delta_for, from_of, key_value_ops, ordered, queue, sooner, stale, stale_nodes, told_of}
use Rattle.rules.specs.Delta.{delta_bytes, follow, max_of, op_bytes, parts_of, read_delta, read_key_value, read_node, read_op, read_ops, read_set_max_version, recs_of, size_of, text_bytes}
use Rattle.rules.specs.Digest.{digest_bytes, digest_of, entry_bytes, entry_of, head_width, read_digest, read_entries, tell, tell_all}
use Rattle.rules.specs.Local.{add, call, call_as, gc}
use Rattle.rules.specs.Node.{Node, act, decide, find, last_gc_of, remove, store, wish, write}
use Rattle.rules.specs.Sizes.{numbers}
use Rattle.rules.specs.Table.{Entry, add_node, among, node_of, numbers_of, remove_all, set_node, versions}
use Rattle.demand3.specs.Demand3.{holdings, no_room, wrote_delta}
use Rattle.demand3.specs.Forms.{InLine, compute_by}
use Rattle.demand3.specs.World.{cut_by, nth_sent}
use Rattle.net.proofs.Moments.{Moment, moment-begin, moments}
use Rattle.net.specs.Net.{Event, Net, Plan, Ready, after, begin, happen}
use Rattle.net_closing.specs.Closing.{Asked, Closed, every}
use Rattle.net_star.proofs.AtOnce.{at-once, at_once}
use Rattle.net_star.proofs.Runs.{plan, relaying}
use Rattle.net_star.proofs.Star.{star-closes}
use Rattle.net_star.specs.Star.{Exchanges, Follows, in_star, no_more, once_more, ops_of, own_part, owns, quiet_at, wide}

-- ---- whether an exchange at once counts

abbrev there : Option Node → Bool
there none = false
there (some n) = true

-- a node of o's is not excluded, and the follower has it; another is excluded
abbrev right : (owner : ℕ → ℕ) (o x : ℕ) (excluded : List ℕ) (w : Net) (e : Entry) → Bool
right owner o x excluded w e = pick (owns owner o e) (not (among e.number excluded) && there (node_of e.number (w.hubs x))) (among e.number excluded)

abbrev pub counts : (plan : Plan) (o x : ℕ) (q : Asked) (excluded : List ℕ) (w : Net) → Bool
counts plan o x q excluded w =
    wide q.order q.mtu
    && (wrote_delta (compute_by q.edition excluded q.order q.mtu q.place (digest_bytes q.edition (digest_of [] (w.hubs x))) (w.hubs o) q.datagram).answer
    && (ltb q.now numbers
    && (no_room (apply (plan.ways x) (delta_bytes (ops_of q excluded o x w w)) q.now (w.hubs x) q.answers).answer (apply (plan.ways x) (delta_bytes (ops_of q excluded o x w w)) q.now (w.hubs x) q.answers).list
    && all (right plan.owner o x excluded w) (w.hubs o))))

module _ (plan : Plan) (w : Net) (ok : Moment plan.owner w) (o x : ℕ) (q : Asked) (excluded : List ℕ) (c : counts plan o x q excluded w ≡ true) where
  abbrev c1 : Bool
  c1 = wide q.order q.mtu

  abbrev c2 : Bool
  c2 = wrote_delta (compute_by q.edition excluded q.order q.mtu q.place (digest_bytes q.edition (digest_of [] (w.hubs x))) (w.hubs o) q.datagram).answer

  abbrev c3 : Bool
  c3 = ltb q.now numbers

  abbrev c4 : Bool
  c4 = no_room (apply (plan.ways x) (delta_bytes (ops_of q excluded o x w w)) q.now (w.hubs x) q.answers).answer (apply (plan.ways x) (delta_bytes (ops_of q excluded o x w w)) q.now (w.hubs x) q.answers).list

  each : (e : Entry) → e ∈ w.hubs o → right plan.owner o x excluded w e ≡ true
  each = all_from (right plan.owner o x excluded w) (w.hubs o) (and_right c4 _ (and_right c3 _ (and_right c2 _ (and_right c1 _ c))))

  -- of a node of o's
  mine : (e : Entry) → e ∈ w.hubs o → plan.owner e.number ≡ o → (not (among e.number excluded) && there (node_of e.number (w.hubs x))) ≡ true
  mine e m own =
      subst (λ (b : Bool). pick b (not (among e.number excluded) && there (node_of e.number (w.hubs x))) (among e.number excluded) ≡ true) (eq-eqb (plan.owner e.number) o own) (each e m)

  turned : (b : Bool) → not b ≡ true → b ≡ false
  turned true z = absurd (false≢true z)
  turned false z = refl

  held : (a : Option Node) → there a ≡ true → (n : Node) × (a ≡ some n)
  held none z = absurd (false≢true z)
  held (some n) z = (n, refl)

  follows : Follows plan.owner o (w.hubs o) (w.hubs x)
  follows i p own h some-version =
      let e = node_in i (w.hubs o) h in
      let z = and_right (not (among e.0.number excluded)) _ (mine e.0 e.1 (ap plan.owner (sym e.3) ∙ own)) in
      held (node_of i (w.hubs x)) (subst (λ (j : ℕ). there (node_of j (w.hubs x)) ≡ true) (sym e.3) z)

  stay : (e : Entry) → e ∈ w.hubs o → among e.number excluded ≡ false → plan.owner e.number ≡ o
  stay e m free = go (owns plan.owner o e) refl
    where
      go : (b : Bool) → owns plan.owner o e ≡ b → plan.owner e.number ≡ o
      go true z = eqb-true _ _ z
      go false z =
          absurd (false≢true (sym free ∙ subst (λ (b : Bool). pick b (not (among e.number excluded) && there (node_of e.number (w.hubs x))) (among e.number excluded) ≡ true) z (each e m)))

  pub counts-so : Exchanges plan o x (at_once q excluded o x w) w
  counts-so =
      at-once plan w ok o x q excluded (and_left c2 _ (and_right c1 _ c)) (and_left c1 _ c)
      (λ e m own. turned (among e.number excluded) (and_left (not (among e.number excluded)) _ (mine e m own))) stay follows
      (and_left c3 _ (and_right c2 _ (and_right c1 _ c))) (and_left c4 _ (and_right c3 _ (and_right c2 _ (and_right c1 _ c))))

-- ---- a run that meets the count

abbrev asked : Asked
asked = record { edition = 0; order = InLine (0 ∷ 0 ∷ []); mtu = 135; place = 0; datagram = replicate 300 0; now = 50; answers = 0 ∷ 0 ∷ [] }

abbrev hears_it : Net → List Event
hears_it w = at_once asked (3 ∷ []) 0 1 w

abbrev first : Net
first = after plan relaying begin

abbrev second : Net
second = after plan (hears_it first) first

abbrev third : Net
third = after plan (hears_it second) second

abbrev three : List Event
three = hears_it first ++ (hears_it second ++ (hears_it third ++ []))

all-count : (counts plan 0 1 asked (3 ∷ []) first ≡ true) × (counts plan 0 1 asked (3 ∷ []) second ≡ true) × (counts plan 0 1 asked (3 ∷ []) third ≡ true)
unfolding after happen nth_sent cut_by add add_node numbers_of call_as call gc node_of set_node remove_all decide wish find act write store remove last_gc_of keep all same_bytes less_bytes among digest_of digest_bytes head_width entry_bytes entry_of read_entries read_digest tell tell_all compute delta_for cut all_ops ordered queue sooner stale_nodes told_of from_of stale by_version key_value_ops size_of delta_bytes op_bytes text_bytes bytes_of nat_of part put flat unblock apply apply_each apply_node delta_status status_of newer_of outcome take_all takes codes read_delta read_ops read_op read_node read_key_value read_set_max_version follow parts_of recs_of max_of versions
all-count = (refl, refl, refl)

in-star : (in_star plan 0 (relaying ++ three) begin ≡ true) × (every (quiet_at plan.owner 0) three ≡ true) × (holdings (own_part plan.owner 0 (first.hubs 0)) ≡ 3)
unfolding after happen nth_sent cut_by add add_node numbers_of call_as call gc node_of set_node remove_all decide wish find act write store remove last_gc_of keep all same_bytes less_bytes among digest_of digest_bytes head_width entry_bytes entry_of read_entries read_digest tell tell_all compute delta_for cut all_ops ordered queue sooner stale_nodes told_of from_of stale by_version key_value_ops size_of delta_bytes op_bytes text_bytes bytes_of nat_of part put flat unblock apply apply_each apply_node delta_status status_of newer_of outcome take_all takes codes read_delta read_ops read_op read_node read_key_value read_set_max_version follow parts_of recs_of max_of versions in_star every holdings
in-star = (refl, refl, refl)

ready : Ready plan
ready = record { lawful = λ x. guarded-lawful; late = λ x. refl }

-- so the theorem applies: node 7 is at hub 0's max at hub 1
pub met : Closed plan 7 1 (after plan (relaying ++ three) begin)
met =
    let m₁ = moments plan ready relaying begin (moment-begin plan.owner) in
    let m₂ = moments plan ready (hears_it first) first m₁ in
    let m₃ = moments plan ready (hears_it second) second m₂ in
    star-closes plan ready 0 relaying three in-star.0 in-star.1 1 3 (let a = in-star.2 in omega arith)
    (once_more 2 (hears_it first) _ first (counts-so plan first m₁ 0 1 asked (3 ∷ []) all-count.0)
    (once_more 1 (hears_it second) _ second (counts-so plan second m₂ 0 1 asked (3 ∷ []) all-count.1)
    (once_more 0 (hears_it third) _ third (counts-so plan third m₃ 0 1 asked (3 ∷ []) all-count.2) (no_more [] _))))
    7 refl
