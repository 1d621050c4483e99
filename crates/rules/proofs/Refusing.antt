-- A refused call changes nothing: not the table, not a datagram, not a list; and neither do the bytes of the lent table. Assumes nothing.
use Prim.Native.Nat.{◌+◌, ℕ}
use mathlib.Core.Bool.{Bool, ◌&&◌, false, true}
use mathlib.Core.List.{List, [], ◌∷◌}
use mathlib.Core.Option.{Option, none, some}
use mathlib.Core.Path.{◌∙◌, ◌≡◌, ap, refl}
use native.Mathlib.Omega.{arith}
use lib.Dec.{eqb, leb, ltb}
use lib.ListN.{length}
use Rattle.fields.proofs.Choice.{and_right}
use Rattle.fields.proofs.Ordered.{same_true}
use Rattle.fields.specs.Choice.{pick}
use Rattle.fields.specs.Order.{same_bytes}
use Rattle.fields.specs.Parts.{put}
use Rattle.rules.proofs.Writing.{call-as, write_as_lem, write-is}
use Rattle.rules.specs.Given.{Given, given}
use Rattle.rules.specs.Apply.{ApplyOutcome, apply, apply_each, apply_node, apply_ops, codes, Ways}
use Rattle.rules.specs.Compute.{compute, compute_for, on_digest}
use Rattle.rules.specs.Delta.{Faulty, Good, Ops, Part, parts_of}
use Rattle.rules.specs.Digest.{DigestRead, Entries, Refused, digest_bytes, digest_of, fits_at, is_edition, read_digest, write_bytes, write_digest}
use Rattle.rules.specs.Whole.{decode_whole, encode_whole, obeys_whole, valid_whole, with_table}
use Rattle.rules.specs.Lent.{TableAndList, both, on_table, stored_in, stored_apply, lent_apply_as}
use Rattle.rules.specs.Local.{Outcome, add, answer_of, beat_on, call, call_as, call_on, gives, list_into, local_beat, offer, offer_on, prefix_on, prefixed, remove_node, write, write_as, yes_no}
use Rattle.rules.specs.Node.{Call, Decision, Give, Leave, Node, Refuse, Setting, SettingTtl, act, beats, decide, hits_from, offer_of, with_heartbeat}
use Rattle.rules.specs.Sizes.{least_mtu, max_delta, max_key, max_nodes, top}
use Rattle.rules.specs.Table.{Table, add_node, among, drop_node, node_of, numbers_of, set_node}
use Rattle.std.specs.Prelude.{Err, Ok, Result}
use Rattle.rules.specs.declared.DeltaFault.{DeltaFault}
use Rattle.rules.specs.declared.Sent.{Sent}
use Rattle.rules.specs.Results.{done}
use Rattle.rules.specs.declared.Heartbeat.{Heartbeat}
use Rattle.rules.specs.declared.Party.{Party}
use Rattle.rules.specs.declared.Profile.{Profile}
use Rattle.rules.specs.declared.Refusal.{Refusal}
use Rattle.rules.specs.declared.Refusal.TheVariants.{BadEdition, BadMtu, BadTable, BadTies, Exhausted, NinthNode, NoNode, NoPlace, TooLong}

-- ---- the table

-- a node that becomes what it is
pub set_same : (i : ℕ) (n : Node) (t : Table) → node_of i t ≡ some n → set_node i n t ≡ t
unfolding node_of set_node
set_same i n [] e = refl
set_same i n (a ∷ t) e = go (eqb i a.number) e (set_same i n t)
  where
    go : (b : Bool) → pick b (some a.node) (node_of i t) ≡ some n → (node_of i t ≡ some n → set_node i n t ≡ t) → pick b (record { number = a.number; node = n } ∷ t) (a ∷ set_node i n t) ≡ a ∷ t
    go true e ih = let q : n ≡ a.node = cc in λ j. record { number = a.number; node = q j } ∷ t
    go false e ih = ap (λ (l : Table). a ∷ l) (ih e)

done-not : {A : Type 0} (r : Refusal) → done ≡ Err r → A
done-not r e = let z : ◌≡◌ {A = ℕ} 0 1 = cc in absurd (omega arith)

pub add-refused : (i : ℕ) (t : Table) (r : Refusal) → (add i t).answer ≡ Err r → (add i t).table ≡ t
unfolding add
add-refused i t r = go (among i (numbers_of t)) (ltb (length t) max_nodes)
  where
    out : Bool → Bool → Outcome (Result (Unit {0}) Refusal)
    out a b = pick a (gives done t) (pick b (gives done (add_node i t)) (gives (Err NinthNode) t))

    go : (a b : Bool) → (out a b).answer ≡ Err r → (out a b).table ≡ t
    go true b e = refl
    go false true e = done-not r e
    go false false e = refl

pub remove-node-refused : (i : ℕ) (t : Table) (r : Refusal) → (remove_node i t).answer ≡ Err r → (remove_node i t).table ≡ t
unfolding remove_node
remove-node-refused i t r = go (among i (numbers_of t))
  where
    out : Bool → Outcome (Result (Unit {0}) Refusal)
    out a = pick a (gives done (drop_node i t)) (gives (Err NoNode) t)

    go : (a : Bool) → (out a).answer ≡ Err r → (out a).table ≡ t
    go true e = done-not r e
    go false e = refl

pub call-refused : (c : Call) (i : ℕ) (k : List ℕ) (t : Table) (r : Refusal) → (call c i k t).answer ≡ Err r → (call c i k t).table ≡ t
unfolding call act
call-refused c i k t r = go (node_of i t) refl
  where
    at : (n : Node) → node_of i t ≡ some n → (d : Decision) → answer_of d ≡ Err r → set_node i (act k d n) t ≡ t
    at n q (Refuse x) e = set_same i n t q
    at n q Leave e = set_same i n t q
    at n q (Give x) e = done-not r e

    go : (o : Option Node) → node_of i t ≡ o → (call_on c i k o t).answer ≡ Err r → (call_on c i k o t).table ≡ t
    go none q e = refl
    go (some n) q e = at n q (decide c k n) e

pub write-refused : (wanted : ℕ) (v : List ℕ) (now i : ℕ) (k : List ℕ) (t : Table) (r : Refusal) → (write wanted v now i k t).answer ≡ Err r → (write wanted v now i k t).table ≡ t
write-refused wanted v now i k t r =
    write-is wanted v now i k t (λ o. o.answer ≡ Err r → o.table ≡ t) (call-refused (Setting v) i k t r) (call-refused (SettingTtl v now) i k t r) (λ e. refl)

-- and in a profile
pub call-as-refused : (p : Profile) (q : Party) (c : Call) (i : ℕ) (k : List ℕ) (t : Table) (r : Refusal) → (call_as p q c i k t).answer ≡ Err r → (call_as p q c i k t).table ≡ t
call-as-refused p q c i k t r = call-as p q c i k t (λ o. o.answer ≡ Err r → o.table ≡ t) (call-refused c i k t r) (λ x y e. refl)

pub write-as-refused : (p : Profile) (q : Party) (wanted : ℕ) (v : List ℕ) (now i : ℕ) (k : List ℕ) (t : Table) (r : Refusal) → (write_as p q wanted v now i k t).answer ≡ Err r → (write_as p q wanted v now i k t).table ≡ t
write-as-refused p q wanted v now i k t r =
    write_as_lem p q wanted v now i k t (λ o. o.answer ≡ Err r → o.table ≡ t) (call-as-refused p q (Setting v) i k t r) (call-as-refused p q (SettingTtl v now) i k t r) (λ e. refl)

pub beat-refused : (i : ℕ) (t : Table) (r : Refusal) → (local_beat i t).answer ≡ Err r → (local_beat i t).table ≡ t
unfolding local_beat
beat-refused i t r = go (node_of i t)
  where
    rise : Node → Bool → Outcome (Result (Unit {0}) Refusal)
    rise n b = pick b (gives done (set_node i (with_heartbeat (beats (n.heartbeat.0 + 1)) n) t)) (gives (Err Exhausted) t)

    at : (n : Node) (b : Bool) → (rise n b).answer ≡ Err r → (rise n b).table ≡ t
    at n true e = done-not r e
    at n false e = refl

    go : (o : Option Node) → (beat_on i o t).answer ≡ Err r → (beat_on i o t).table ≡ t
    go none e = refl
    go (some n) e = at n (ltb n.heartbeat.0 top) e

pub offer-refused : (i : ℕ) (h : Heartbeat) (t : Table) (r : Refusal) → (offer i h t).answer ≡ Err r → (offer i h t).table ≡ t
unfolding offer
offer-refused i h t r = go (node_of i t)
  where
    not : {A : Type 0} (b : Bool) → yes_no b ≡ Err r → A
    not true e = let z : ◌≡◌ {A = ℕ} 0 1 = cc in absurd (omega arith)
    not false e = let z : ◌≡◌ {A = ℕ} 0 1 = cc in absurd (omega arith)

    go : (o : Option Node) → (offer_on i h o t).answer ≡ Err r → (offer_on i h o t).table ≡ t
    go none e = refl
    go (some n) e = not (offer_of n.heartbeat h).news e

-- ---- lists and datagrams

pub prefixed-refused : (i : ℕ) (k : List ℕ) (t : Table) (l : List ℕ) (r : Refusal) → (prefixed i k t l).answer ≡ Err r → (prefixed i k t l).lent ≡ l
unfolding prefixed
prefixed-refused i k t l r = go (node_of i t)
  where
    into : List ℕ → Bool → Given (Result ℕ Refusal) (List ℕ)
    into found b = pick b (given (Ok (length found)) (put 0 found l)) (given (Err NoPlace) l)

    at : (found : List ℕ) (b : Bool) → (into found b).answer ≡ Err r → (into found b).lent ≡ l
    at found true e = let z : ◌≡◌ {A = ℕ} 0 1 = cc in absurd (omega arith)
    at found false e = refl

    key : (n : Node) (b : Bool) → (pick b (list_into (hits_from k 0 n.recs) l) (given (Err TooLong) l)).answer ≡ Err r → (pick b (list_into (hits_from k 0 n.recs) l) (given (Err TooLong) l)).lent ≡ l
    key n true e = at (hits_from k 0 n.recs) (leb (length (hits_from k 0 n.recs)) (length l)) e
    key n false e = refl

    go : (o : Option Node) → (prefix_on k o l).answer ≡ Err r → (prefix_on k o l).lent ≡ l
    go none e = refl
    go (some n) e = key n (leb (length k) max_key) e

pub digest-refused : (edition : ℕ) (excluded : List ℕ) (place : ℕ) (t : Table) (l : List ℕ) (r : Refusal) → (write_digest edition excluded place t l).answer ≡ Err r → (write_digest edition excluded place t l).lent ≡ l
unfolding write_digest
digest-refused edition excluded place t l r = known (is_edition edition)
  where
    bytes : List ℕ
    bytes = digest_bytes edition (digest_of excluded t)

    out : List ℕ → Bool → Given (Result ℕ Refusal) (List ℕ)
    out b c = pick c (given (Ok (length b)) (put place b l)) (given (Err NoPlace) l)

    go : (b : List ℕ) (c : Bool) → (out b c).answer ≡ Err r → (out b c).lent ≡ l
    go b true e = let z : ◌≡◌ {A = ℕ} 0 1 = cc in absurd (omega arith)
    go b false e = refl

    whole : Bool → Given (Result ℕ Refusal) (List ℕ)
    whole x = pick x (write_bytes bytes place l) (given (Err BadEdition) l)

    known : (x : Bool) → (whole x).answer ≡ Err r → (whole x).lent ≡ l
    known true e = go bytes (fits_at place (length bytes) l) e
    known false e = refl

pub compute-refused : (edition : ℕ) (excluded ties : List ℕ) (mtu place : ℕ) (digest : List ℕ) (t : Table) (l : List ℕ) (r : Refusal) → (compute edition excluded ties mtu place digest t l).answer ≡ Err r → (compute edition excluded ties mtu place digest t l).lent ≡ l
unfolding compute
compute-refused edition excluded ties mtu place digest t l r = known (is_edition edition)
  where
    out : Bool → Bool → Bool → DigestRead → Given (Result Sent Refusal) (List ℕ)
    out a b c d =
        pick a (pick b (pick c (on_digest excluded ties mtu place d t l) (given (Err BadTies) l)) (given (Err NoPlace) l))
        (given (Err BadMtu) l)

    go : (a b c : Bool) (d : DigestRead) → (out a b c d).answer ≡ Err r → (out a b c d).lent ≡ l
    go false b c d e = refl
    go true false c d e = refl
    go true true false d e = refl
    go true true true (Entries ds rest) e = let z : ◌≡◌ {A = ℕ} 0 1 = cc in absurd (omega arith)
    go true true true (Refused x) e = refl

    whole : Bool → Given (Result Sent Refusal) (List ℕ)
    whole x = pick x (compute_for excluded ties mtu place (read_digest edition digest) t l) (given (Err BadEdition) l)

    known : (x : Bool) → (whole x).answer ≡ Err r → (whole x).lent ≡ l
    known true e = go (leb least_mtu mtu && leb mtu max_delta) (fits_at place mtu l) (eqb (length ties) (length t)) (read_digest edition digest) e
    known false e = refl

pub apply-refused : (ways : Ways) (bytes : List ℕ) (now : ℕ) (t : Table) (l : List ℕ) (r : Refusal) (at : ℕ) → (apply ways bytes now t l).answer ≡ (Err (record { why = r; at = at })) → ((apply ways bytes now t l).table ≡ t) × ((apply ways bytes now t l).list ≡ l)
unfolding apply
apply-refused ways bytes now t l r at = go (ways.reads bytes)
  where
    out : List Part → Bool → ApplyOutcome
    out xs b =
        pick b (record { answer = Ok (length xs); table = (apply_each (apply_node ways now) xs t).table; list = put 0 (codes (apply_each (apply_node ways now) xs t).answers) l })
        (record { answer = (Err (record { why = NoPlace; at = 0 })); table = t; list = l })

    room : (xs : List Part) (b : Bool) → (out xs b).answer ≡ (Err (record { why = r; at = at })) → ((out xs b).table ≡ t) × ((out xs b).list ≡ l)
    room xs true e = let z : ◌≡◌ {A = ℕ} 0 1 = cc in absurd (omega arith)
    room xs false e = (refl, refl)

    go : (o : Ops) → (apply_ops (apply_node ways now) o t l).answer ≡ (Err (record { why = r; at = at })) → ((apply_ops (apply_node ways now) o t l).table ≡ t) × ((apply_ops (apply_node ways now) o t l).list ≡ l)
    go (Good ops) e = room (parts_of ops) (leb (length (parts_of ops)) (length l)) e
    go (Faulty x p) e = (refl, refl)

-- ---- the bytes of the lent table

-- valid bytes are those of the table that is read in them
pub whole-bytes : (l : List ℕ) → valid_whole l ≡ true → encode_whole (decode_whole l) ≡ l
unfolding valid_whole
whole-bytes l e = same_true _ _ (and_right (obeys_whole (decode_whole l)) (same_bytes (encode_whole (decode_whole l)) l) e)

-- and stay those of a table that becomes what it is
same_whole : (l : List ℕ) → valid_whole l ≡ true → (t : Table) → t ≡ (decode_whole l).table → encode_whole (with_table t (decode_whole l)) ≡ l
same_whole l v t e = ap (λ (u : Table). encode_whole (with_table u (decode_whole l))) e ∙ whole-bytes l v

-- A call whose refusals leave the table leaves the bytes: `refuses` tells a refusal's answers. This serves every call that changes the table.
pub lent-refused : {A : Type 0} (bad : A) (rule : Table → Outcome A) (refuses : A → Type 0)
    → ((t : Table) → refuses (rule t).answer → (rule t).table ≡ t)
    → (l : List ℕ)
    → refuses (on_table bad rule l).answer
    → (on_table bad rule l).lent ≡ l
unfolding on_table
lent-refused {A} bad rule refuses f l = go (valid_whole l) refl
  where
    out : Bool → Given A (List ℕ)
    out b = pick b (stored_in (decode_whole l) (rule (decode_whole l).table)) (given bad l)

    go : (b : Bool) → valid_whole l ≡ b → refuses (out b).answer → (out b).lent ≡ l
    go true q e = same_whole l q (rule (decode_whole l).table).table (f (decode_whole l).table e)
    go false q e = refl

pub lent-apply-refused : (ways : Ways) (delta : List ℕ) (now : ℕ) (list l : List ℕ) (r : Refusal) (at : ℕ) → (lent_apply_as ways delta now list l).answer ≡ (Err (record { why = r; at = at })) → ((lent_apply_as ways delta now list l).lent.table ≡ l) × ((lent_apply_as ways delta now list l).lent.list ≡ list)
unfolding lent_apply_as
lent-apply-refused ways delta now list l r at = go (valid_whole l) refl
  where
    t : Table
    t = (decode_whole l).table

    out : Bool → Given (Result ℕ DeltaFault) TableAndList
    out b = pick b (stored_apply (decode_whole l) (apply ways delta now t list)) (given (Err (record { why = BadTable; at = 0 })) (both l list))

    go : (b : Bool) → valid_whole l ≡ b → (out b).answer ≡ (Err (record { why = r; at = at })) → ((out b).lent.table ≡ l) × ((out b).lent.list ≡ list)
    go true q e = let x = apply-refused ways delta now t list r at e in (same_whole l q (apply ways delta now t list).table x.0, x.1)
    go false q e = (refl, refl)
