-- The refusals that reading a digest or a delta can come to. Assumes nothing.
use Prim.Native.Nat.{ℕ, zero, suc, ◌+◌, ◌-◌, ◌*◌, ◌/◌, ◌%◌}
use mathlib.Core.Bool.{Bool, true, false}
use mathlib.Core.List.{List, [], ◌∷◌}
use lib.Dec.{leb, ltb, eqb}
use lib.ListN.{length, take, drop}
use Rattle.fields.specs.Choice.{pick}
use Rattle.fields.specs.Numbers.{Bytes, nat_of}
use Rattle.rules.specs.Sizes.{max_delta, max_key, max_nodes, max_value}
use Rattle.rules.specs.Table.{among}
use Rattle.rules.specs.Digest as digest
use Rattle.rules.specs.Delta.{Bad, Fault, Faulty, Followed, Good, Got, KeyValueOp, Next, NodeOp, Op, OpRead, Ops, Reading, SetMaxVersionOp, and_then, field, follow, length_width, nothing_read, number, number_lacks, number_width, byte_width, on_followed, on_read, read_delta, read_key_value, read_node, read_op, read_ops, read_set_max_version, read_tagged, status_or, text, under_node, unless_end}
use Rattle.rules.specs.Profile.{and_form, odd_number, on_read_as, op_in_form, read_delta_as, read_ops_as}
use Rattle.rules.specs.declared.Profile.{Profile}
use Rattle.rules.specs.declared.Profile.TheVariants.{Free, Meter, Shared}
use Rattle.rules.specs.declared.Refusal.{Refusal}
use Rattle.rules.specs.declared.Refusal.TheVariants.{TooLong, Cut, BadTag, OutOfOrder, NodeTwice, TooMany, BadEdition, BadForm, OtherParty}
use Rattle.rules.specs.declared.Status.{Status}

-- ---- a digest: 20, 9, 13

module _ (P : digest.DigestRead → Type 0) (other : P (digest.Refused BadEdition)) (cut : (n : ℕ) → P (digest.Refused (Cut n))) (many : P (digest.Refused TooMany)) (read : (ds : List digest.NodeDigest) (rest : List ℕ) → P (digest.Entries ds rest)) where
  counted-comes : (l : Bytes) → P (digest.gathered (digest.read_counted l))
  counted-comes l = go (leb digest.count_width (length l)) (leb n max_nodes) (leb (n * digest.entry_width) (length rest))
    where
      n : ℕ
      n = nat_of (take digest.count_width l)

      rest : Bytes
      rest = drop digest.count_width l

      go : (a b c : Bool) → P (digest.gathered (pick a (pick b (pick c (digest.first_entries n rest) (digest.Refused (Cut (number_lacks (length rest))))) (digest.Refused TooMany)) (digest.Refused (Cut (digest.count_width - length l)))))
      go false b c = cut _
      go true false c = many
      go true true false = cut _
      go true true true = read _ _

  to-end-comes : (l : Bytes) → P (digest.gathered (digest.read_to_end l))
  to-end-comes l = go (eqb (length l % digest.entry_width) 0) (leb (length l / digest.entry_width) max_nodes)
    where
      go : (a b : Bool) → P (digest.gathered (pick a (pick b (digest.first_entries (length l / digest.entry_width) l) (digest.Refused TooMany)) (digest.Refused (Cut (number_lacks (length l))))))
      go false b = cut _
      go true false = many
      go true true = read _ _

  pub digest-comes : (edition : ℕ) (l : Bytes) → P (digest.read_digest edition l)
  unfolding digest.read_digest digest.read_entries
  digest-comes edition l = go (eqb edition 0) (eqb edition 1)
    where
      go : (a b : Bool) → P (digest.gathered (pick a (digest.read_counted l) (pick b (digest.read_to_end l) (digest.Refused BadEdition))))
      go true b = counted-comes l
      go false true = to-end-comes l
      go false false = other

-- ---- a delta: 13, 9, 1, 10, 11, 12

module _ (F : Refusal → Type 0) (long : F TooLong) (cut : (n : ℕ) → F (Cut n)) (tag : F BadTag) (order : F OutOfOrder) (twice : F NodeTwice) (many : F TooMany) where
  abbrev ReadSo : OpRead → Type 0
  ReadSo (Got o rest) = Unit {0}
  ReadSo (Bad r) = F r

  abbrev FollowedSo : Followed → Type 0
  FollowedSo (Next s) = Unit {0}
  FollowedSo (Fault r) = F r

  abbrev pub OpsSo : Ops → Type 0
  OpsSo (Good ops) = Unit {0}
  OpsSo (Faulty r at) = F r

  field-so : (w : ℕ) (next : List ℕ → List ℕ → OpRead) (l : Bytes) → ((b rest : List ℕ) → ReadSo (next b rest)) → ReadSo (field w next l)
  field-so w next l f = go (leb w (length l))
    where
      go : (a : Bool) → ReadSo (pick a (next (take w l) (drop w l)) (Bad (Cut (w - length l))))
      go true = f _ _
      go false = cut _

  number-so : (w : ℕ) (next : ℕ → List ℕ → OpRead) (l : Bytes) → ((n : ℕ) (rest : List ℕ) → ReadSo (next n rest)) → ReadSo (number w next l)
  number-so w next l f = field-so w (λ b. next (nat_of b)) l (λ b. f (nat_of b))

  text-so : (most : ℕ) (next : List ℕ → List ℕ → OpRead) (l : Bytes) → ((b rest : List ℕ) → ReadSo (next b rest)) → ReadSo (text most next l)
  text-so most next l f = number-so length_width (λ n rest. pick (leb n most) (field n next rest) (Bad TooLong)) l (λ n rest. go n rest (leb n most))
    where
      go : (n : ℕ) (rest : List ℕ) (a : Bool) → ReadSo (pick a (field n next rest) (Bad TooLong))
      go n rest true = field-so n next rest f
      go n rest false = long

  status-so : (next : Status → OpRead) (byte : ℕ) → ((s : Status) → ReadSo (next s)) → ReadSo (status_or next byte)
  status-so next zero f = f _
  status-so next (suc zero) f = f _
  status-so next (suc (suc zero)) f = f _
  status-so next (suc (suc (suc n))) f = tag

  -- what stands behind the fields of a Node and of a record, one after the other
  abbrev behind-gc : (n g f : ℕ) (rest : List ℕ) → OpRead
  behind-gc n g f rest = Got (NodeOp n g f) rest

  abbrev behind-node : (n g : ℕ) (l : List ℕ) → OpRead
  behind-node n g l = number number_width (behind-gc n g) l

  abbrev behind-tag : (n : ℕ) (l : List ℕ) → OpRead
  behind-tag n l = number number_width (behind-node n) l

  abbrev status-of : (k v : List ℕ) (ver : ℕ) (rest : List ℕ) (s : Status) → OpRead
  status-of k v ver rest s = Got (KeyValueOp (record { key = k; value = v; version = ver; status = s })) rest

  abbrev behind-version : (k v : List ℕ) (ver st : ℕ) (rest : List ℕ) → OpRead
  behind-version k v ver st rest = status_or (status-of k v ver rest) st

  abbrev behind-value : (k v : List ℕ) (ver : ℕ) (l : List ℕ) → OpRead
  behind-value k v ver l = number byte_width (behind-version k v ver) l

  abbrev behind-key : (k v l : List ℕ) → OpRead
  behind-key k v l = number number_width (behind-value k v) l

  abbrev behind-start : (k l : List ℕ) → OpRead
  behind-start k l = text max_value (behind-key k) l

  tagged-so : (t : ℕ) (l : Bytes) → ReadSo (read_tagged t l)
  unfolding read_node read_key_value read_set_max_version
  tagged-so zero l =
      number-so number_width behind-tag l
      (λ n rest. number-so number_width (behind-node n) rest (λ g rest. number-so number_width (behind-gc n g) rest (λ f rest. tt)))
  tagged-so (suc zero) l =
      text-so max_key behind-start l
      (λ k rest.
      text-so max_value (behind-key k) rest
      (λ v rest.
      number-so number_width (behind-value k v) rest
      (λ ver rest. number-so byte_width (behind-version k v ver) rest (λ st rest. status-so (status-of k v ver rest) st (λ s. tt)))))
  tagged-so (suc (suc zero)) l = number-so number_width (λ m rest. Got (SetMaxVersionOp m) rest) l (λ m rest. tt)
  tagged-so (suc (suc (suc n))) l = tag

  read-so : (l : Bytes) → ReadSo (read_op l)
  unfolding read_op
  read-so l = number-so byte_width read_tagged l tagged-so

  under-so : (seen : List ℕ) (f : Followed) → FollowedSo f → FollowedSo (under_node seen f)
  under-so [] f h = order
  under-so (n ∷ ns) f h = h

  next-or : (s : Reading) (r : Refusal) (b : Bool) → F r → FollowedSo (pick b (Next s) (Fault r))
  next-or s r true h = tt
  next-or s r false h = h

  follow-so : (s : Reading) (o : Op) → FollowedSo (follow s o)
  unfolding follow
  follow-so s (NodeOp n g f) = go (among n s.seen)
    where
      go : (a : Bool) → FollowedSo (pick a (Fault NodeTwice) (pick (ltb (length s.seen) max_nodes) (Next (record { seen = n ∷ s.seen; running = 0 })) (Fault TooMany)))
      go true = twice
      go false = next-or _ TooMany (ltb (length s.seen) max_nodes) many
  follow-so s (KeyValueOp r) = under-so s.seen _ (next-or _ OutOfOrder (ltb s.running r.version) order)
  follow-so s (SetMaxVersionOp m) = under-so s.seen _ (next-or _ OutOfOrder (leb s.running m) order)

  then-so : (o : Op) (x : Ops) → OpsSo x → OpsSo (and_then o x)
  then-so o (Good ops) h = tt
  then-so o (Faulty r at) h = h

  followed-so : (at : ℕ) (o : Op) (next : Reading → Ops) (f : Followed) → FollowedSo f → ((s : Reading) → OpsSo (next s)) → OpsSo (on_followed at o next f)
  followed-so at o next (Next s) h n = then-so o (next s) (n s)
  followed-so at o next (Fault r) h n = h

  on-read-so : (at : ℕ) (s : Reading) (next : Reading → List ℕ → Ops) (x : OpRead) → ReadSo x → ((s : Reading) (rest : List ℕ) → OpsSo (next s rest)) → OpsSo (on_read at s next x)
  on-read-so at s next (Got o rest) h n = followed-so at o (λ s'. next s' rest) (follow s o) (follow-so s o) (λ s'. n s' rest)
  on-read-so at s next (Bad r) h n = h

  end-so : (l : Bytes) (x : Ops) → OpsSo x → OpsSo (unless_end l x)
  end-so [] x h = tt
  end-so (b ∷ l) x h = h

  ops-so : (n at : ℕ) (s : Reading) (l : Bytes) → OpsSo (read_ops n at s l)
  unfolding read_ops
  ops-so zero at s l = tt
  ops-so (suc n) at s l =
      end-so l _
      (on-read-so at s (λ s' rest. read_ops n (at + (length l - length rest)) s' rest) (read_op l) (read-so l) (λ s' rest. ops-so n (at + (length l - length rest)) s' rest))

  pub delta-comes : (l : Bytes) → OpsSo (read_delta l)
  unfolding read_delta
  delta-comes l = go (leb (length l) max_delta)
    where
      go : (a : Bool) → OpsSo (pick a (read_ops (length l) 0 nothing_read l) (Faulty TooMany 0))
      go true = ops-so (length l) 0 nothing_read l
      go false = many

  -- in a profile 17 or 19 too
  module _ (p : Profile) (form : F BadForm) (other : F OtherParty) where
    odd-so : (p : Profile) → F (odd_number p)
    odd-so Free = form
    odd-so Meter = form
    odd-so Shared = other

    form-so : (b : Bool) (f : Followed) → FollowedSo f → FollowedSo (and_form p b f)
    form-so b (Fault r) h = h
    form-so true (Next s) h = tt
    form-so false (Next s) h = odd-so p

    on-read-as : (at : ℕ) (s : Reading) (next : Reading → List ℕ → Ops) (x : OpRead) → ReadSo x → ((s : Reading) (rest : List ℕ) → OpsSo (next s rest)) → OpsSo (on_read_as p at s next x)
    on-read-as at s next (Got o rest) h n = followed-so at o (λ s'. next s' rest) (and_form p (op_in_form p o) (follow s o)) (form-so (op_in_form p o) (follow s o) (follow-so s o)) (λ s'. n s' rest)
    on-read-as at s next (Bad r) h n = h

    ops-as : (n at : ℕ) (s : Reading) (l : Bytes) → OpsSo (read_ops_as p n at s l)
    unfolding read_ops_as
    ops-as zero at s l = tt
    ops-as (suc n) at s l =
        end-so l _
        (on-read-as at s (λ s' rest. read_ops_as p n (at + (length l - length rest)) s' rest) (read_op l) (read-so l) (λ s' rest. ops-as n (at + (length l - length rest)) s' rest))

    pub delta-as : (l : Bytes) → OpsSo (read_delta_as p l)
    unfolding read_delta_as
    delta-as l = go (leb (length l) max_delta)
      where
        go : (a : Bool) → OpsSo (pick a (read_ops_as p (length l) 0 nothing_read l) (Faulty TooMany 0))
        go true = ops-as (length l) 0 nothing_read l
        go false = many
