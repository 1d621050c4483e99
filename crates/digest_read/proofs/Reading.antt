-- What a caller of `read_digest` knows: the entries in the places are those that the definitions read, and the answer says whether the digest
-- is refused. Assumes nothing.
use Prim.Native.Nat.{ℕ, ◌+◌, ◌≤◌}
use mathlib.Core.Path.{◌≡◌, ◌∙◌, ap, refl, sym}
use mathlib.Core.List.{List, [], ◌∷◌}
use native.Mathlib.Omega.{arith}
use lib.ListN.{length, drop}
use Rattle.fields.proofs.Blocks.{length-unblock}
use Rattle.rules.specs.Sizes.{max_nodes}
use Rattle.rules.specs.Digest.{NodeDigest, DigestRead, Entries, Refused, entry_of, entry_width, head_width, read_digest, tell, tell_all}
use Rattle.rules.specs.declared.Refusal.{Refusal}
use Rattle.digest_count.specs.Counting.{count_in}
use Rattle.digest_read.specs.Held.{digest_in, entries_at, entries_in, entries_read, held_of, rest_of}
use Rattle.std.specs.Prelude.{Err, Ok, Result}
use Rattle.digest_read.proofs.Counts.{announced, none, whole}
use Rattle.digest_read.proofs.Gathering.{tell-length}
use Rattle.digest_read.proofs.Places.{backs-places}

tell-all-length : (ds l : List NodeDigest) → length (tell_all ds l) ≤ length ds + length l
unfolding tell_all
tell-all-length [] l = omega arith
tell-all-length (d ∷ ds) l = let h = tell-length d l in let k = tell-all-length ds (tell d l) in omega arith

-- the places hold the entries that were read
pub entries-in : (edition : ℕ) (l : List ℕ) → entries_in (digest_in edition l) ≡ entries_read (read_digest edition l)
unfolding digest_in
entries-in edition l = go (count_in edition l) refl
  where
    -- at most eight entries are had back
    few : (x : DigestRead) → length (entries_read x) ≤ max_nodes → entries_in (held_of (length l) x) ≡ entries_read x
    few (Entries ds rest) h = backs-places max_nodes ds h
    few (Refused r) h = refl

    short : (n : ℕ) → count_in edition l ≡ Ok n → length (entries_read (read_digest edition l)) ≤ max_nodes
    short n e =
        let k = ap (λ (x : DigestRead). length (entries_read x)) (whole edition l n e) in
        let a = (announced edition l n e).few in
        let t = tell-all-length (entries_at n (drop (head_width edition) l)) [] in
        let u = length-unblock entry_width entry_of n (drop (head_width edition) l) in
        omega arith

    go : (c : Result ℕ Refusal) → count_in edition l ≡ c → entries_in (held_of (length l) (read_digest edition l)) ≡ entries_read (read_digest edition l)
    go (Ok n) e = few (read_digest edition l) (short n e)
    go (Err r) e = few (read_digest edition l) (let k = ap (λ (x : DigestRead). length (entries_read x)) (none edition l r e) in omega arith)

-- where the answer tells of nodes, the digest is read
pub read-nodes : (edition : ℕ) (l : List ℕ) (count rest : ℕ) → (digest_in edition l).read ≡ Ok (record { count = count; rest = rest })
    → read_digest edition l ≡ Entries (entries_in (digest_in edition l)) (rest_of (read_digest edition l))
unfolding digest_in
read-nodes edition l count rest e = go (read_digest edition l) e ∙ ap (λ (ds : List NodeDigest). Entries ds (rest_of (read_digest edition l))) (sym (entries-in edition l))
  where
    go : (x : DigestRead) → (held_of (length l) x).read ≡ Ok (record { count = count; rest = rest }) → x ≡ Entries (entries_read x) (rest_of x)
    go (Entries ds r) q = refl
    go (Refused r) q = let z : ◌≡◌ {A = ℕ} 0 1 = cc in absurd (omega arith)

-- where it refuses, the digest is refused, for that reason
pub read-refused : (edition : ℕ) (l : List ℕ) (r : Refusal) → (digest_in edition l).read ≡ Err r → read_digest edition l ≡ Refused r
unfolding digest_in
read-refused edition l r e = go (read_digest edition l) e
  where
    go : (x : DigestRead) → (held_of (length l) x).read ≡ Err r → x ≡ Refused r
    go (Entries ds rest) q = let z : ◌≡◌ {A = ℕ} 0 1 = cc in absurd (omega arith)
    go (Refused s) q = let z : s ≡ r = cc in ap Refused z
