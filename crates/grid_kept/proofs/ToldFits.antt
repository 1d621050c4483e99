-- What a digest of bytes tells are numbers of eight bytes. Assumes nothing.
use Prim.Native.Nat.{ℕ, ◌<◌}
use mathlib.Core.Bool.{Bool, true, false}
use mathlib.Core.List.{List, [], ◌∷◌}
use mathlib.Core.Path.{◌≡◌, refl, subst}
use native.Mathlib.Omega.{arith}
use lib.Dec.{eqb, ltb}
use Rattle.fields.specs.Choice.{pick}
use Rattle.fields.specs.Numbers.{AreBytes, Bytes}
use Rattle.rules.specs.Compute.{told_of}
use Rattle.rules.specs.Digest.{DigestRead, Entries, NodeDigest, Refused, gathered, read_digest, read_entries, tell, tell_all}
use Rattle.rules.specs.Sizes.{numbers}
use Rattle.rules.proofs.Digests.{AllEntries, SmallEntry, entries-are}

tell-small : (d : NodeDigest) (l : List NodeDigest) → SmallEntry d → AllEntries l → AllEntries (tell d l)
unfolding tell AllEntries
tell-small d [] s a = (s, tt)
tell-small d (x ∷ l) s a = go (eqb d.number x.number) (ltb d.number x.number) (tell-small d l s a.1)
  where
    go : (b c : Bool) → AllEntries (tell d l) → AllEntries (pick b (d ∷ l) (pick c (d ∷ x ∷ l) (x ∷ tell d l)))
    go true c ih = (s, a.1)
    go false true ih = (s, a)
    go false false ih = (a.0, ih)

tell-all-small : (ds l : List NodeDigest) → AllEntries ds → AllEntries l → AllEntries (tell_all ds l)
unfolding tell_all AllEntries
tell-all-small [] l a b = b
tell-all-small (d ∷ ds) l a b = tell-all-small ds (tell d l) a.1 (tell-small d l a.0 b)

told-small : (i : ℕ) (ds : List NodeDigest) → AllEntries ds → ((told_of i ds).last_gc < numbers) × ((told_of i ds).max < numbers)
unfolding told_of AllEntries
told-small i [] a = (omega arith, omega arith)
told-small i (d ∷ ds) a = go (eqb i d.number) (told-small i ds a.1)
  where
    go : (b : Bool) → ((told_of i ds).last_gc < numbers) × ((told_of i ds).max < numbers)
        → ((pick b d (told_of i ds)).last_gc < numbers) × ((pick b d (told_of i ds)).max < numbers)
    go true ih = (a.0.gc_fits, a.0.max-fits)
    go false ih = ih

pub digest-small : (edition : ℕ) (digest : Bytes) → AreBytes digest → (ds : List NodeDigest) (rest : Bytes) → read_digest edition digest ≡ Entries ds rest
    → (i : ℕ) → ((told_of i ds).last_gc < numbers) × ((told_of i ds).max < numbers)
unfolding read_digest AllEntries
digest-small edition digest h ds rest e i = told-small i ds (go (read_entries edition digest) refl e)
  where
    go : (r : DigestRead) → read_entries edition digest ≡ r → gathered r ≡ Entries ds rest → AllEntries ds
    go (Entries es more) q e = let same : tell_all es [] ≡ ds = cc in subst AllEntries same (tell-all-small es [] (entries-are edition digest es more h q).small tt)
    go (Refused r) q e = let z : ◌≡◌ {A = ℕ} 0 1 = cc in absurd (omega arith)
