-- Whose a key is: no key is of two parties, and in a shared table every record is of one of them. Assumes nothing.
use Prim.Native.Nat.{ℕ, suc, ◌+◌}
use mathlib.Core.Bool.{Bool, true, false, true≢false, false≢true}
use mathlib.Core.List.{List, [], ◌∷◌}
use mathlib.Core.Path.{◌≡◌, refl, sym, ◌∙◌}
use native.Mathlib.Omega.{arith}
use lib.ListN.{length}
use Rattle.fields.specs.Choice.{pick, keep, all}
use Rattle.fields.proofs.Choice.{and_left, and_right}
use Rattle.rules.specs.Node.{Rec}
use Rattle.rules.specs.Party.{own, of_keys}
use Rattle.rules.specs.Profile.{in_form, recs_formed}
use Rattle.rules.specs.declared.Party.{Party}
use Rattle.rules.specs.declared.Party.TheVariants.{Metering, Building, Nobody}
use Rattle.rules.specs.declared.Profile.TheVariants.{Shared}
use Rattle.profiles.proofs.Shared.{not-both}
use Rattle.parties.specs.TwoRuns.{same_party}

pub same-is : (p q : Party) → same_party p q ≡ true → q ≡ p
same-is Metering Metering e = refl
same-is Metering Building e = absurd (false≢true e)
same-is Metering Nobody e = absurd (false≢true e)
same-is Building Metering e = absurd (false≢true e)
same-is Building Building e = refl
same-is Building Nobody e = absurd (false≢true e)
same-is Nobody Metering e = absurd (false≢true e)
same-is Nobody Building e = absurd (false≢true e)
same-is Nobody Nobody e = refl

not-metering : (k : List ℕ) → own Building k ≡ true → own Metering k ≡ false
not-metering k e = go (own Metering k) refl
  where
    go : (b : Bool) → own Metering k ≡ b → b ≡ false
    go true q = absurd (false≢true (sym (not-both k q) ∙ e))
    go false q = refl

-- no key is of two parties
pub apart : (p q : Party) → same_party p q ≡ false → (k : List ℕ) → own q k ≡ true → own p k ≡ false
apart Metering Metering e k h = absurd (true≢false e)
apart Metering Building e k h = not-metering k h
apart Metering Nobody e k h = absurd (false≢true h)
apart Building Metering e k h = not-both k h
apart Building Building e k h = absurd (true≢false e)
apart Building Nobody e k h = absurd (false≢true h)
apart Nobody Metering e k h = refl
apart Nobody Building e k h = refl
apart Nobody Nobody e k h = refl

-- every record is of one of the two
pub count-both : (l : List Rec) → recs_formed Shared l ≡ true → length l ≡ length (of_keys (own Metering) l) + length (of_keys (own Building) l)
unfolding all keep
count-both [] e = refl
count-both (a ∷ l) e = go (own Metering a.kv.key) refl (own Building a.kv.key) refl (and_left (in_form Shared a.kv) (recs_formed Shared l) e) (count-both l (and_right (in_form Shared a.kv) (recs_formed Shared l) e))
  where
    go : (x : Bool) → own Metering a.kv.key ≡ x → (y : Bool) → own Building a.kv.key ≡ y → pick x true y ≡ true
        → length l ≡ length (of_keys (own Metering) l) + length (of_keys (own Building) l)
        → suc (length l) ≡ length (pick x (a ∷ of_keys (own Metering) l) (of_keys (own Metering) l)) + length (pick y (a ∷ of_keys (own Building) l) (of_keys (own Building) l))
    go true p true q e ih = absurd (true≢false (sym q ∙ not-both a.kv.key p))
    go true p false q e ih = omega arith
    go false p true q e ih = omega arith
    go false p false q e ih = absurd (false≢true e)
