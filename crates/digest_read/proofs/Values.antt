-- The number and the values that are told of a digest tell it. Assumes nothing.
use Prim.Native.Nat.{ℕ}
use mathlib.Core.Path.{◌≡◌, refl, ap, ap₂, sym, ◌∙◌}
use mathlib.Core.List.{List, [], ◌∷◌}
use native.Mathlib.Omega.{arith}
use lib.ListN.{length, drop, get_or}
use Rattle.rules.specs.Answers.{Told}
use Rattle.rules.specs.Node.{beats}
use Rattle.rules.proofs.Told.{number_is, value-is, need-is, not-refused, same-refusal}
use Rattle.digest_read.specs.Told.{place_values, answer_told, digest_told}
use Rattle.digest_read.specs.declared.NodeDigest.{NodeDigest as Place}
use Rattle.std.specs.Prelude.{Err, Ok, Result}
use Rattle.digest_read.specs.declared.DigestRead.{DigestRead}
use Rattle.rules.specs.declared.Refusal.{Refusal}
use Rattle.digest_read.specs.declared.Digest.{Digest}

-- a place by its numbers
abbrev placed : ℕ → ℕ → ℕ → ℕ → Place
placed n h g m = record { number = n; heartbeat = beats h; last_gc = g; max = m }

same-places : (ps qs : List Place) → place_values ps ≡ place_values qs → ps ≡ qs
unfolding place_values
same-places [] [] e = refl
same-places [] (q ∷ qs) e = let z = ap length e in absurd (omega arith)
same-places (p ∷ ps) [] e = let z = ap length e in absurd (omega arith)
same-places (p ∷ ps) (q ∷ qs) e =
    let at : (i : ℕ) → get_or (place_values (p ∷ ps)) i 0 ≡ get_or (place_values (q ∷ qs)) i 0 = λ i. ap (λ (l : List ℕ). get_or l i 0) e in
    let rest : ps ≡ qs = same-places ps qs (ap (drop 4) e) in
    ap₂ (λ (x y : ℕ). placed x y p.last_gc p.max ∷ ps) (at 0) (at 1)
    ∙ ap₂ (λ (x y : ℕ). placed q.number q.heartbeat.0 x y ∷ ps) (at 2) (at 3)
    ∙ ap (λ (l : List Place). q ∷ l) rest

same-told : (a b : Result DigestRead Refusal) (ps qs : List Place) → answer_told a ps ≡ answer_told b qs → (a ≡ b) × (ps ≡ qs)
same-told (Ok a) (Ok b) ps qs e =
    let count : a.count ≡ b.count = value-is e 0 in
    let rest : a.rest ≡ b.rest = value-is e 1 in
    (ap Ok (λ i. record { count = count i; rest = rest i }), same-places ps qs (ap (λ (t : Told). drop 2 t.values) e))
same-told (Ok d) (Err r) ps qs e = not-refused r (number_is e)
same-told (Err r) (Ok d) ps qs e = not-refused r (sym (number_is e))
same-told (Err r) (Err s) ps qs e =
    (ap Err (same-refusal r s (number_is e) (need-is e)), same-places ps qs (ap (λ (t : Told). t.values) e))

pub same-digest : (a b : Digest) → digest_told a ≡ digest_told b → a ≡ b
unfolding digest_told
same-digest a b e =
    let s = same-told a.read b.read a.entries b.entries e in
    ap₂ (λ (x : Result DigestRead Refusal) (y : List Place). record { read = x; entries = y }) s.0 s.1
