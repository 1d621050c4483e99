-- `fields::write_u16` meets its contract: the lower byte stands first. Assumes nothing.
use Prim.Native.Nat.{ℕ, suc, ◌+◌, ◌/◌, ◌%◌, ◌≤◌}
use mathlib.Core.Path.{◌≡◌, sym, ap, ap₂, ◌∙◌}
use mathlib.Core.List.{List, [], ◌∷◌}
use native.Mathlib.Omega.{arith}
use lib.ListN.{length, get_or, set, length-set}
use Rattle.fields.specs.Numbers.{bytes_of}
use Rattle.fields.specs.Parts.{put}
use Rattle.fields.proofs.Parts.{put-cons, put_one}
use Rattle.fields.proofs.write_u16.Goals as goal

stored : (l : List ℕ) (at v x y : ℕ) → x ≡ v % 256 → y ≡ v / 256 % 256 → at + 2 ≤ length l → set (set l at x) (at + 1) y ≡ put at (bytes_of 2 v) l
unfolding bytes_of
stored l at v x y ex ey f =
    let e : at + 1 ≡ suc at = omega arith in
    ap (λ (k : ℕ). set (set l at x) k y) e
    ∙ sym (put_one (suc at) y (set l at x) (simp length-set (omega arith)))
    ∙ put-cons at x (y ∷ []) l (omega arith)
    ∙ ap₂ (λ (p q : ℕ). put at (p ∷ q ∷ []) l) ex ey

pub returns : goal.returns
returns c =
    let a = c.args in
    let bytes = c.to_le_bytes.ensures in
    stored a.s.now a.at a.v _ _ (ap (λ (bs : List ℕ). get_or bs 0 0) bytes ∙ omega arith) (ap (λ (bs : List ℕ). get_or bs 1 0) bytes ∙ omega arith) c.requires
